use Rattle.std.proofs.Common.{arith}
use Rattle.neat_rules.specs.Rules.{evict}
use Rattle.neat.proofs.Whole.{core_changed}
use Rattle.neat.proofs.caches.Caches.evict.Goals as goal

pub returns : goal.returns
returns c = core_changed (evict c.args.core.number c.args.line.number) c.args.self.now c.index.result c.args.core.number c.evict.new.self c.index-self-index.result c.evict.result (omega arith) c.args.core.in_range c.index.ensures c.evict.ensures
