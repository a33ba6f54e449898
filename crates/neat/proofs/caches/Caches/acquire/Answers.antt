use Rattle.std.proofs.Common.{arith}
use Rattle.neat_rules.specs.Rules.{acquire}
use Rattle.neat.proofs.Whole.{core_changed}
use Rattle.neat.proofs.caches.Caches.acquire.Goals as goal

pub returns : goal.returns
returns c = core_changed acquire c.args.self.now c.index.result c.args.core.number c.acquire.new.self c.index-self-index.result c.acquire.result (omega arith) c.args.core.in_range c.index.ensures c.acquire.ensures
