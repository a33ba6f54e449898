use Rattle.std.proofs.Common.{arith}
use Rattle.neat_rules.specs.Rules.{release}
use Rattle.neat.proofs.Whole.{core_changed}
use Rattle.neat.proofs.caches.Caches.release.Goals as goal

pub returns : goal.returns
returns c = core_changed release c.args.self.now c.index.result c.args.core.number c.release.new.self c.index-self-index.result c.release.result (omega arith) c.args.core.in_range c.index.ensures c.release.ensures
