use Rattle.std.proofs.Common.{refl}
use Rattle.neat_rules.specs.State.{Commit}
use Rattle.neat_rules.specs.Rules.{emptied}
use Rattle.neat.proofs.core_part.CorePart.acquire.Goals as goal

pub returns : goal.returns
returns c = c.close.ensures (emptied Commit) (record { slot = λ v w r e. e.0; commit = λ v w r e. e.1; nothing = refl })
