use Rattle.std.proofs.Common.{refl}
use Rattle.neat_rules.specs.Rules.{released}
use Rattle.neat.proofs.core_part.CorePart.release.Goals as goal

pub returns : goal.returns
returns c = c.close.ensures released (record { slot = λ v w r e. e.0; commit = λ v w r e. e.1; nothing = refl })
