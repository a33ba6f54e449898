use Rattle.std.proofs.Common.{refl, arith}
use Rattle.neat_rules.specs.State.{Slot}
use Rattle.neat.specs.Parts.{as_place}
use Rattle.neat.proofs.Parts.{part_changed}
use Rattle.neat.proofs.core_part.CorePart.carry.Goals as goal

pub returns : goal.returns
returns c =
    part_changed (λ (u : Slot). record { line = u.line; place = as_place c.args.place }) c.args.self.now c.index.result c.args.line.number _ (omega arith) c.args.line.in_range c.index.ensures refl
