use Rattle.std.proofs.Common.{arith}
use Rattle.neat_rules.specs.State.{Slot}
use Rattle.neat.specs.Lines.{written_in}
use Rattle.neat.proofs.Parts.{part_changed}
use Rattle.neat.proofs.core_part.CorePart.write.Goals as goal

pub returns : goal.returns
returns c =
    part_changed (λ (u : Slot). record { line = written_in u.line c.args.offset.number c.args.byte; place = u.place }) c.args.self.now c.index.result c.args.line.number c.write.new.self (omega arith) c.args.line.in_range c.index.ensures c.write.ensures
