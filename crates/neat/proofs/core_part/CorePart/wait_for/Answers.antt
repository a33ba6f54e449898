use Rattle.std.proofs.Common.{Some, ap, ◌∙◌, arith}
use Rattle.protocol.specs.Cells.{line_of}
use Rattle.neat_rules.specs.State.{Slot, Core, with_activity}
use Rattle.neat_rules.specs.Rules.{asked}
use Rattle.neat.specs.Parts.{as_activity}
use Rattle.neat.proofs.Parts.{part_changed}
use Rattle.neat.proofs.core_part.CorePart.wait_for.Goals as goal

pub returns : goal.returns
returns c =
    ap (λ (x : Core). with_activity x (as_activity (Some c.args.activity)))
    (part_changed (λ (u : Slot). record { line = u.line; place = asked u.place }) c.args.self.now c.index.result (line_of c.args.address.number) c.ask.new.self (omega arith) (omega arith) (c.index.ensures ∙ c.line.ensures) c.ask.ensures)
