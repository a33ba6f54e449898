use Rattle.std.proofs.Common.{◌≤◌}
use Rattle.neat_rules.specs.State.{Line, Place, Slot}
use Rattle.neat.specs.Parts.{SendsBy}
use Rattle.neat.proofs.Sending.{Sent}
use Rattle.neat.proofs.core_part.CorePart.close.Given as goal

abbrev pub invariant-loop-slot : goal.invariant-loop-slot
invariant-loop-slot g l =
    ((rule : Line → Place → Slot) → SendsBy (goal.F-post g l.send) rule → Sent rule l.initial.slot-items l.slot-items l.slot-index l.commits)
    × (l.commits ≤ l.slot-index)
