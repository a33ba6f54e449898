-- The steps so far, and what is left of the file, make the result.
use Rattle.std.proofs.Common.{◌-◌, length, drop, vec_items}
use Rattle.study_file.specs.Plans.{most_steps, steps_from}
use Rattle.study_file.proofs.Planning.{Going}
use Rattle.study_file.proofs.plans.read_steps.Given as goal

abbrev pub invariant-loop-steps : goal.invariant-loop-steps
invariant-loop-steps l = Going (steps_from most_steps l.initial.reader.place (drop l.initial.reader.place l.initial.reader.file.now)) l.reader.file.now l.reader.place (vec_items l.steps)

abbrev pub decreases-loop-steps : goal.decreases-loop-steps
decreases-loop-steps l = length l.reader.file.now - l.reader.place
