-- The records of the steps so far stand in the buffer.
use Rattle.study_file.proofs.Filling.{Filled}
use Rattle.study_file.proofs.writer.put_steps.Given as goal

abbrev pub invariant-loop-step : goal.invariant-loop-step
invariant-loop-step l = Filled l.initial.buffer l.start l.steps l.step-index l.buffer l.at
