-- The digits from the place on are there.
use Rattle.report.proofs.Tens.{DigitsFar}
use Rattle.report.proofs.digits.last_digits.Given as goal

abbrev pub invariant-loop-place : goal.invariant-loop-place
invariant-loop-place g l = DigitsFar l.digits l.number g.row.N l.place l.left
