-- Each turn writes one digit in front of the others.
use Rattle.std.proofs.Common.{refl, arith}
use Rattle.report.proofs.Tens.{far_more}
use Rattle.report.proofs.digits.last_digits.Goals as goal

pub loop-place-preserved : goal.loop-place-preserved
loop-place-preserved g c = far_more c.loop-place.digits c.args.number g.row.N c.loop-place.place c.loop-place.left _ (omega (arith, c.loop-place-test.true)) c.loop-place.auto.place refl c.loop-place.invariant
