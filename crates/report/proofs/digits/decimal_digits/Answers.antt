use Rattle.std.proofs.Common.{◌∙◌}
use Rattle.report.proofs.Tens.{five_digits}
use Rattle.report.proofs.digits.decimal_digits.Goals as goal

pub returns : goal.returns
returns c = c.last_digits.ensures ∙ five_digits c.args.n
