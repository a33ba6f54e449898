-- The line is its pieces, one behind the other.
use Rattle.std.proofs.Common.{◌++◌, length, codes, ap, ◌∙◌, arith, rules}
use Rattle.report.specs.Lines.{line_end, ended_line}
use Rattle.report.proofs.Paging.{puts_more, puts_line}
use Rattle.report.proofs.lines.ended_line.Goals as goal

pub returns : goal.returns
returns c =
    search rules
    ∙ puts_line (ended_line c.args.ended c.args.race) c.new-page.ensures.written (let room = ap length c.new-page.ensures.rest in omega arith)
    (puts_more _ _ c.put.ensures (puts_more _ _ c.put-2.ensures (puts_more _ _ c.put-3.ensures (puts_more _ _ c.put-4.ensures c.put-5.ensures))))
    (λ i. codes "ended " ++ (c.decimal_digits.ensures i ++ (codes " race " ++ (c.decimal_digits-2.ensures i ++ line_end))))
