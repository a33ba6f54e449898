-- The line is its pieces, one behind the other.
use Rattle.std.proofs.Common.{◌+◌, ◌∷◌, ◌++◌, length, codes, ap, ◌∙◌, arith, rules}
use Rattle.report.specs.Lines.{line_end}
use Rattle.report.proofs.Paging.{puts_more, puts_line}
use Rattle.printing.specs.Page.{fault_line, two_digits}
use Rattle.printing.proofs.TwoDigits.{digits_of-two}
use Rattle.printing.proofs.faults.fault_line.Goals as goal

pub returns : goal.returns
returns c =
    let cause = c.last_digits.ensures ∙ (digits_of-two _ ∙ ap two_digits (c.from-2.ensures ∙ c.from.ensures)) in
    let place = c.decimal_digits.ensures in
    search rules
    ∙ puts_line (fault_line c.args.fault) c.new-page.ensures.written (let room = ap length c.new-page.ensures.rest in omega arith)
    (puts_more _ _ c.put.ensures (puts_more _ _ c.put-2.ensures (puts_more _ _ c.put-3.ensures (puts_more _ _ c.put-4.ensures (puts_more _ _ c.put-5.ensures (puts_more _ _ c.put-6.ensures c.put-7.ensures))))))
    (λ i. codes "fault " ++ (cause i ++ (codes " place " ++ (place i ++ (codes " layer " ++ ((48 + c.from-3.ensures i) ∷ line_end))))))
