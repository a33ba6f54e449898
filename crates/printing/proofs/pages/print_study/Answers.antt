-- The page, piece by piece.
use Rattle.std.proofs.Common.{◌∙◌, arith, rules}
use Rattle.report.specs.Lines.{ended_line}
use Rattle.printing.proofs.Filling.{page_done, printed_as}
use Rattle.printing.proofs.pages.print_study.Goals as goal

pub returns : goal.returns
returns g c =
    printed_as (search rules) c.filled.ensures
    (page_done g.P.Protocol.machine g.met.P.Protocol.keeps (g.P.Protocol.state c.new-bench.result.protocol) _ c.new-bench.result.races _ c.args.steps.now c.args.heading c.ended_line.result c.args.out.now c.new-bench.ensures.fresh c.new-bench.ensures.table (omega arith)
    c.new-page.ensures.written c.new-page.ensures.rest c.put.ensures c.print_steps.ensures (c.ended_line.ensures ∙ (λ i. ended_line (c.ended.ensures.value i) (c.first_race.ensures.value i))) c.put-2.ensures c.print_image.ensures.image c.put-3.ensures (let h = c.report_length.ensures in omega arith))
