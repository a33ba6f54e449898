-- Each turn prints one line.
use Rattle.std.proofs.Common.{[]}
use Rattle.bench.specs.Chains.{nothing}
use Rattle.report.proofs.Paging.{puts_none}
use Rattle.printing.proofs.Filling.{steps_more}
use Rattle.printing.proofs.pages.print_steps.Goals as goal

pub loop-step-init : goal.loop-step-init
loop-step-init g c = record { rs = []; chain = nothing; puts = puts_none c.args.page.now }

pub loop-step-preserved : goal.loop-step-preserved
loop-step-preserved g c =
    steps_more g.P.Protocol.machine c.args.steps.now c.loop-step.step-index _ c.step-outcome.result c.step_line.result c.loop-step-test.true c.loop-step.invariant c.step-outcome.ensures c.step_line.ensures c.put.ensures
