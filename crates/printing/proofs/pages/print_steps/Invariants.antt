-- The steps so far are taken, and their lines are put.
use Rattle.std.proofs.Common.{take}
use Rattle.printing.specs.Page.{StepsPrinted}
use Rattle.printing.proofs.pages.print_steps.Given as goal

abbrev pub invariant-loop-step : goal.invariant-loop-step
invariant-loop-step g l =
    StepsPrinted g.P.Protocol.machine (g.P.Protocol.state l.initial.bench.protocol) l.initial.bench.races (take l.step-index l.steps) l.initial.page l.page (g.P.Protocol.state l.bench.protocol) l.bench.races
