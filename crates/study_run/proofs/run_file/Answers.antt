-- The report is that of the plan that was read.
use Rattle.std.proofs.Common.{List, Ok, Result, sym, ap, ◌∙◌, subst}
use Rattle.protocol.specs.declared.steps.Step.{Step}
use Rattle.bench.specs.declared.faults.Fault.{Fault}
use Rattle.printing.specs.Page.{Prints}
use Rattle.study_file.specs.Plans.{Asked, asked}
use Rattle.study_run.specs.Reports.{heading_of, machine_of, read_comes_to}
use Rattle.study_run.proofs.Computing.{plan_computed}
use Rattle.study_run.proofs.run_file.Goals as goal

pub returns : goal.returns
returns c =
    let plan = c.in_ok-plan.plan in
    let is = c.in_ok-plan.ensures.reads in
    let printed = subst (λ (z : List Step). Prints (machine_of plan.code) (heading_of plan.code) z c.args.out.now (Ok c.in_ok-print_plan.field-0) c.print_plan.new.out) c.as_slice.ensures.value c.in_ok-print_plan.ensures in
    record {
      computed = plan_computed plan.code _ c.args.out.now c.print_plan.new.out (Ok c.in_ok-print_plan.field-0) printed ∙ ap (λ (z : Result Asked Fault). read_comes_to z c.args.out.now) (sym is);
      study = (asked plan, is, printed);
    }
