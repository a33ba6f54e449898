-- Each record carries the reading on, or ends it as the rules say.
use Rattle.std.proofs.Common.{Err, vec_items, sym, ap, ◌∙◌, arith}
use Rattle.study_file.specs.Records.{held}
use Rattle.study_file.proofs.Planning.{going_end, going_fault, going_sound, going_bad, going_full, going_again, handed, handed_place, fault_exit}
use Rattle.study_file.proofs.plans.read_steps.Goals as goal

pub returns-in_err-record : goal.returns-in_err-record
returns-in_err-record c =
    fault_exit vec_items _ c.from_residual-in_err-record.result c.in_err-record.field-0.0 c.from_residual-in_err-record.ensures.1
    (going_fault _ _ _ _ c.loop-steps.invariant c.in_err-record.field-0.0 c.in_err-record.ensures.next)

pub step_of-requires : goal.step_of-requires
step_of-requires c = (going_sound _ _ _ _ c.loop-steps.invariant (held c.in-Some.record) (handed _ _ _ c.in-Some.is c.in_ok-record.ensures.next)).fit

pub returns-in_err-step : goal.returns-in_err-step
returns-in_err-step c =
    fault_exit vec_items _ c.from_residual-in_err-step.result c.in_err-step.field-0.0 c.from_residual-in_err-step.ensures.1
    (going_bad _ _ _ _ c.loop-steps.invariant (held c.in-Some.record) c.in_err-step.field-0.0 (handed _ _ _ c.in-Some.is c.in_ok-record.ensures.next) c.in_err-step.ensures)

pub returns-then-len-eq-MOST_STEPS : goal.returns-then-len-eq-MOST_STEPS
returns-then-len-eq-MOST_STEPS c =
    going_full _ _ _ _ c.loop-steps.invariant (held c.in-Some.record) c.in_ok-step.step (handed _ _ _ c.in-Some.is c.in_ok-record.ensures.next) c.in_ok-step.ensures
    (omega (arith, c.loop-steps.steps.ok.0)) ∙ ap Err (sym c.fault.ensures)

pub loop-steps-preserved : goal.loop-steps-preserved
loop-steps-preserved c =
    going_again _ _ _ _ c.loop-steps.invariant (held c.in-Some.record) c.in_ok-step.step _ _ _ (handed _ _ _ c.in-Some.is c.in_ok-record.ensures.next) c.in_ok-step.ensures
    (omega (arith, c.loop-steps.steps.ok.0)) c.next_record.ensures.file (handed_place _ _ _ _ c.in-Some.is c.in_ok-record.ensures.place) c.in_ok-push.ensures.items

pub returns : goal.returns
returns c = going_end _ _ _ _ c.loop-steps.invariant (handed _ _ _ c.in_default.is c.in_ok-record.ensures.next)
