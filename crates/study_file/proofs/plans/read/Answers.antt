-- The first record, and then the steps, make the plan of the rules.
use Rattle.std.proofs.Common.{Ok, Err, vec_items, sym, ap, ◌∙◌}
use Rattle.std.specs.declared.alloc.Global.{Global}
use Rattle.study_file.specs.declared.plans.Failure.TheVariants.{Fault as HasFault}
use Rattle.study_file.specs.Records.{held}
use Rattle.study_file.specs.Plans.{asked, with_code}
use Rattle.study_file.proofs.Planning.{read_next, first_sound, read_code, read_all, answers_all, handed, handed_place, fault_exit, same_exit}
use Rattle.study_file.proofs.Trips.{promised}
use Rattle.study_file.proofs.plans.read.Goals as goal

pub returns-in_err-first : goal.returns-in_err-first
returns-in_err-first c =
    promised c.args.file.now _
    (
    fault_exit asked _ c.from_residual.result c.in_err-first.field-0.0 c.from_residual.ensures.1
    (read_next c.args.file.now _ _ c.new-reader.ensures.file c.new-reader.ensures.place (Err c.in_err-first.field-0.0) c.in_err-first.ensures.next)
    )

pub returns-in_default : goal.returns-in_default
returns-in_default c =
    promised c.args.file.now (Err (HasFault c.fault.result))
    (
    read_next c.args.file.now _ _ c.new-reader.ensures.file c.new-reader.ensures.place _ (handed _ _ _ c.in_default.is c.in_ok-first.ensures.next) ∙ ap Err (sym c.fault.ensures)
    )

pub code_of-requires : goal.code_of-requires
code_of-requires c =
    first_sound c.args.file.now _ _ c.new-reader.ensures.file c.new-reader.ensures.place (held c.in-Some.first) (handed _ _ _ c.in-Some.is c.in_ok-first.ensures.next)

pub returns-in_err-code : goal.returns-in_err-code
returns-in_err-code c =
    promised c.args.file.now _
    (
    fault_exit asked _ c.from_residual-in_err-code.result c.in_err-code.field-0.0 c.from_residual-in_err-code.ensures.1
    (read_code c.args.file.now _ _ c.new-reader.ensures.file c.new-reader.ensures.place (held c.in-Some.first) (Err c.in_err-code.field-0.0) (handed _ _ _ c.in-Some.is c.in_ok-first.ensures.next) c.in_err-code.ensures)
    )

pub returns-in_err-steps : goal.returns-in_err-steps
returns-in_err-steps c =
    promised c.args.file.now _
    (
    same_exit asked _ c.from_residual-in_err-steps.result c.in_err-steps.field-0.0 c.from_residual-in_err-steps.ensures.1
    (answers_all (vec_items {Z = Global}) c.in_ok-code.code _ _ c.in_err-steps.field-0.0
    (read_all c.args.file.now _ _ c.new-reader.ensures.file c.new-reader.ensures.place (held c.in-Some.first) c.in_ok-code.code _ _ (handed _ _ _ c.in-Some.is c.in_ok-first.ensures.next) c.in_ok-code.ensures c.next_record.ensures.file (handed_place _ _ _ _ c.in-Some.is c.in_ok-first.ensures.place))
    c.in_err-steps.ensures)
    )

pub returns : goal.returns
returns c =
    promised c.args.file.now (Ok (record { code = c.in_ok-code.code; steps = c.in_ok-steps.steps }))
    (
    read_all c.args.file.now _ _ c.new-reader.ensures.file c.new-reader.ensures.place (held c.in-Some.first) c.in_ok-code.code _ _ (handed _ _ _ c.in-Some.is c.in_ok-first.ensures.next) c.in_ok-code.ensures c.next_record.ensures.file (handed_place _ _ _ _ c.in-Some.is c.in_ok-first.ensures.place)
    ∙ ap (with_code c.in_ok-code.code) c.in_ok-steps.ensures
    )
