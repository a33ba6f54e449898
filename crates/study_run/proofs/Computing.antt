-- What is printed is computed by the rules of the protocol.
use Rattle.std.proofs.Common.{◌≡◌, ℕ, Bool, cond, List, ◌++◌, length, drop, Ok, Err, Result, sym, ap, ◌∙◌, arith}
use Rattle.std.proofs.lemmas.Bool.{lt-ltb, le-ltb}
use Rattle.protocol.specs.declared.steps.Step.{Step}
use Rattle.protocol.specs.declared.steps.Reply.{Reply}
use Rattle.protocol.specs.Meaning.{Machine}
use Rattle.races.specs.Table.{start}
use Rattle.bench.specs.declared.faults.Fault.{Fault}
use Rattle.bench.specs.Computed.{Follows, state_after, table_after, outcomes_of}
use Rattle.printing.specs.Page.{report_of, report_length, short_output, Printed, Prints}
use Rattle.mesi_rules.specs.Bus as bus
use Rattle.neat_rules.specs.State as neat_state
use Rattle.neat_rules.specs.Machine.{neat}
use Rattle.buffer_rules.specs.Buffered.{Pile, buffered, buffer_step, ByFunction}
use Rattle.buffer_rules.proofs.ByFunction.{buffered_by_function}
use Rattle.study_file.specs.declared.codes.Code.{Code}
use Rattle.study_file.specs.declared.codes.Code.TheVariants.{Neat, Mesi, BufferedNeat, BufferedMesi}
use Rattle.study_run.specs.Reports.{report_under, heading_of, neat_step, mesi_step, over, placed, plan_comes_to, machine_of}

module _ (M : Machine) (f : M.State → Step → Reply × M.State) (first : M.State) (follows : Follows M f) (begins : (s : M.State) → M.fresh s → s ≡ first) where
  -- A printed page is the computed one.
  page_is : (heading : List ℕ) (ks : List Step) (out new : List ℕ) (n : ℕ) → Printed M heading ks out new n → new ≡ report_under f first (λ s. (M.moment s).view.home) heading ks ++ drop n out
  page_is heading ks out new n h =
      let e = begins h.first h.begins in
      let x = h.computed f follows in
      let rs_is : h.rs ≡ outcomes_of f first start ks = x.0 ∙ ap (λ (s : M.State). outcomes_of f s start ks) e in
      let last_is : h.last ≡ state_after f first ks = x.1 ∙ ap (λ (s : M.State). state_after f s ks) e in
      let table_is : h.table ≡ table_after f first start ks = x.2 ∙ ap (λ (s : M.State). table_after f s start ks) e in
      h.written ∙ (λ i. report_of heading ks (rs_is i) (table_is i) (M.moment (last_is i)).view.home ++ drop n out)

  pub prints_computed : (heading : List ℕ) (ks : List Step) (out new : List ℕ) (r : Result ℕ Fault) → Prints M heading ks out r new → (r, new) ≡ placed (report_under f first (λ s. (M.moment s).view.home) heading ks) (report_length (length ks)) out
  prints_computed heading ks out new (Ok n) h =
      let page = report_under f first (λ s. (M.moment s).view.home) heading ks in
      let e : n ≡ report_length (length ks) = h.counted in
      let at : Result ℕ Fault × List ℕ = (Ok (report_length (length ks)), page ++ drop (report_length (length ks)) out) in
      (λ i. (Ok (e i), (page_is heading ks out new n h ∙ ap (λ (z : ℕ). page ++ drop z out) e) i))
      ∙ ap (λ (t : Bool). cond t (Err short_output, out) at) (sym (le-ltb (length out) (report_length (length ks)) (let l = h.room in omega arith)))
  prints_computed heading ks out new (Err g) h =
      let page = report_under f first (λ s. (M.moment s).view.home) heading ks in
      let at : Result ℕ Fault × List ℕ = (Ok (report_length (length ks)), page ++ drop (report_length (length ks)) out) in
      (λ i. (Err (h.0 i), h.2 i)) ∙ ap (λ (t : Bool). cond t (Err short_output, out) at) (sym (lt-ltb (length out) (report_length (length ks)) h.1))

-- A buffer over a cleared protocol begins with no entry.
over_begins : (M : Machine) (first : M.State) → ((s : M.State) → M.fresh s → s ≡ first) → (p : Pile M.State) → (buffered M).fresh p → p ≡ over first
over_begins M first h p g = λ i. record { below = h p.below g.0 i; buffers = g.1 i }

buffer_follows : (M : Machine) (f : M.State → Step → Reply × M.State) → ByFunction M f → Follows (buffered M) (buffer_step f)
buffer_follows M f h s k r t = (buffered_by_function M f h s k r t).0

pub plan_computed : (c : Code) (ks : List Step) (out new : List ℕ) (r : Result ℕ Fault) → Prints (machine_of c) (heading_of c) ks out r new → (r, new) ≡ plan_comes_to c ks out
plan_computed Neat ks out new r h = prints_computed neat neat_step neat_state.start (λ s k x t e. e) (λ s e. e) (heading_of Neat) ks out new r h
plan_computed Mesi ks out new r h = prints_computed bus.mesi_machine mesi_step bus.start (λ s k x t e. e) (λ s e. e) (heading_of Mesi) ks out new r h
plan_computed BufferedNeat ks out new r h =
    prints_computed (buffered neat) (buffer_step neat_step) (over neat_state.start) (buffer_follows neat neat_step (λ s k x t. (λ e. e, λ e. e))) (over_begins neat neat_state.start (λ s e. e)) (heading_of BufferedNeat) ks out new r h
plan_computed BufferedMesi ks out new r h =
    prints_computed (buffered bus.mesi_machine) (buffer_step mesi_step) (over bus.start) (buffer_follows bus.mesi_machine mesi_step (λ s k x t. (λ e. e, λ e. e))) (over_begins bus.mesi_machine bus.start (λ s e. e)) (heading_of BufferedMesi) ks out new r h
