-- A bench that marks by its table carries every study on, and its marks are the race rule's.
use Rattle.std.proofs.Common.{◌≡◌, List, sym, refl, ap, ◌∙◌, subst}
use Rattle.protocol.specs.declared.steps.Step.{Step}
use Rattle.protocol.specs.declared.steps.Ended.{Ended}
use Rattle.protocol.specs.declared.steps.Reply.{Reply}
use Rattle.protocol.specs.declared.steps.Reply.TheVariants.{Refused, Waits, Ended as AtOnce, Moved, Finished}
use Rattle.protocol.specs.Steps.{Fit}
use Rattle.protocol.specs.Meaning.{Machine, Meaning}
use Rattle.races.specs.declared.outcomes.Outcome.{Outcome}
use Rattle.races.specs.declared.table.RaceTable.{RaceTable}
use Rattle.races.specs.Log.{Log, feed}
use Rattle.races.specs.Table.{table_races, table_of, noted, marked, reply_of, mark_of}
use Rattle.races.specs.Study.{took, Watched, Takes, ends_race}
use Rattle.races.specs.Guarantee.{Counted}
use Rattle.races.proofs.StudyLaw.{coherent, study_kept, kept_step, kept_ranges, fed_step, refused_stays, ended_after}
use Rattle.races.proofs.TableLaw.{AllInRange, table_races_is, table_ended_is, table_first_is}

-- The reply is the outcome, its mark apart.
reply_kept : (w : RaceTable) (a : Reply) → reply_of (marked w a).0 ≡ a
reply_kept w (Refused e) = refl
reply_kept w Waits = refl
reply_kept w (AtOnce x) = refl
reply_kept w Moved = refl
reply_kept w (Finished x) = refl

-- The table after an answer is the one of the calls ended by then.
table_fed : (w : RaceTable) (a : Reply) (xs : List Ended) → w ≡ table_of xs → (marked w a).1 ≡ table_of (ended_after a xs)
table_fed w (Refused e) xs h = h
table_fed w Waits xs h = h
table_fed w (AtOnce x) xs h = ap (λ (z : RaceTable). noted z x) h
table_fed w Moved xs h = h
table_fed w (Finished x) xs h = ap (λ (z : RaceTable). noted z x) h

-- The mark is the race rule's.
mark_fed : (w : RaceTable) (a : Reply) (log : Log) → w ≡ table_of log.ended → AllInRange (ended_after a log.ended) → mark_of (marked w a).0 ≡ ends_race log a
mark_fed w (Refused e) log h r = refl
mark_fed w Waits log h r = refl
mark_fed w (AtOnce x) log h r = ap (λ (z : RaceTable). table_races x z.newest) h ∙ table_races_is x log.ended r.0 r.1
mark_fed w Moved log h r = refl
mark_fed w (Finished x) log h r = ap (λ (z : RaceTable). table_races x z.newest) h ∙ table_races_is x log.ended r.0 r.1

module _ (M : Machine) (means : Meaning M) where
  -- The bench's two numbers are the log's.
  pub counted : (s : M.State) (w : RaceTable) (log : Log) → Watched M s w log → Counted w log
  counted s w log h =
      record {
        ended = ap (λ (z : RaceTable). z.ended) h.table ∙ table_ended_is log.ended;
        first = ap (λ (z : RaceTable). z.first_race) h.table ∙ table_first_is log.ended (kept_ranges M means (study_kept M means h.study));
      }

  -- The study goes on with the answer, marked by the table.
  goes_on : (s : M.State) (w : RaceTable) (k : Step) (a : Reply) (t : M.State) → Fit k → M.steps s k a t → (log : Log) → Watched M s w log → Watched M t (marked w a).1 (feed log k (reply_of (marked w a).0))
  goes_on s w k a t f st log h =
      subst (λ (z : Reply). Watched M t (marked w a).1 (feed log k z)) (sym (reply_kept w a))
      (record { study = took h.study f st; table = table_fed w a log.ended h.table ∙ ap table_of (sym (fed_step M means s k a t log (study_kept M means h.study) f st)) })

  takes_reply : (s : M.State) (w : RaceTable) (k : Step) (a : Reply) (t : M.State) → Fit k → M.steps s k a t → Takes M s w k (marked w a).0 t (marked w a).1
  takes_reply s w k a t f st =
      record {
        fits = f;
        answers = subst (λ (z : Reply). M.steps s k z t) (sym (reply_kept w a)) st;
        marks = ap (marked w) (sym (reply_kept w a));
        carries = goes_on s w k a t f st;
        mark_is = λ log h.
            let kept = study_kept M means h.study in
            mark_fed w a log h.table (subst AllInRange (fed_step M means s k a t log kept f st) (kept_ranges M means (kept_step M means s k a t log kept f st)))
            ∙ ap (ends_race log) (sym (reply_kept w a));
        unchanged = λ log h e q.
            let refused = sym (reply_kept w a) ∙ q in
            (refused_stays M means s k a t (record { reached = (study_kept M means h.study).reached; fit = f; step = st }) e refused, ap (λ (z : Reply). (marked w z).1) refused);
        coherent = λ log h. coherent M means (goes_on s w k a t f st log h).study;
        counted = λ log h. counted t (marked w a).1 (feed log k (reply_of (marked w a).0)) (goes_on s w k a t f st log h);
      }

  -- The protocol's answer, marked by the table, is a step of the bench.
  pub takes : (s : M.State) (w : RaceTable) (k : Step) (a : Reply) (r : Outcome) (t : M.State) (v : RaceTable) → Fit k → M.steps s k a t → (r, v) ≡ marked w a → Takes M s w k r t v
  takes s w k a r t v f st e = subst (λ (z : Outcome × RaceTable). Takes M s w k z.0 t z.1) (sym e) (takes_reply s w k a t f st)
