-- A hand-over, over any protocol: none of its calls races, so the guarantee says which byte was loaded.
use Rattle.std.proofs.Common.{◌≡◌, ℕ, ◌<◌, true, false, cond, not, eqb, leb, List, [], ◌∷◌, Some, None, Option, sym, refl, ap, ◌∙◌, subst}
use Rattle.std.proofs.lemmas.Bool.{eq-eqb, lt-leb, and_right, or_from}
use Rattle.protocol.specs.declared.steps.Step.{Step}
use Rattle.protocol.specs.declared.steps.Step.TheVariants.{Load, Store, Acquire, Release}
use Rattle.protocol.specs.declared.steps.Ended.{Ended}
use Rattle.protocol.specs.declared.steps.Ended.TheVariants.{Loaded, Stored, Acquired, Released}
use Rattle.protocol.specs.declared.steps.Refusal.TheVariants.{NoSuchCore, NoSuchAddress}
use Rattle.protocol.specs.Steps.{call_of}
use Rattle.protocol.specs.Meaning.{Machine, Meaning, busy}
use Rattle.races.specs.declared.outcomes.Outcome.{Outcome}
use Rattle.races.specs.declared.table.RaceTable.{RaceTable}
use Rattle.races.specs.Log.{empty_log, answered, as_ended}
use Rattle.races.specs.Races.{races, any_race}
use Rattle.races.specs.Table.{start}
use Rattle.races.specs.Study.{Watched}
use Rattle.races.specs.Guarantee.{expected}
use Rattle.races.proofs.StudyLaw.{adds_itself, study_kept, kept_ranges, coherent}
use Rattle.races.proofs.TableLaw.{AllInRange}
use Rattle.bench.specs.Handovers.{AwaitsEach, Quiet, HandedOver, handover_calls, loaded_byte, HandoverTrail}

same : (n : ℕ) → eqb n n ≡ true
same n = eq-eqb n n refl

-- The acquire follows the release of the store, so the load does not race.
load_clean : (c d a b x : ℕ) → races (Loaded d a x) (Acquired d ∷ (Released c ∷ (Stored c a b ∷ []))) ≡ false
load_clean c d a b x = simp (same a, same c, same d) (and_right (not (eqb c d)) false refl)

no_race : (c d a b x : ℕ) → any_race (handover_calls c d a b x) ≡ false
no_race c d a b x = or_from (races (Loaded d a x) (Acquired d ∷ (Released c ∷ (Stored c a b ∷ [])))) false (load_clean c d a b x) refl

stored_there : (c d a b : ℕ) → expected a (Acquired d ∷ (Released c ∷ (Stored c a b ∷ []))) ≡ b
stored_there c d a b = simp (same a)

-- An ended call whose call is a load is that load, with its answer.
pub loaded_is : (x : Ended) (d a : ℕ) → call_of x ≡ Load d a → x ≡ Loaded d a (answered x)
loaded_is x d a e = let h : x ∷ [] ≡ Loaded d a (answered x) ∷ [] = sym (adds_itself x []) ∙ ap (λ (z : Step). as_ended z (answered x) []) e in cc

-- The call k ended as x.
abbrev EndsAs : (M : Machine) → M.State → RaceTable → Step → Ended → M.State → RaceTable → Type 0
EndsAs M s w k x t v = (xs : List Ended) → Quiet M s w xs → (call_of x ≡ k) × (Quiet M t v (x ∷ xs))

module _ {M : Machine} where
  -- An ended call is the one that was made.
  made_call : {t : M.State} {v : RaceTable} {xs : List Ended} {x : Ended} {k : Step} → (call_of x ≡ k) × (Quiet M t v (x ∷ xs)) → Quiet M t v (as_ended k (answered x) xs)
  made_call {t} {v} {xs} {x} (e, q) = subst (Quiet M t v) (sym (adds_itself x xs) ∙ ap (λ (z : Step). as_ended z (answered x) xs) e) q

  pub after_store : {s t : M.State} {w v : RaceTable} {xs : List Ended} {x : Ended} {c a b : ℕ} → Quiet M s w xs → EndsAs M s w (Store c a b) x t v → Quiet M t v (Stored c a b ∷ xs)
  after_store {xs = xs} q h = made_call (h xs q)

  pub after_release : {s t : M.State} {w v : RaceTable} {xs : List Ended} {x : Ended} {c : ℕ} → Quiet M s w xs → EndsAs M s w (Release c) x t v → Quiet M t v (Released c ∷ xs)
  after_release {xs = xs} q h = made_call (h xs q)

  pub after_acquire : {s t : M.State} {w v : RaceTable} {xs : List Ended} {x : Ended} {c : ℕ} → Quiet M s w xs → EndsAs M s w (Acquire c) x t v → Quiet M t v (Acquired c ∷ xs)
  after_acquire {xs = xs} q h = made_call (h xs q)

  pub after_load : {s t : M.State} {w v : RaceTable} {xs : List Ended} {x : Ended} {c a : ℕ} (b : ℕ) → Quiet M s w xs → EndsAs M s w (Load c a) x t v → answered x ≡ b → Quiet M t v (Loaded c a b ∷ xs)
  after_load {t = t} {v = v} {xs = xs} {c = c} {a = a} b q h e = subst (λ (z : ℕ). Quiet M t v (Loaded c a z ∷ xs)) e (made_call (h xs q))

  -- In such a study a core in range is free, and so are a core and an address in range.
  pub core_free : {s : M.State} {w : RaceTable} {xs : List Ended} (c : ℕ) → Quiet M s w xs → c < 8 → cond (leb 8 c) (Some NoSuchCore) (busy ((M.moment s).waits c)) ≡ None
  core_free c q l = simp (lt-leb 8 c l, q.no_wait c l)

  pub address_free : {s : M.State} {w : RaceTable} {xs : List Ended} (c a : ℕ) → Quiet M s w xs → c < 8 → a < 64 → cond (leb 8 c) (Some NoSuchCore) (cond (leb 64 a) (Some NoSuchAddress) (busy ((M.moment s).waits c))) ≡ None
  address_free c a q l k = simp (lt-leb 64 a k, core_free c q l)

  -- The calls that a hand-over made after a clear.
  pub made_after : {s t : M.State} {w v : RaceTable} {c d a b : ℕ} {out new : List Outcome} {o : Option Ended} {r : Option ℕ} → M.fresh s → w ≡ start → AwaitsEach M s w (Store c a b ∷ (Release c ∷ (Acquire d ∷ (Load d a ∷ [])))) out o t v new → r ≡ loaded_byte o → HandoverTrail M c d a b out r t v new
  made_after {s} {t} {w} {v} {c} {d} {a} {b} {out} {new} {o} f e h q =
      record {
        first = s;
        begins = f;
        last = o;
        calls = subst (λ (z : RaceTable). AwaitsEach M s z (Store c a b ∷ (Release c ∷ (Acquire d ∷ (Load d a ∷ [])))) out o t v new) e h;
        answer = q;
      }

module _ (M : Machine) (means : Meaning M) where
  -- Right after a clear no call has been made, and no core waits.
  pub at_start : {s : M.State} {w : RaceTable} → M.fresh s → Watched M s w empty_log → Quiet M s w []
  at_start {s} f h = record { log = empty_log; watched = h; ended = refl; calls = refl; no_wait = (means.clears s f).no_wait }

  -- All four calls have ended.
  pub handed_over : {t : M.State} {v : RaceTable} {c d a b x : ℕ} → Quiet M t v (handover_calls c d a b x) → HandedOver M c d a b x t v
  handed_over {t} {v} {c} {d} {a} {b} {x} q =
      let ranges = subst AllInRange q.ended (kept_ranges M means (study_kept M means q.watched.study)) in
      record {
        made = q;
        same = (coherent M means q.watched.study).loads [] (Acquired d ∷ (Released c ∷ (Stored c a b ∷ []))) d a x q.ended (no_race c d a b x) ∙ stored_there c d a b;
        in_range = (ranges.1.1.1.0.0, ranges.0.0, ranges.0.1);
      }
