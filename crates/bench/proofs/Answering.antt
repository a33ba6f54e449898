-- Each kind of request, answered in its room.
use Rattle.std.proofs.Common.{◌≡◌, ℕ, ◌<◌, ◌≤◌, Bool, List, [], length, Ok, Err, Option, Result, sym, refl, ap, ◌∙◌, subst, zero-le, arith, Bor}
use Rattle.protocol.specs.declared.steps.Step.{Step}
use Rattle.protocol.specs.declared.steps.Refusal.{Refusal}
use Rattle.protocol.specs.Meaning.{Machine}
use Rattle.races.specs.declared.outcomes.Outcome.{Outcome}
use Rattle.races.specs.declared.table.RaceTable.{RaceTable}
use Rattle.races.specs.Study.{Takes}
use Rattle.bench.specs.declared.faults.Fault.{Fault}
use Rattle.bench.specs.declared.requests.Request.{Request}
use Rattle.bench.specs.declared.requests.Request.TheVariants.{Step as One, Run, Settle, Image, NextOpen}
use Rattle.bench.specs.declared.requests.Answer.TheVariants.{Stepped, Ran as RunIs, Settled as SettledIs, Imaged, Found}
use Rattle.bench.specs.Faults.{few_outcomes}
use Rattle.bench.specs.Chains.{Ran, Settled, AnyStep}
use Rattle.bench.specs.Requests.{Asks, stepped, ran, no_room, settled, imaged, found, Answered, room_of}
use Rattle.bench.proofs.Chaining.{chain_length}

module _ (M : Machine) where
  pub step_answered : {s t : M.State} {w v : RaceTable} {q : Request} {k : Step} {r : Outcome} (out : List Outcome) → q ≡ One k → Takes M s w k r t v → Answered M s w q out (Stepped r) 0 t v out
  step_answered {s} {t} {w} {v} {q} {k} {r} out e h = record { rs = []; asks = subst (λ (z : Request). Asks M s w z (Stepped r) [] t v) (sym e) (stepped h); few = zero-le; counted = refl; written = refl }

  pub run_answered : {s t : M.State} {w v : RaceTable} {q : Request} {ks : Bor (List Step)} {n : ℕ} {out new : List Outcome} → q ≡ Run ks n → length out ≡ room_of q → Ran M s w ks.now out t v new → Answered M s w q out (RunIs (Ok tt)) (length ks.now) t v new
  run_answered {s} {t} {w} {v} {q} {ks} {n} {out} {new} e l h =
      let m : length out ≡ n = l ∙ ap room_of e in
      let long = chain_length M (AnyStep M) h.chain in
      let few : length h.rs ≤ n = let x = h.room in omega arith in
      record {
        rs = h.rs;
        asks = subst (λ (z : Request). Asks M s w z (RunIs (Ok tt)) h.rs t v) (sym e) (ran (let x = h.room in omega arith) h.chain);
        few = subst (λ (z : Request). length h.rs ≤ room_of z) (sym e) few;
        counted = long;
        written = h.written;
      }

  pub fault_answered : {s t : M.State} {w v : RaceTable} {q : Request} {ks : Bor (List Step)} {n : ℕ} {out new : List Outcome} {f : Fault} → q ≡ Run ks n → length out ≡ room_of q → f ≡ few_outcomes → length out < length ks.now → new ≡ out → t ≡ s → v ≡ w → Answered M s w q out (RunIs (Err f)) 0 t v new
  fault_answered {s} {t} {w} {v} {q} {ks} {n} {out} {new} {f} e l b h o p r =
      let m : length out ≡ n = l ∙ ap room_of e in
      record {
        rs = [];
        asks =
            subst (λ (z : Request). Asks M s w z (RunIs (Err f)) [] t v) (sym e)
            (subst (λ (z : Fault). Asks M s w (Run ks n) (RunIs (Err z)) [] t v) (sym b)
            (subst (λ (z : M.State). Asks M s w (Run ks n) (RunIs (Err few_outcomes)) [] z v) (sym p)
            (subst (λ (z : RaceTable). Asks M s w (Run ks n) (RunIs (Err few_outcomes)) [] s z) (sym r) (no_room (omega arith)))));
        few = zero-le;
        counted = refl;
        written = o;
      }

  pub settle_answered : {s t : M.State} {w v : RaceTable} {q : Request} {n : ℕ} {out new : List Outcome} {count : ℕ} {still : Bool} → q ≡ Settle n → length out ≡ room_of q → Settled M s w out count still t v new → Answered M s w q out (SettledIs count still) count t v new
  settle_answered {s} {t} {w} {v} {q} {n} {out} {new} {count} {still} e l h =
      let m : length out ≡ n = l ∙ ap room_of e in
      let few : length h.rs ≤ n = let x = h.room in let y = h.counted in omega arith in
      record {
        rs = h.rs;
        asks =
            subst (λ (z : Request). Asks M s w z (SettledIs count still) h.rs t v) (sym e)
            (subst (λ (z : ℕ). Asks M s w (Settle n) (SettledIs z still) h.rs t v) (sym h.counted)
            (subst (λ (z : Bool). Asks M s w (Settle n) (SettledIs (length h.rs) z) h.rs t v) (sym h.still_is)
            (settled h.chain few h.asked (λ b. let x = h.full (h.still_is ∙ b) in let y = h.counted in omega arith))));
        few = subst (λ (z : Request). length h.rs ≤ room_of z) (sym e) few;
        counted = h.counted;
        written = h.written;
      }

  pub image_answered : {s : M.State} {w : RaceTable} {q : Request} {a : ℕ} {r : Result ℕ Refusal} (out : List Outcome) → q ≡ Image a → M.images s a r → Answered M s w q out (Imaged r) 0 s w out
  image_answered {s} {w} {q} {a} {r} out e h = record { rs = []; asks = subst (λ (z : Request). Asks M s w z (Imaged r) [] s w) (sym e) (imaged h); few = zero-le; counted = refl; written = refl }

  pub open_answered : {s : M.State} {w : RaceTable} {q : Request} {p : ℕ} {o : Option ℕ} (out : List Outcome) → q ≡ NextOpen p → M.opens s p o → Answered M s w q out (Found o) 0 s w out
  open_answered {s} {w} {q} {p} {o} out e h = record { rs = []; asks = subst (λ (z : Request). Asks M s w z (Found o) [] s w) (sym e) (found h); few = zero-le; counted = refl; written = refl }
