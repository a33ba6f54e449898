-- Over a protocol whose answers are a function of its state, a chain of steps is computed.
use Rattle.std.proofs.Common.{◌≡◌, ℕ, zero, suc, ◌≤◌, true, List, ◌∷◌, length, is_some, Some, None, Option, sym, refl, ap, ◌∙◌, arith}
use Rattle.protocol.specs.declared.steps.Step.{Step}
use Rattle.protocol.specs.declared.steps.Step.TheVariants.{Move}
use Rattle.protocol.specs.declared.steps.Reply.{Reply}
use Rattle.protocol.specs.Meaning.{Machine}
use Rattle.races.specs.declared.outcomes.Outcome.{Outcome}
use Rattle.races.specs.declared.table.RaceTable.{RaceTable}
use Rattle.races.specs.Table.{marked, reply_of}
use Rattle.races.specs.Study.{Takes}
use Rattle.bench.specs.Chains.{Chain, nothing, then, FirstPlace, ComesTo}
use Rattle.bench.specs.Computed.{Follows, Finds, state_after, table_after, outcomes_of, at_open, settling}

-- What a step leaves and answers.
pub record Computed (S : Type 0) (f : S → Step → Reply × S) (s : S) (w : RaceTable) (ks : List Step) (rs : List Outcome) (t : S) (v : RaceTable) : Type 0 where
  pub state : t ≡ state_after f s ks
  pub table : v ≡ table_after f s w ks
  pub outcomes : rs ≡ outcomes_of f s w ks

module _ (M : Machine) (f : M.State → Step → Reply × M.State) (follows : Follows M f) where
  takes_state : {s t : M.State} {w v : RaceTable} {k : Step} {r : Outcome} → Takes M s w k r t v → t ≡ (f s k).1
  takes_state {s} {t} {w} {v} {k} {r} h = ap (λ (x : Reply × M.State). x.1) (follows s k (reply_of r) t h.answers)

  takes_marked : {s t : M.State} {w v : RaceTable} {k : Step} {r : Outcome} → Takes M s w k r t v → (r, v) ≡ marked w (f s k).0
  takes_marked {s} {t} {w} {v} {k} {r} h = h.marks ∙ ap (λ (x : Reply × M.State). marked w x.0) (follows s k (reply_of r) t h.answers)

  pub chain_computed : {Chosen : M.State → Step → Type 0} {s t : M.State} {w v : RaceTable} {ks : List Step} {rs : List Outcome} → Chain M Chosen s w ks rs t v → Computed M.State f s w ks rs t v
  chain_computed nothing = record { state = refl; table = refl; outcomes = refl }
  chain_computed (then {s} {t} {u} {w} {v} {x} {k} {r} {ks} {rs} c h l) =
      let rest = chain_computed l in
      let at = takes_state h in
      let mark = takes_marked h in
      let v_is : v ≡ (marked w (f s k).0).1 = ap (λ (z : Outcome × RaceTable). z.1) mark in
      let r_is : r ≡ (marked w (f s k).0).0 = ap (λ (z : Outcome × RaceTable). z.0) mark in
      record {
        state = rest.state ∙ ap (λ (z : M.State). state_after f z ks) at;
        table = rest.table ∙ (λ i. table_after f (at i) (v_is i) ks);
        outcomes = (λ i. r_is i ∷ rest.outcomes i) ∙ (λ i. (marked w (f s k).0).0 ∷ outcomes_of f (at i) (v_is i) ks);
      }

  module _ (next : M.State → ℕ → Option ℕ) (finds : Finds M next) where
    none_left : (o : Option ℕ) (n : ℕ) → (is_some o ≡ true → 0 ≡ suc n) → o ≡ None
    none_left None n h = refl
    none_left (Some p) n h = let z = h refl in absurd (omega arith)

    -- A settling's moves are computed too: each time the first open place, until none is open or the room is used up.
    pub settle_computed : (n : ℕ) (o : Option ℕ) {s t : M.State} {w v : RaceTable} {ks : List Step} {rs : List Outcome} → Chain M (FirstPlace M) s w ks rs t v → M.opens t 0 o → length rs ≤ n → (is_some o ≡ true → length rs ≡ n) → ks ≡ settling f next n s
    settle_computed zero o nothing a l h = refl
    settle_computed (suc n) o (nothing {s}) a l h = ap (λ (z : Option ℕ). at_open f next z (λ p. Move p ∷ settling f next n (f s (Move p)).1)) (sym (none_left o n h) ∙ finds s 0 o a)
    settle_computed zero o (then c g d) a l h = absurd (omega arith)
    settle_computed (suc n) o (then {s} {t} {u} {w} {v} {x} {k} {r} {ks} {rs} c g d) a l h =
        let at = takes_state g in
        let rest : ks ≡ settling f next n t = settle_computed n o d a (omega arith) (λ e. let z = h e in omega arith) in
        (λ i. c.1 i ∷ (rest ∙ (λ j. settling f next n ((at ∙ (λ m. (f s (c.1 m)).1)) j))) i)
        ∙ ap (λ (z : Option ℕ). at_open f next z (λ p. Move p ∷ settling f next n (f s (Move p)).1)) (finds s 0 (Some c.0) c.2)

-- A chain comes to what is computed, whatever function the protocol's answers are.
pub comes_to : (M : Machine) {Chosen : M.State → Step → Type 0} {s t : M.State} {w v : RaceTable} {ks : List Step} {rs : List Outcome} → Chain M Chosen s w ks rs t v → ComesTo M s w ks rs t v
comes_to M c f h = let x = chain_computed M f h c in (x.outcomes, x.state, x.table)
