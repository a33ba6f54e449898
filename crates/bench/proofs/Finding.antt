-- The first of some outcomes whose move has ended a call, as `find_map` finds it.
use Rattle.std.proofs.Common.{◌≡◌, ℕ, zero, suc, ◌+◌, ◌<◌, Bool, List, [], ◌∷◌, ◌++◌, length, get_or, take, Some, None, Option, option_map, sym, refl, ap, ◌∙◌, arith}
use Rattle.std.proofs.lemmas.List.{take_more}
use Rattle.std.specs.Prelude.{IsSomeAnd, IfSome, MatchOption, IsTrue}
use Rattle.std.specs.Iterator.Runs.{Run, SomeRun, YieldsRefsInOrder, AllItemsGive, IsFirstToGive}
use Rattle.std.specs.Slice.Iter.{iter_steps, iter_rest}
use Rattle.std.specs.Fn.{Called}
use Rattle.std.proofs.Common.{Iter}
use denote.Param.Members.{Mut}
use denote.Ref.{Bor}
use Rattle.protocol.specs.declared.steps.Ended.{Ended}
use Rattle.races.specs.declared.outcomes.Outcome.{Outcome}
use Rattle.races.specs.declared.outcomes.Outcome.TheVariants.{Refused, Waits, Ended as HasEnded, Moved, Finished}
use Rattle.bench.specs.Handovers.{finished_call, else_later, first_finished}

-- The first call ended in one list and then another.
finished_append : (xs ys : List Outcome) → first_finished (xs ++ ys) ≡ else_later (first_finished xs) (first_finished ys)
finished_append [] ys = refl
finished_append (x ∷ xs) ys = ap (else_later (finished_call x)) (finished_append xs ys) ∙ regroup (finished_call x)
  where
    regroup : (o : Option Ended) → else_later o (else_later (first_finished xs) (first_finished ys)) ≡ else_later (else_later o (first_finished xs)) (first_finished ys)
    regroup (Some z) = refl
    regroup None = refl

-- Where none was ended before, the next outcome decides.
pub finished_next : (xs : List Outcome) (i : ℕ) (r d : Outcome) → i < length xs → first_finished (take i xs) ≡ None → get_or xs i d ≡ r → first_finished (take (i + 1) xs) ≡ finished_call r
finished_next xs i r d l h e =
    ap first_finished (take_more xs i d l ∙ ap (λ (z : Outcome). take i xs ++ z ∷ []) e)
    ∙ (finished_append (take i xs) (r ∷ []) ∙ (ap (λ (o : Option Ended). else_later o (else_later (finished_call r) None)) h ∙ else_none (finished_call r)))
  where
    else_none : (o : Option Ended) → else_later o None ≡ o
    else_none (Some x) = refl
    else_none None = refl

pub finished_none : (r : Outcome) → ((x : Ended) (race : Bool) → r ≡ Finished x race → ⊥) → finished_call r ≡ None
finished_none (Refused e) h = refl
finished_none Waits h = refl
finished_none (HasEnded x race) h = refl
finished_none Moved h = refl
finished_none (Finished x race) h = absurd (h x race refl)

-- No move has ended a call; or the move at i has, and none before it.
none_finished : (xs : List Outcome) → ((k : ℕ) → k < length xs → finished_call (get_or xs k Waits) ≡ None) → first_finished xs ≡ None
none_finished [] h = refl
none_finished (x ∷ xs) h = ap (λ (o : Option Ended). else_later o (first_finished xs)) (h 0 (omega arith)) ∙ none_finished xs (λ k l. h (suc k) (omega arith))

first_at : (xs : List Outcome) (i : ℕ) (x : Ended) → i < length xs → ((k : ℕ) → k < i → finished_call (get_or xs k Waits) ≡ None) → finished_call (get_or xs i Waits) ≡ Some x → first_finished xs ≡ Some x
first_at [] i x l h e = absurd (omega arith)
first_at (y ∷ ys) zero x l h e = ap (λ (o : Option Ended). else_later o (first_finished ys)) e
first_at (y ∷ ys) (suc i) x l h e = ap (λ (o : Option Ended). else_later o (first_finished ys)) (h 0 (omega arith)) ∙ first_at ys i x (omega arith) (λ k m. h (suc k) (omega arith)) e

-- What a call answered of the outcome at a place.
answered_at : (o : Option (Bor Outcome)) (z : Outcome) (P : Bor Outcome → Type 0) (b : Option Ended) → ((x : Bor Outcome) → P x → b ≡ finished_call x.now) → option_map (λ y. y.now) o ≡ Some z → IfSome o P → finished_call z ≡ b
answered_at None z P b says e h = let q : ◌≡◌ {A = ℕ} 0 1 = cc in absurd (omega arith)
answered_at (Some x) z P b says e h = let q : x.now ≡ z = cc in ap finished_call (sym q) ∙ sym (says x h)

some_there : (o : Option (Bor Outcome)) (P : Bor Outcome → Type 0) → IsSomeAnd o P → IfSome o P
some_there None P h = absurd h
some_there (Some x) P h = h

module _ {F : Type 0} (g : Mut F (Bor Outcome × Unit {0}) (Option Ended)) (f : F) (says : (x : Bor Outcome) (b : Option Ended) (q : F) → Called g f (x, tt) b q → (q ≡ f) × (b ≡ finished_call x.now)) where
  found : (p : Run iter_steps) (r : Option Ended) → (k : ℕ) → k < p.len → option_map (λ y. y.now) (p.at k) ≡ Some (get_or (iter_rest p.from) k Waits) → IfSome (p.at k) (λ x. Called g f (x, tt) r f) → finished_call (get_or (iter_rest p.from) k Waits) ≡ r
  found p r k l e h = answered_at (p.at k) (get_or (iter_rest p.from) k Waits) (λ x. Called g f (x, tt) r f) r (λ x c. (says x r f c).1) e h

  by_cases : (p : Run iter_steps) (r : Option Ended) → YieldsRefsInOrder {A = Outcome} iter_steps iter_rest → MatchOption r (IsTrue p.whole × AllItemsGive p g f None) (λ y. (i : ℕ) × (i < p.len) × (p.len ≡ i + 1) × IsFirstToGive p g f (Some y) None i) → r ≡ first_finished (iter_rest p.from)
  by_cases p None runs m =
      let items = runs p p.seen in
      let each = m.1 (λ a r q c. (says a.0 r q c).0) in
      let long = items.1 m.0 in
      sym (none_finished (iter_rest p.from) (λ k l. found p None k (omega arith) (items.2 k Waits (omega arith)) (each k)))
  by_cases p (Some y) runs m =
      let items = runs p p.seen in
      let first = m.3 (λ a r q c. (says a.0 r q c).0) in
      let long = items.0 in
      sym (first_at (iter_rest p.from) m.0 y (omega (arith, m.1, items.0)) (λ k l. found p None k (omega (arith, m.1)) (items.2 k Waits (omega (arith, m.1))) (some_there (p.at k) _ (first.1 k l))) (found p (Some y) m.0 m.1 (items.2 m.0 Waits m.1) (some_there (p.at m.0) _ first.0)))

  pub first_found : {s : Iter Outcome} (r : Option Ended) → SomeRun iter_steps s (λ p. MatchOption r (IsTrue p.whole × AllItemsGive p g f None) (λ y. (i : ℕ) × (i < p.len) × (p.len ≡ i + 1) × IsFirstToGive p g f (Some y) None i)) → YieldsRefsInOrder {A = Outcome} iter_steps iter_rest → r ≡ first_finished (iter_rest s)
  first_found {s} r (p, e, m) runs = by_cases p r runs m ∙ ap (λ (z : Iter Outcome). first_finished (iter_rest z)) e
