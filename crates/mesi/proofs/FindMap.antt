-- What `find_map` finds in a slice: the first answer that a function gives at an element.
use Rattle.std.proofs.Common.{◌≡◌, ℕ, zero, suc, ◌+◌, ◌<◌, List, [], ◌∷◌, length, get_or, true, Some, None, Option, sym, refl, arith}
use Rattle.std.specs.Option.{MatchOption, IfSome, IsSomeAnd, option_map}
use Rattle.std.specs.Iterator.Runs.{CallKeepsClosure, Run, ItemsMapTo, AllItemsGive, IsFirstToGive}
use Rattle.std.specs.Fn.{Called}
use denote.Param.Members.{Mut}

-- The first answer of h at an element, or none.
abbrev pub first : {B C : Type 0} → (B → Option C) → List B → Option C
first h [] = None
first h (x ∷ xs) = elim (h x) [ None ↦ first h xs | Some y ↦ Some y ]

first_none : {B C : Type 0} (h : B → Option C) (xs : List B) → ((k : ℕ) (d : B) → k < length xs → h (get_or xs k d) ≡ None) → first h xs ≡ None
first_none h [] e = refl
first_none h (x ∷ xs) e = rw (e 0 x (omega arith), first) (first_none h xs (λ k d l. e (suc k) d (omega arith)))

first_at : {B C : Type 0} (h : B → Option C) (xs : List B) (i : ℕ) (y : C) → i < length xs → ((d : B) → h (get_or xs i d) ≡ Some y) → ((k : ℕ) (d : B) → k < i → h (get_or xs k d) ≡ None) → first h xs ≡ Some y
first_at h [] i y l a e = absurd (omega arith)
first_at h (x ∷ xs) zero y l a e = rw (a x, first)
first_at h (x ∷ xs) (suc i) y l a e = rw (e 0 x (omega arith), first) (first_at h xs i y (omega arith) a (λ k d m. e (suc k) d (omega arith)))

module _ {A B F R C : Type 0} (v : A → B) (w : R → C) (g : Mut F (A × Unit {0}) (Option R)) (f : F) (h : B → Option C)
    (says : (x : A) (r : Option R) → Called g f (x, tt) r f → option_map w r ≡ h (v x)) where
  -- What the call at an item says of the element.
  said : (o : Option A) (b : B) (r : Option R) → option_map v o ≡ Some b → IfSome o (λ x. Called g f (x, tt) r f) → h b ≡ option_map w r
  said None b r e c = cc
  said (Some x) b r e c = let s = says x r c in cc

  if_some : (o : Option A) (P : A → Type 0) → IsSomeAnd o P → IfSome o P
  if_some None P h = absurd h
  if_some (Some x) P h = h

  pub first_from_find_map : {S : Type 0} {steps : S → Option A → S → Type 0} (xs : List B) (r : Option R) (p : Run steps) → CallKeepsClosure g f → ItemsMapTo p v xs
      → MatchOption r ((p.whole ≡ true) × AllItemsGive p g f None) (λ y. (i : ℕ) × (i < p.len) × (p.len ≡ i + 1) × IsFirstToGive p g f (Some y) None i)
      → option_map w r ≡ first h xs
  first_from_find_map xs None p same items m =
      sym (first_none h xs (λ k d l. said (p.at k) (get_or xs k d) None (items.2 k d (omega (arith, items.1 m.0))) (m.1 same k)))
  first_from_find_map xs (Some y) p same items m =
      sym (first_at h xs m.0 (w y) (omega (arith, items.0, m.1)) (λ d. said (p.at m.0) (get_or xs m.0 d) (Some y) (items.2 m.0 d m.1) (if_some (p.at m.0) _ (m.3 same).0))
      (λ k d l. said (p.at k) (get_or xs k d) None (items.2 k d (omega (arith, m.1))) (if_some (p.at k) _ ((m.3 same).1 k l))))
