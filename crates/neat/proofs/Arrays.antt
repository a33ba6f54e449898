-- An array of the code read as a function: a write changes it at one index.
use Rattle.std.proofs.Common.{◌≡◌, ℕ, ◌<◌, Bool, true, false, cond, eqb, List, length, get_or, set, refl, ap, ◌∙◌}
use mathlib.Core.Path.{fun_ext}
use Rattle.std.proofs.lemmas.List.{get_or-set_same, get_or-set_other}
use Rattle.std.proofs.lemmas.Bool.{eqb-true, eqb-false}
use Rattle.neat_rules.specs.State.{with_at}

pub array_set : {X Y : Type 0} (f : X → Y) (d : X) (xs : List X) (i : ℕ) (x : X) → i < length xs → (λ (j : ℕ). f (get_or (set xs i x) j d)) ≡ with_at (λ (j : ℕ). f (get_or xs j d)) i (f x)
array_set {X} {Y} f d xs i x h = fun_ext (λ j. go j (eqb j i) refl)
  where
    go : (j : ℕ) (t : Bool) → eqb j i ≡ t → f (get_or (set xs i x) j d) ≡ cond t (f x) (f (get_or xs j d))
    go j true e = ap (λ (k : ℕ). f (get_or (set xs i x) k d)) (eqb-true j i e) ∙ ap f (get_or-set_same xs i x d h)
    go j false e = ap f (get_or-set_other xs i j x d (eqb-false j i e))
