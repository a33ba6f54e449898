-- A function changed at one index, and sums and counts below a bound.
use Rattle.std.proofs.Common.{◌≡◌, ℕ, zero, suc, ◌+◌, ◌*◌, ◌<◌, ◌≤◌, Bool, true, false, cond, eqb, ◌⊎◌, sym, refl, ap, ◌∙◌, subst, inl, inr, arith}
use mathlib.Core.Path.{fun_ext}
use Rattle.std.proofs.lemmas.Bool.{eq-eqb, ne_eqb, eqb-true, cases_eq, cond-true, cond-false, or_parts}
use Rattle.neat_rules.specs.State.{with_at, total, some_below}

pub with_at_here : {X : Type 0} (f : ℕ → X) (i : ℕ) (x : X) → with_at f i x i ≡ x
with_at_here f i x = cond-true (eqb i i) x (f i) (eq-eqb i i refl)

pub with_at_there : {X : Type 0} (f : ℕ → X) (i : ℕ) (x : X) (j : ℕ) → (j ≡ i → ⊥) → with_at f i x j ≡ f j
with_at_there f i x j h = cond-false (eqb j i) x (f j) (ne_eqb j i h)

-- What holds of x at i, and of f everywhere, holds of f changed at i everywhere.
pub with_at_all : {X : Type 0} (P : ℕ → X → Type 0) (f : ℕ → X) (i : ℕ) (x : X) → P i x → ((j : ℕ) → P j (f j)) → (j : ℕ) → P j (with_at f i x j)
with_at_all {X} P f i x here all j = go (eqb j i) refl
  where
    go : (t : Bool) → eqb j i ≡ t → P j (cond t x (f j))
    go true e = subst (λ (k : ℕ). P k x) (sym (eqb-true j i e)) here
    go false e = all j

-- A function changed to what it was is the same.
pub with_at_same : {X : Type 0} (f : ℕ → X) (i : ℕ) → with_at f i (f i) ≡ f
with_at_same {X} f i = fun_ext (with_at_all (λ j (y : X). y ≡ f j) f i (f i) refl (λ j. refl))

-- Of two changes at one index the second stays.
pub with_at_twice : {X : Type 0} (f : ℕ → X) (i : ℕ) (x y : X) → with_at (with_at f i x) i y ≡ with_at f i y
with_at_twice {X} f i x y = fun_ext (λ j. go j (eqb j i))
  where
    go : (j : ℕ) (t : Bool) → cond t y (cond t x (f j)) ≡ cond t y (f j)
    go j true = refl
    go j false = refl

pub total_cong : (n : ℕ) (f g : ℕ → ℕ) → ((j : ℕ) → j < n → f j ≡ g j) → total n f ≡ total n g
total_cong zero f g h = refl
total_cong (suc n) f g h =
    let p : total n f ≡ total n g = total_cong n f g (λ j l. h j (omega arith)) in
    let q : f n ≡ g n = h n (omega arith) in
    omega arith

pub total_plus : (n m : ℕ) (f g : ℕ → ℕ) → ((j : ℕ) → j < n → f j ≤ g j + m) → total n f ≤ total n g + n * m
total_plus zero m f g h = omega arith
total_plus (suc n) m f g h =
    let p : total n f ≤ total n g + n * m = total_plus n m f g (λ j l. h j (omega arith)) in
    let q : f n ≤ g n + m = h n (omega arith) in
    let r : suc n * m ≡ n * m + m = native.Mathlib.Nat.suc-mul n m in
    omega arith

-- A change at i exchanges one summand.
pub total_with : {X : Type 0} (g : X → ℕ) (n : ℕ) (f : ℕ → X) (i : ℕ) (x : X) → i < n → total n (λ j. g (with_at f i x j)) + g (f i) ≡ total n (λ j. g (f j)) + g x
total_with g zero f i x h = absurd (omega arith)
total_with {X} g (suc n) f i x h = go (cases_eq n i) (total_with g n f i x)
  where
    go : (n ≡ i) ⊎ (n ≡ i → ⊥) → (i < n → total n (λ j. g (with_at f i x j)) + g (f i) ≡ total n (λ j. g (f j)) + g x) → total (suc n) (λ j. g (with_at f i x j)) + g (f i) ≡ total (suc n) (λ j. g (f j)) + g x
    go (inl e) rest =
        let p : total n (λ j. g (with_at f i x j)) ≡ total n (λ j. g (f j)) = total_cong n (λ j. g (with_at f i x j)) (λ j. g (f j)) (λ j l. ap g (with_at_there f i x j (λ q. omega arith))) in
        let q : g (with_at f i x n) ≡ g x = ap g (subst (λ (k : ℕ). with_at f i x k ≡ x) (sym e) (with_at_here f i x)) in
        let r : g (f n) ≡ g (f i) = ap (λ (k : ℕ). g (f k)) e in
        omega arith
    go (inr e) rest =
        let p : total n (λ j. g (with_at f i x j)) + g (f i) ≡ total n (λ j. g (f j)) + g x = rest (omega arith) in
        let q : g (with_at f i x n) ≡ g (f n) = ap g (with_at_there f i x n e) in
        omega arith

-- Each summand is at most the sum.
pub total_each : (n : ℕ) (f : ℕ → ℕ) (i : ℕ) → i < n → f i ≤ total n f
total_each zero f i h = absurd (omega arith)
total_each (suc n) f i h = go (cases_eq n i) (total_each n f i)
  where
    go : (n ≡ i) ⊎ (n ≡ i → ⊥) → (i < n → f i ≤ total n f) → f i ≤ total (suc n) f
    go (inl e) rest = let p : f n ≡ f i = ap f e in omega arith
    go (inr e) rest = let p : f i ≤ total n f = rest (omega arith) in omega arith

-- A sum above 0 has a summand above 0.
pub total_some : (n : ℕ) (f : ℕ → ℕ) → 0 < total n f → (i : ℕ) × (i < n) × (0 < f i)
total_some zero f h = absurd (omega arith)
total_some (suc n) f h = go (f n) refl (total_some n f)
  where
    go : (y : ℕ) → f n ≡ y → (0 < total n f → (i : ℕ) × (i < n) × (0 < f i)) → (i : ℕ) × (i < suc n) × (0 < f i)
    go zero e rest = let r = rest (omega arith) in (r.0, omega arith, r.2)
    go (suc y) e rest = (n, omega arith, omega arith)

-- Where f holds of no number below n, it is false at each.
pub none_below : (n : ℕ) (f : ℕ → Bool) → some_below n f ≡ false → (i : ℕ) → i < n → f i ≡ false
none_below zero f h i l = absurd (omega arith)
none_below (suc n) f h i l = go (cases_eq n i) (or_parts (some_below n f) (f n) h) (λ e. none_below n f e i)
  where
    go : (n ≡ i) ⊎ (n ≡ i → ⊥) → (some_below n f ≡ false) × (f n ≡ false) → (some_below n f ≡ false → i < n → f i ≡ false) → f i ≡ false
    go (inl e) p rest = ap f (sym e) ∙ p.1
    go (inr e) p rest = rest p.0 (omega arith)
