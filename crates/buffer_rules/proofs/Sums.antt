-- A sum over cores of which one term changes.
use Rattle.std.proofs.Common.{◌≡◌, ℕ, zero, suc, ◌+◌, ◌<◌, ◌⊎◌, refl, ap, ap₂, inl, inr, arith}
use Rattle.std.proofs.lemmas.Bool.{cases_eq}
use Rattle.buffer_rules.specs.Buffered.{total}

pub total_same : (n : ℕ) (f g : ℕ → ℕ) → ((d : ℕ) → d < n → g d ≡ f d) → total n g ≡ total n f
total_same zero f g h = refl
total_same (suc n) f g h = ap₂ ◌+◌ (total_same n f g (λ d l. h d (omega arith))) (h n (omega arith))

pub total_changed : (n c : ℕ) (f g : ℕ → ℕ) → c < n → ((d : ℕ) → (d ≡ c → ⊥) → g d ≡ f d) → total n g + f c ≡ total n f + g c
total_changed zero c f g l h = absurd (omega arith)
total_changed (suc n) c f g l h = go (cases_eq c n) (λ k. total_changed n c f g k h)
  where
    go : (c ≡ n) ⊎ (c ≡ n → ⊥) → (c < n → total n g + f c ≡ total n f + g c) → total n g + g n + f c ≡ total n f + f n + g c
    go (inl e) ih = let a : total n g ≡ total n f = total_same n f g (λ d k. h d (λ q. omega arith)) in let x = ap f e in let y = ap g e in omega arith
    go (inr e) ih = let a = ih (omega arith) in let b : g n ≡ f n = h n (λ q. omega arith) in omega arith
