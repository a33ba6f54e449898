-- A number that was accepted as a core, an address or a line is that number, and in range.
use Rattle.std.proofs.Common.{◌≡◌, ℕ, ◌<◌, ◌≤◌, Bool, true, false, cond, leb, Ok, Err, Result, refl, arith}
use Rattle.std.proofs.lemmas.Bool.{leb-true, leb-false}
use Rattle.protocol.specs.declared.steps.Refusal.{Refusal}

-- The number below the bound, where the result is not the refusal.
pub accepted_number : (b n x : ℕ) (e : Refusal) → Ok x ≡ cond (leb b n) (Err e) (Ok n) → (x ≡ n) × (n < b)
accepted_number b n x e h = go (leb b n) refl h
  where
    go : (t : Bool) → leb b n ≡ t → Ok x ≡ cond t (Err e) (Ok n) → (x ≡ n) × (n < b)
    go true q h = let z : ◌≡◌ {A = ℕ} 0 1 = cc in absurd (omega arith)
    go false q h = (cc, leb-false b n q)

-- The refusal, where the number is not below the bound.
pub refused_number : (b n : ℕ) (d e : Refusal) → ◌≡◌ {A = Result ℕ Refusal} (Err d) (cond (leb b n) (Err e) (Ok n)) → (d ≡ e) × (b ≤ n)
refused_number b n d e h = go (leb b n) refl h
  where
    go : (t : Bool) → leb b n ≡ t → ◌≡◌ {A = Result ℕ Refusal} (Err d) (cond t (Err e) (Ok n)) → (d ≡ e) × (b ≤ n)
    go true q h = (cc, leb-true b n q)
    go false q h = let z : ◌≡◌ {A = ℕ} 0 1 = cc in absurd (omega arith)
