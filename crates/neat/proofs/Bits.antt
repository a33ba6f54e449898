-- The mask of write bits.
use Rattle.std.proofs.Common.{◌≡◌, ℕ, zero, suc, ◌+◌, ◌-◌, ◌/◌, ◌%◌, ◌^◌, ◌<◌, Bool, true, false, cond, eqb, ◌⊎◌, sym, refl, ap, ◌∙◌, subst, inl, inr, pow-suc, arith}
use mathlib.Core.Path.{fun_ext}
use native.Mathlib.Nat.{div-eq_of_lt, div_self, mul-mod_left}
use lib.Bits.{bit_or}
use Rattle.std.proofs.lemmas.Nat.{or_shr, or_mod, pow_pos, pow-add, pow_below, shl-shr}
use Rattle.std.proofs.lemmas.Bool.{eqb-true, eqb-false, cases_order}
use Rattle.neat_rules.specs.State.{with_at}
use Rattle.neat.specs.Blocks.{as_bits}

-- The bit p of 2 ^ o.
bit_same : (o : ℕ) → 2 ^ o / 2 ^ o % 2 ≡ 1
bit_same o = ap (λ (n : ℕ). n % 2) (div_self (pow_pos o))

bit_other : (o p : ℕ) → (p ≡ o → ⊥) → 2 ^ o / 2 ^ p % 2 ≡ 0
bit_other o p ne = go (cases_order p o)
  where
    -- 2 ^ o is an even number of times 2 ^ p
    lower : (k : ℕ) → o ≡ suc k + p → 2 ^ o / 2 ^ p % 2 ≡ 0
    lower k e =
        ap (λ (n : ℕ). 2 ^ n / 2 ^ p % 2) e
        ∙ ap (λ (n : ℕ). n / 2 ^ p % 2) (pow-add 2 (suc k) p)
        ∙ ap (λ (n : ℕ). n % 2) (shl-shr (2 ^ suc k) p)
        ∙ ap (λ (n : ℕ). n % 2) (pow-suc 2 k)
        ∙ mul-mod_left (2 ^ k) 2

    go : (p ≡ o) ⊎ ((p < o) ⊎ (o < p)) → 2 ^ o / 2 ^ p % 2 ≡ 0
    go (inl e) = absurd (ne e)
    go (inr (inl h)) = lower (o - suc p) (omega arith)
    go (inr (inr h)) = ap (λ (n : ℕ). n % 2) (div-eq_of_lt (pow_below o p h))

-- A bit of a union.
bit_of_or : (m n p : ℕ) → bit_or m n / 2 ^ p % 2 ≡ bit_or (m / 2 ^ p % 2) (n / 2 ^ p % 2)
bit_of_or m n p = ap (λ (k : ℕ). k % 2) (or_shr m n p) ∙ or_mod (m / 2 ^ p) (n / 2 ^ p) 1

or_one : (x : ℕ) → x < 2 → bit_or x 1 ≡ 1
or_one zero h = refl
or_one (suc zero) h = refl
or_one (suc (suc x)) h = absurd (omega arith)

or_zero : (x : ℕ) → x < 2 → bit_or x 0 ≡ x
or_zero zero h = refl
or_zero (suc zero) h = refl
or_zero (suc (suc x)) h = absurd (omega arith)

-- A mask with bit o set.
pub bits_set : (m o : ℕ) → as_bits (bit_or m (2 ^ o)) ≡ with_at (as_bits m) o true
bits_set m o = fun_ext (λ p. go p (eqb p o) refl)
  where
    digit : (p : ℕ) → m / 2 ^ p % 2 < 2
    digit p = omega arith

    go : (p : ℕ) (t : Bool) → eqb p o ≡ t → as_bits (bit_or m (2 ^ o)) p ≡ cond t true (as_bits m p)
    go p true e =
        ap (λ (k : ℕ). eqb k 1)
        (bit_of_or m (2 ^ o) p ∙ ap (bit_or (m / 2 ^ p % 2)) (subst (λ (k : ℕ). 2 ^ o / 2 ^ k % 2 ≡ 1) (sym (eqb-true p o e)) (bit_same o)) ∙ or_one (m / 2 ^ p % 2) (digit p))
    go p false e =
        ap (λ (k : ℕ). eqb k 1)
        (bit_of_or m (2 ^ o) p ∙ ap (bit_or (m / 2 ^ p % 2)) (bit_other o p (eqb-false p o e)) ∙ or_zero (m / 2 ^ p % 2) (digit p))
