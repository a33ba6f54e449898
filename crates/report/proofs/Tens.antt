-- Digits to base ten, one at a time and all at once.
use Rattle.std.proofs.Common.{◌≡◌, ℕ, suc, ◌+◌, ◌-◌, ◌/◌, ◌%◌, ◌^◌, ◌<◌, ◌≤◌, List, [], ◌∷◌, length, drop, set, sym, ap, ◌∙◌, arith}
use Rattle.std.proofs.lemmas.List.{drop-set, length-set}
use native.Mathlib.Nat.{div-div-eq-div-mul, div-one, pow-suc}
use Rattle.report.specs.Digits.{digits_of, decimal_digits}

-- The digits from a place on are there, and the number is without them.
pub record DigitsFar (digits : List ℕ) (n total place left : ℕ) : Type 0 where
  pub long : length digits ≡ total
  pub there : drop place digits ≡ digits_of (total - place) n
  pub without : left ≡ n / 10 ^ (total - place)

pub far_more : (digits : List ℕ) (n total place left digit : ℕ) → 0 < place → place ≤ total → digit ≡ 48 + left % 10 → DigitsFar digits n total place left → DigitsFar (set digits (place - 1) digit) n total (place - 1) (left / 10)
far_more digits n total place left digit some most e f =
    let more : total - (place - 1) ≡ suc (total - place) = omega arith in
    let behind : place - 1 + 1 ≡ place = omega arith in
    let first : digit ≡ 48 + n / 10 ^ (total - place) % 10 = e ∙ ap (λ m. 48 + m % 10) f.without in
    record {
      long = length-set digits (place - 1) digit ∙ f.long;
      there =
          drop-set digits (place - 1) digit (let k = f.long in omega arith)
          ∙ ((λ j. first j ∷ (ap (λ m. drop m digits) behind ∙ f.there) j) ∙ sym (ap (λ m. digits_of m n) more));
      without =
          ap (λ m. m / 10) f.without
          ∙ (div-div-eq-div-mul n (10 ^ (total - place)) 10 ∙ ap (λ m. n / m) (sym (pow-suc 10 (total - place)) ∙ ap (λ m. 10 ^ m) (sym more)));
    }

-- Five digits.
pub five_digits : (n : ℕ) → digits_of 5 n ≡ decimal_digits n
five_digits n = ap (λ m. (48 + n / 10000 % 10) ∷ (48 + n / 1000 % 10) ∷ (48 + n / 100 % 10) ∷ (48 + n / 10 % 10) ∷ (48 + m % 10) ∷ []) (div-one n)
