-- The last two digits of a number, all at once.
use Rattle.std.proofs.Common.{◌≡◌, ℕ, ◌+◌, ◌/◌, ◌%◌, [], ◌∷◌, ap}
use native.Mathlib.Nat.{div-one}
use Rattle.report.specs.Digits.{digits_of}
use Rattle.printing.specs.Page.{two_digits}

pub digits_of-two : (n : ℕ) → digits_of 2 n ≡ two_digits n
digits_of-two n = ap (λ m. (48 + n / 10 % 10) ∷ (48 + m % 10) ∷ []) (div-one n)
