-- Cores, addresses and lines by their numbers.
use Rattle.std.specs.Prelude.{ℕ, ◌/◌, ◌%◌, cond, Ok, Err, Result, nat_le}
use Rattle.protocol.specs.declared.steps.Refusal.{Refusal}
use Rattle.protocol.specs.declared.steps.Refusal.TheVariants.{NoSuchCore, NoSuchAddress}

-- Address a lies in line a div 8 at offset a mod 8.
abbrev pub line_of : ℕ → ℕ
line_of a = a / 8

abbrev pub offset_of : ℕ → ℕ
offset_of a = a % 8

-- A number below a limit, or the refusal of one that is not.
abbrev pub named_below : ℕ → Refusal → ℕ → Result ℕ Refusal
named_below k e n = cond (nat_le k n) (Err e) (Ok n)

-- Cores are 0 to 7, addresses 0 to 63, lines 0 to 7.
abbrev pub core_named : ℕ → Result ℕ Refusal
core_named = named_below 8 NoSuchCore

abbrev pub address_named : ℕ → Result ℕ Refusal
address_named = named_below 64 NoSuchAddress

abbrev pub line_named : ℕ → Result ℕ Refusal
line_named = named_below 8 NoSuchAddress

-- A result by the number of what it holds.
abbrev pub numbered : {X : Type 0} → (X → ℕ) → Result X Refusal → Result ℕ Refusal
numbered f (Ok x) = Ok (f x)
numbered f (Err e) = Err e
