-- The number of each refusal.
use Rattle.std.specs.Prelude.{ℕ}
use Rattle.protocol.specs.declared.steps.Refusal.{Refusal}
use Rattle.protocol.specs.declared.steps.Refusal.TheVariants.{NoSuchCore, NoSuchAddress, CoreWaits, PlaceNotOpen}

-- 1: core above 7. 2: address above 63, or line above 7. 3: the core waits. 4: move of a place that is not open.
abbrev pub refusal_number : Refusal → ℕ
refusal_number NoSuchCore = 1
refusal_number NoSuchAddress = 2
refusal_number CoreWaits = 3
refusal_number PlaceNotOpen = 4
