-- The places of messages by their numbers.
use Rattle.std.specs.Prelude.{ℕ, ◌/◌, ◌%◌, cond, Ok, Err, Result, nat_lt}
use Rattle.protocol.specs.declared.steps.Refusal.{Refusal}
use Rattle.protocol.specs.declared.steps.Refusal.TheVariants.{PlaceNotOpen}
use Rattle.neat.specs.declared.place.Place.{Place}
use Rattle.neat.specs.declared.place.Place.TheVariants.{Line, Close}

-- The core of a place and its number among the nine places of that core: a line, or 8 for the close place.
abbrev pub located : Result Place Refusal → Result (ℕ × ℕ) Refusal
located (Err e) = Err e
located (Ok (Line c l)) = Ok (c.number, l.number)
located (Ok (Close c)) = Ok (c.number, 8)

-- There are 72 places, nine for each core.
abbrev pub place_at : ℕ → Result (ℕ × ℕ) Refusal
place_at n = cond (nat_lt n 72) (Ok (n / 9, n % 9)) (Err PlaceNotOpen)
