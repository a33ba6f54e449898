-- What holds of every study over every protocol that keeps the meaning.
use Rattle.std.specs.Prelude.{◌≡◌, ℕ, ◌+◌, ◌*◌, ◌<◌, ◌≤◌, true, false, List, ◌∷◌, ◌++◌, Some, None, Ok, Option, Result}
use Rattle.protocol.specs.declared.steps.Ended.{Ended}
use Rattle.protocol.specs.declared.steps.Ended.TheVariants.{Loaded}
use Rattle.protocol.specs.declared.steps.Refusal.{Refusal}
use Rattle.protocol.specs.Moment.{Moment}
use Rattle.protocol.specs.Meaning.{image_of}
use Rattle.races.specs.declared.table.RaceTable.{RaceTable}
use Rattle.races.specs.Log.{Log}
use Rattle.races.specs.Races.{Written, newest, since, released, any_race, number, first_race}

abbrev pub byte_written : Option Written → ℕ
byte_written None = 0
byte_written (Some w) = w.byte

-- The byte of the newest store to a, or 00 if none has ended.
abbrev pub expected : ℕ → List Ended → ℕ
expected a xs = byte_written (newest a xs)

-- The image of a is 00 if no store there has ended, and the newest store's byte if its core has ended a release since.
abbrev pub ImageIs : Moment → ℕ → List Ended → Option Written → Type 0
ImageIs m a xs None = image_of m a ≡ Ok 0
ImageIs m a xs (Some w) = released w.core (since a xs) ≡ true → image_of m a ≡ Ok w.byte

-- An answer r for the image of a is right in the same sense.
abbrev pub ImageAnswers : Result ℕ Refusal → ℕ → List Ended → Option Written → Type 0
ImageAnswers r a xs None = r ≡ Ok 0
ImageAnswers r a xs (Some w) = released w.core (since a xs) ≡ true → r ≡ Ok w.byte

-- The guarantee, at one point of a study: the protocol's moment and the log so far.
pub record Coherent (m : Moment) (log : Log) : Type 0 where
  -- each load that ended before the first race answered the byte of the newest store to its address that had ended by then, or 00
  pub loads : (later earlier : List Ended) (c a b : ℕ) → log.ended ≡ later ++ (Loaded c a b ∷ earlier) → any_race (Loaded c a b ∷ earlier) ≡ false → b ≡ expected a earlier
  -- while no race has ended, the image has each byte that its core has released, and 00 where no store has ended
  pub image : any_race log.ended ≡ false → (a : ℕ) → a < 64 → ImageIs m a log.ended (newest a log.ended)
  -- the accepted moves and what is still due are paid for by the accepted core calls
  pub moves : log.moves + m.due ≤ log.calls * m.reach
  -- where no place is open, no core waits
  pub no_wait : ((p : ℕ) → p < 256 → m.open_at p ≡ false) → (c : ℕ) → c < 8 → m.waits c ≡ None
  -- each core's pending call is the call that it waits for
  pub pending : (c : ℕ) → c < 8 → log.pending c ≡ m.waits c

-- The bench's two numbers are the log's: the core calls ended, at most 65,535, and the number of the first race, or 0.
pub record Counted (w : RaceTable) (log : Log) : Type 0 where
  pub ended : w.ended ≡ number log.ended
  pub first : w.first_race ≡ first_race log.ended
