-- Bus MESI as a machine: its steps, what it has at each moment, and its answers.
use Rattle.std.specs.Prelude.{ℕ, false, List, replicate, None, Option, slice_index_or, slice_set}
use Rattle.protocol.specs.declared.steps.Step.{Step}
use Rattle.protocol.specs.declared.steps.Step.TheVariants.{Load, Store, Acquire, Release, Evict, Move}
use Rattle.protocol.specs.declared.steps.Ended.TheVariants.{Loaded, Stored, Acquired, Released, Evicted}
use Rattle.protocol.specs.declared.steps.Refusal.TheVariants.{PlaceNotOpen}
use Rattle.protocol.specs.declared.steps.Reply.{Reply}
use Rattle.protocol.specs.declared.steps.Reply.TheVariants.{Refused, Ended as AtOnce}
use Rattle.protocol.specs.Cells.{line_of, offset_of}
use Rattle.protocol.specs.Moment.{Moment}
use Rattle.protocol.specs.Meaning.{Machine}
use Rattle.protocol.specs.Rules.{by_rules}
use Rattle.mesi_rules.specs.Rows.{LineRow, cleared_row, home_at, seen_at, loaded, stored, evicted}

-- A row for each line.
abbrev pub State : Type 0
State = List LineRow

-- After a clear every row is clear.
abbrev pub start : State
start = replicate 8 cleared_row

-- The row of line l.
abbrev pub row_at : State → ℕ → LineRow
row_at s l = slice_index_or s l cleared_row

-- The row that address a lies in.
abbrev pub row_of_address : State → ℕ → LineRow
row_of_address s a = row_at s (line_of a)

-- The byte of address a that core c sees.
abbrev pub seen_byte : State → ℕ → ℕ → ℕ
seen_byte s c a = seen_at (row_of_address s a) c (offset_of a)

-- The byte of address a at home.
abbrev pub home_byte : State → ℕ → ℕ
home_byte s a = home_at (row_of_address s a) (offset_of a)

-- A load by core c at address a changes the address's row.
abbrev pub load_leaves : State → ℕ → ℕ → State
load_leaves s c a = slice_set s (line_of a) (loaded (row_of_address s a) c)

-- A load by core c at address a answers what the core then sees.
abbrev pub load_answers : State → ℕ → ℕ → ℕ
load_answers s c a = seen_at (loaded (row_of_address s a) c) c (offset_of a)

-- A store of byte b by core c at address a changes the address's row.
abbrev pub store_leaves : State → ℕ → ℕ → ℕ → State
store_leaves s c a b = slice_set s (line_of a) (stored (row_of_address s a) c (offset_of a) b)

-- An evict of line l by core c changes the line's row.
abbrev pub evict_leaves : State → ℕ → ℕ → State
evict_leaves s c l = slice_set s l (evicted (row_at s l) c)

-- What each step does where it is not refused. Every call ends at once, acquire and release without effect. No move can be made.
abbrev pub act : State → Step → Reply × State
act s (Load c a) = (AtOnce (Loaded c a (load_answers s c a)), load_leaves s c a)
act s (Store c a b) = (AtOnce (Stored c a b), store_leaves s c a b)
act s (Acquire c) = (AtOnce (Acquired c), s)
act s (Release c) = (AtOnce (Released c), s)
act s (Evict c l) = (AtOnce (Evicted c l), evict_leaves s c l)
act s (Move p) = (Refused PlaceNotOpen, s)

-- Nobody owes, no core waits, no place is open, and due and reach are 0.
abbrev pub moment : State → Moment
moment s =
    record {
      view = record { sees = seen_byte s; home = home_byte s; owes = λ c a. false };
      waits = λ c. None;
      open_at = λ p. false;
      due = 0;
      reach = 0;
    }

-- No place is ever open.
abbrev pub next : State → ℕ → Option ℕ
next s p = None

-- Bus MESI: the steps above, behind the table of refusals.
abbrev pub mesi_machine : Machine
mesi_machine = by_rules moment start act next
