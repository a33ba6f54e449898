-- The state of Neat: what each core and the last-level cache (LLC) have. Cores, lines and offsets are 0 to 7.
use Rattle.std.specs.Prelude.{ℕ, zero, suc, ◌+◌, Bool, true, false, cond, ◌||◌, ◌==◌}

-- f, but x at i.
abbrev pub with_at : {X : Type 0} → (ℕ → X) → ℕ → X → ℕ → X
with_at f i x j = cond (j == i) x (f j)

-- The sum of f below n.
abbrev pub total : ℕ → (ℕ → ℕ) → ℕ
total zero f = 0
total (suc n) f = total n f + f n

-- Whether f holds of a number below n.
abbrev pub some_below : ℕ → (ℕ → Bool) → Bool
some_below zero f = false
some_below (suc n) f = some_below n f || f n

-- Bytes of a line with a write bit for each, by offset: what a valid private line holds, and what a write-back carries.
pub record Block : Type 0 where
  pub bytes : ℕ → ℕ
  pub written : ℕ → Bool

-- A block is dirty if any write bit is set.
abbrev pub dirty : Block → Bool
dirty b = some_below 8 b.written

-- Bytes without write bits.
abbrev pub clean : (ℕ → ℕ) → Block
clean d = record { bytes = d; written = λ o. false }

-- A byte is stored, and its write bit is set.
abbrev pub stored : Block → ℕ → ℕ → Block
stored b o y = record { bytes = with_at b.bytes o y; written = with_at b.written o true }

-- A write-back gives a line the bytes whose write bits are set.
abbrev pub merged : Block → (ℕ → ℕ) → ℕ → ℕ
merged b d o = cond (b.written o) (b.bytes o) (d o)

-- A private line is I, or V with its bytes and write bits.
pub data Line : Type 0 where
  I : Line
  V : Block → Line

-- What the place of a core and a line carries: nothing, or a message. GetLine, Put and Commit go to the LLC, Data and PutAck are answers.
pub data Place : Type 0 where
  Empty : Place
  GetLine : Place
  Data : (ℕ → ℕ) → Place
  Put : Block → Place
  PutAck : Place
  Commit : Block → Place

-- A core's private line and the place between the core and the LLC about that line.
pub record Slot : Type 0 where
  pub line : Line
  pub place : Place

-- Where the Close of a core is: there is none; Close is in the close place, with its number of Commits; it was moved and the LLC has
-- noted that number; PutAllAck is in the close place.
pub data Closing : Type 0 where
  Shut : Closing
  Close : ℕ → Closing
  Noted : ℕ → Closing
  PutAllAck : Closing

-- What a core waits for: nothing, a load of an address, a store of a byte to an address, an acquire, a release.
pub data Activity : Type 0 where
  Idle : Activity
  Loading : ℕ → Activity
  Storing : ℕ → ℕ → Activity
  Acquiring : Activity
  Releasing : Activity

-- A core's part: its slots by line, its Close, the number of its Commits that the LLC has received, and what it waits for.
pub record Core : Type 0 where
  pub slot : ℕ → Slot
  pub closing : Closing
  pub received : ℕ
  pub activity : Activity

-- The cores' parts, and the LLC's bytes by line and offset.
pub record State : Type 0 where
  pub cores : ℕ → Core
  pub llc : ℕ → ℕ → ℕ

-- A core's part, but with another slot of line l.
abbrev pub with_slot : Core → ℕ → Slot → Core
with_slot x l v = record { slot = with_at x.slot l v; closing = x.closing; received = x.received; activity = x.activity }

-- A core's part, but with another message in the place of line l.
abbrev pub with_place : Core → ℕ → Place → Core
with_place x l p = with_slot x l (record { line = (x.slot l).line; place = p })

-- A core's part, but with another Close.
abbrev pub with_closing : Core → Closing → Core
with_closing x k = record { slot = x.slot; closing = k; received = x.received; activity = x.activity }

-- A core's part, but waiting for something else.
abbrev pub with_activity : Core → Activity → Core
with_activity x w = record { slot = x.slot; closing = x.closing; received = x.received; activity = w }

-- Nothing is on its way, every private line is I, and every byte of the LLC is 00.
abbrev pub start : State
start =
    record {
      cores = λ c. record { slot = λ l. record { line = I; place = Empty }; closing = Shut; received = 0; activity = Idle };
      llc = λ l o. 0;
    }
