-- Messages, slots and cores' parts of the code, read as those of the rules. These readings are no models of the types: a model's value
-- is data, and the rules' parts are functions of the line and the offset.
use Rattle.std.specs.Prelude.{◌≡◌, ℕ, Bool, if◌then◌else◌, true, false, not, ◌&&◌, List, Some, None, Option, slice_index_or}
use Rattle.std.specs.Borrow.{MutBor}
use Rattle.neat_rules.specs.State.{Block, Line, Place, Empty, Closing, Activity, Slot, Core}
use Rattle.neat_rules.specs.State as rules
use Rattle.neat_rules.specs.Rules.{commits_of}
use Rattle.neat_rules.specs.Reading.{carries, close_carries}
use Rattle.neat.specs.declared.block.Block.{Block as CodeBlock}
use Rattle.neat.specs.declared.message.Message.{Message}
use Rattle.neat.specs.declared.message.Message.TheVariants.{GetLine, Data, Put, PutAck, Commit}
use Rattle.neat.specs.declared.message.Closing.{Closing as CodeClosing}
use Rattle.neat.specs.declared.message.Closing.TheVariants.{Shut, Close, Noted, PutAllAck}
use Rattle.neat.specs.declared.core_part.Activity.{Activity as CodeActivity}
use Rattle.neat.specs.declared.core_part.Activity.TheVariants.{Loading, Storing, Acquiring, Releasing}
use Rattle.neat.specs.declared.core_part.CorePart.{CorePart}
use Rattle.neat.specs.declared.slot.Slot.{Slot as CodeSlot}
use Rattle.neat.specs.Blocks.{as_bytes, as_block}
use Rattle.neat.specs.Lines.{as_line, written_in}

abbrev pub as_message : Message → Place
as_message GetLine = rules.GetLine
as_message (Data d) = rules.Data (as_bytes d)
as_message (Put w) = rules.Put (as_block w)
as_message PutAck = rules.PutAck
as_message (Commit w) = rules.Commit (as_block w)

-- A place carries nothing or one message.
abbrev pub as_place : Option Message → Place
as_place None = Empty
as_place (Some m) = as_message m

abbrev pub as_slot : CodeSlot → Slot
as_slot v = record { line = as_line v.line; place = as_place v.place }

-- A slot that is I and empty.
abbrev pub no_slot : CodeSlot
no_slot = record { line = None; place = None }

abbrev pub as_slots : List CodeSlot → ℕ → Slot
as_slots vs l = as_slot (slice_index_or vs l no_slot)

abbrev pub as_closing : CodeClosing → Closing
as_closing Shut = rules.Shut
as_closing (Close k) = rules.Close k
as_closing (Noted k) = rules.Noted k
as_closing PutAllAck = rules.PutAllAck

-- A core waits for nothing, or for the end of a call.
abbrev pub as_activity : Option CodeActivity → Activity
as_activity None = rules.Idle
as_activity (Some (Loading a)) = rules.Loading a.number
as_activity (Some (Storing a y)) = rules.Storing a.number y
as_activity (Some Acquiring) = rules.Acquiring
as_activity (Some Releasing) = rules.Releasing

abbrev pub as_core : CorePart → Core
as_core x = record { slot = as_slots x.slots; closing = as_closing x.closing; received = x.received; activity = as_activity x.activity }

-- A core with every line I and nothing on its way.
abbrev pub no_core : Core
no_core = (rules.start).cores 0

-- Whether a core waits for a call.
abbrev pub waiting : Activity → Bool
waiting rules.Idle = false
waiting (rules.Loading a) = true
waiting (rules.Storing a y) = true
waiting rules.Acquiring = true
waiting rules.Releasing = true

-- None of a core's nine places carries a message.
abbrev pub quiet : Core → Bool
quiet x = not (rules.some_below 8 (λ l. carries (x.slot l).place)) && not (close_carries x.closing)

-- A core's part with a byte stored in its line l, if that is V.
abbrev pub stored_in : Core → ℕ → ℕ → ℕ → Core
stored_in x l o y = rules.with_slot x l (record { line = written_in (x.slot l).line o y; place = (x.slot l).place })

-- A core's part whose line l is V with the bytes d, no write bits, and an empty place.
abbrev pub filled : Core → ℕ → (ℕ → ℕ) → Core
filled x l d = rules.with_slot x l (record { line = rules.V (rules.clean d); place = Empty })

-- Calls make a message of a block as a rule says, each block b giving m by `makes b m`.
abbrev pub MakesBy : (CodeBlock → Message → Type 0) → (Block → Place) → Type 0
MakesBy makes rule = (b : CodeBlock) (m : Message) → makes b m → as_message m ≡ rule (as_block b)

-- Calls send a slot as a rule says, and answer whether they sent a Commit: `sends v r w` where v becomes w with the answer r.
pub record SendsBy (sends : MutBor CodeSlot → Bool → MutBor CodeSlot → Type 0) (rule : Line → Place → Slot) : Type 0 where
  pub slot : (v w : MutBor CodeSlot) (r : Bool) → sends v r w → as_slot w.now ≡ rule (as_slot v.now).line (as_slot v.now).place
  pub commit : (v w : MutBor CodeSlot) (r : Bool) → sends v r w → (if r then 1 else 0) ≡ commits_of (as_slot v.now).line
  pub nothing : rule rules.I Empty ≡ record { line = rules.I; place = Empty }
