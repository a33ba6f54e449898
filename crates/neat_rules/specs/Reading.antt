-- What Neat has at one moment: what its state means for sees, home and owes, which calls wait, which places are open, and due.
use Rattle.std.specs.Prelude.{ℕ, zero, suc, ◌+◌, ◌-◌, ◌/◌, ◌%◌, Bool, true, false, cond, ◌||◌, Some, None, Option, ◌==◌, nat_lt}
use Rattle.protocol.specs.Cells.{line_of, offset_of}
use Rattle.protocol.specs.Moment.{View, Moment}
use Rattle.protocol.specs.declared.steps.Step.{Step}
use Rattle.protocol.specs.declared.steps.Step.TheVariants.{Load, Store, Acquire, Release}
use Rattle.neat_rules.specs.State.{total, Line, I, V, Place, Empty, GetLine, Data, Put, PutAck, Commit, Slot, Closing, Shut, Close, Noted, PutAllAck, Activity, Idle, Loading, Storing, Acquiring, Releasing, Core, State, merged}

-- What a core with the line I sees at offset o, d being the LLC's line: a Data on its way, else a write-back on its way at the bytes
-- whose write bits are set, else the LLC's byte.
abbrev pub sees_beside : Place → (ℕ → ℕ) → ℕ → ℕ
sees_beside Empty d o = d o
sees_beside GetLine d o = d o
sees_beside (Data e) d o = e o
sees_beside (Put b) d o = merged b d o
sees_beside PutAck d o = d o
sees_beside (Commit b) d o = merged b d o

-- A core sees its private line if it is V.
abbrev pub sees_in : Line → Place → (ℕ → ℕ) → ℕ → ℕ
sees_in I p d o = sees_beside p d o
sees_in (V b) p d o = b.bytes o

-- The write bit at offset o of a private line.
abbrev pub owes_line : Line → ℕ → Bool
owes_line I o = false
owes_line (V b) o = b.written o

-- The write bit at offset o of a write-back on its way.
abbrev pub owes_place : Place → ℕ → Bool
owes_place Empty o = false
owes_place GetLine o = false
owes_place (Data e) o = false
owes_place (Put b) o = b.written o
owes_place PutAck o = false
owes_place (Commit b) o = b.written o

-- A core owes a byte whose write bit is set in its private line, or in a write-back on its way.
abbrev pub owes_in : Line → Place → ℕ → Bool
owes_in k p o = owes_line k o || owes_place p o

-- What the cores and the LLC have of memory; home is the LLC's byte.
abbrev pub view : State → View
view s =
    record {
      sees = λ c a. sees_in ((s.cores c).slot (line_of a)).line ((s.cores c).slot (line_of a)).place (s.llc (line_of a)) (offset_of a);
      home = λ a. s.llc (line_of a) (offset_of a);
      owes = λ c a. owes_in ((s.cores c).slot (line_of a)).line ((s.cores c).slot (line_of a)).place (offset_of a);
    }

-- The call that core c waits for.
abbrev pub waits_for : ℕ → Activity → Option Step
waits_for c Idle = None
waits_for c (Loading a) = Some (Load c a)
waits_for c (Storing a y) = Some (Store c a y)
waits_for c Acquiring = Some (Acquire c)
waits_for c Releasing = Some (Release c)

-- A place is open exactly while it carries a message.
abbrev pub carries : Place → Bool
carries Empty = false
carries GetLine = true
carries (Data d) = true
carries (Put b) = true
carries PutAck = true
carries (Commit b) = true

-- Close and PutAllAck are messages in the close place; a noted Close is none.
abbrev pub close_carries : Closing → Bool
close_carries Shut = false
close_carries (Close k) = true
close_carries (Noted k) = false
close_carries PutAllAck = true

-- Place 9c+l is that of core c and line l, place 9c+8 the close place of core c; there are 72.
abbrev pub open_in : State → ℕ → Bool
open_in s p = cond (nat_lt p 72) (cond (p % 9 == 8) (close_carries (s.cores (p / 9)).closing) (carries ((s.cores (p / 9)).slot (p % 9)).place)) false

-- Due is 2 for each message to the LLC and 1 for each answer: in the place of a line.
abbrev pub place_due : Place → ℕ
place_due Empty = 0
place_due GetLine = 2
place_due (Data d) = 1
place_due (Put b) = 2
place_due PutAck = 1
place_due (Commit b) = 2

-- The same in the close place; a noted Close has no due.
abbrev pub closing_due : Closing → ℕ
closing_due Shut = 0
closing_due (Close k) = 2
closing_due (Noted k) = 0
closing_due PutAllAck = 1

-- A GetLine is held back behind a Put or PutAck; due is 2 for each.
abbrev pub held_behind : Place → ℕ
held_behind Empty = 0
held_behind GetLine = 0
held_behind (Data d) = 0
held_behind (Put b) = 2
held_behind PutAck = 2
held_behind (Commit b) = 0

-- The GetLine that a waiting load or store holds back.
abbrev pub held_due : Activity → (ℕ → Slot) → ℕ
held_due Idle f = 0
held_due (Loading a) f = held_behind (f (line_of a)).place
held_due (Storing a y) f = held_behind (f (line_of a)).place
held_due Acquiring f = 0
held_due Releasing f = 0

-- What a core's part has of due.
abbrev pub core_due : Core → ℕ
core_due x = total 8 (λ l. place_due (x.slot l).place) + held_due x.activity x.slot + closing_due x.closing

-- What Neat has at one moment. Reach is 18: eight Commits and a Close.
abbrev pub moment : State → Moment
moment s =
    record {
      view = view s;
      waits = λ c. waits_for c (s.cores c).activity;
      open_at = open_in s;
      due = total 8 (λ c. core_due (s.cores c));
      reach = 18;
    }

-- The first open place of the n places from p on, or none.
abbrev pub first_open : ℕ → State → ℕ → Option ℕ
first_open zero s p = None
first_open (suc n) s p =
    let later = first_open n s (p + 1) in
    cond (open_in s p) (Some p) later

-- The first open place at or after p, or none.
abbrev pub next_open : State → ℕ → Option ℕ
next_open s p = first_open (72 - p) s p
