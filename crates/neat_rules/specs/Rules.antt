-- The rules of Neat: one definition for each call and for each message that is moved.
use Rattle.std.specs.Prelude.{ℕ, ◌+◌, ◌/◌, ◌%◌, Bool, true, false, cond, ◌&&◌, ◌==◌}
use Rattle.protocol.specs.Cells.{line_of, offset_of}
use Rattle.protocol.specs.declared.steps.Step.{Step}
use Rattle.protocol.specs.declared.steps.Step.TheVariants.{Load, Store, Acquire, Release, Evict, Move}
use Rattle.protocol.specs.declared.steps.Ended.TheVariants.{Loaded, Stored, Acquired, Released, Evicted}
use Rattle.protocol.specs.declared.steps.Reply.{Reply}
use Rattle.protocol.specs.declared.steps.Reply.TheVariants.{Waits, Ended as AtOnce, Moved, Finished}
use Rattle.neat_rules.specs.State.{with_at, total, Block, dirty, clean, stored, merged, Line, I, V, Place, Empty, GetLine, Data, Put, PutAck, Commit, Slot, Closing, Shut, Close, Noted, PutAllAck, Activity, Idle, Loading, Storing, Acquiring, Releasing, Core, State, with_slot, with_place, with_closing, with_activity}

-- GetLine goes into the line's place; where a message is still there, GetLine is held back.
abbrev pub asked : Place → Place
asked Empty = GetLine
asked GetLine = GetLine
asked (Data d) = Data d
asked (Put b) = Put b
asked PutAck = PutAck
asked (Commit b) = Commit b

-- The core asks for line l and waits.
abbrev pub awaiting : Core → ℕ → Activity → Core
awaiting x l w = with_activity (with_place x l (asked (x.slot l).place)) w

-- A load with the line V ends at once; with the line I it waits for the line.
abbrev pub load_with : Line → ℕ → ℕ → Core → Reply × Core
load_with (V b) c a x = (AtOnce (Loaded c a (b.bytes (offset_of a))), x)
load_with I c a x = (Waits, awaiting x (line_of a) (Loading a))

-- A load of the address a by core c.
abbrev pub load : ℕ → ℕ → Core → Reply × Core
load c a x = load_with (x.slot (line_of a)).line c a x

-- A store with the line V writes the byte, sets its write bit and ends at once; with the line I it waits for the line.
abbrev pub store_with : Line → ℕ → ℕ → ℕ → Core → Reply × Core
store_with (V b) c a y x = (AtOnce (Stored c a y), with_slot x (line_of a) (record { line = V (stored b (offset_of a) y); place = (x.slot (line_of a)).place }))
store_with I c a y x = (Waits, awaiting x (line_of a) (Storing a y))

-- A store of the byte y to the address a by core c.
abbrev pub store : ℕ → ℕ → ℕ → Core → Reply × Core
store c a y x = store_with (x.slot (line_of a)).line c a y x

-- The line becomes I; if it was dirty, its bytes and write bits go out as a write-back.
abbrev pub emptied : (Block → Place) → Line → Place → Slot
emptied send I p = record { line = I; place = p }
emptied send (V b) p = record { line = I; place = cond (dirty b) (send b) p }

-- An evict makes the line I; if it was dirty, its bytes and write bits go out as Put. It ends at once.
abbrev pub evict : ℕ → ℕ → Core → Reply × Core
evict c l x = (AtOnce (Evicted c l), with_slot x l (emptied Put (x.slot l).line (x.slot l).place))

-- A dirty line goes out as Commit; its write bits are cleared and it is kept V.
abbrev pub released : Line → Place → Slot
released I p = record { line = I; place = p }
released (V b) p = cond (dirty b) (record { line = V (clean b.bytes); place = Commit b }) (record { line = V b; place = p })

-- The Commits that a line gives: one if it is dirty.
abbrev pub commits_of : Line → ℕ
commits_of I = 0
commits_of (V b) = cond (dirty b) 1 0

-- Each line is sent if it is dirty, then Close goes out with the number of Commits, and the core waits.
abbrev pub closing_by : (Line → Place → Slot) → Activity → Core → Reply × Core
closing_by send w x = (
  Waits,
  record {
    slot = λ l. send (x.slot l).line (x.slot l).place;
    closing = Close (total 8 (λ l. commits_of (x.slot l).line));
    received = x.received;
    activity = w;
  },
)

-- An acquire sends each dirty line as Commit, makes every line I, sends Close and waits.
abbrev pub acquire : Core → Reply × Core
acquire x = closing_by (emptied Commit) Acquiring x

-- A release sends each dirty line as Commit, clears its write bits and keeps it V, sends Close and waits.
abbrev pub release : Core → Reply × Core
release x = closing_by released Releasing x

-- A moved GetLine becomes Data with the LLC's line d.
abbrev pub getline_moved : ℕ → (ℕ → ℕ) → Core → Reply × Core
getline_moved l d x = (Moved, with_place x l (Data d))

-- The waiting load or store is done with the line that has come, and ends.
abbrev pub done : Activity → (ℕ → ℕ) → ℕ → ℕ → Core → Reply × Core
done Idle d c l x = (Moved, x)
done (Loading a) d c l x = (Finished (Loaded c a (d (offset_of a))), with_activity x Idle)
done (Storing a y) d c l x = (Finished (Stored c a y), with_activity (with_slot x l (record { line = V (stored (clean d) (offset_of a) y); place = Empty })) Idle)
done Acquiring d c l x = (Moved, x)
done Releasing d c l x = (Moved, x)

-- A moved Data empties its place; the line becomes V without write bits, and the waiting load or store ends.
abbrev pub data_moved : (ℕ → ℕ) → ℕ → ℕ → Core → Reply × Core
data_moved d c l x = done x.activity d c l (with_slot x l (record { line = V (clean d); place = Empty }))

-- A moved Put becomes PutAck.
abbrev pub put_moved : ℕ → Core → Reply × Core
put_moved l x = (Moved, with_place x l PutAck)

-- One for each Put and PutAck.
abbrev pub outstanding : Place → ℕ
outstanding Empty = 0
outstanding GetLine = 0
outstanding (Data d) = 0
outstanding (Put b) = 1
outstanding PutAck = 1
outstanding (Commit b) = 0

-- Whether there is no Close of the core.
abbrev pub shut : Closing → Bool
shut Shut = true
shut (Close k) = false
shut (Noted k) = false
shut PutAllAck = false

-- The Close of the core is over, and no Put or PutAck of it is left.
abbrev pub settled : Core → Bool
settled x = shut x.closing && total 8 (λ l. outstanding (x.slot l).place) == 0

-- A release or acquire ends once its core is settled.
abbrev pub ended : Activity → ℕ → Core → Reply × Core
ended Idle c x = (Moved, x)
ended (Loading a) c x = (Moved, x)
ended (Storing a y) c x = (Moved, x)
ended Acquiring c x = cond (settled x) (Finished (Acquired c), with_activity x Idle) (Moved, x)
ended Releasing c x = cond (settled x) (Finished (Released c), with_activity x Idle) (Moved, x)

-- A GetLine that was held back for line l follows its PutAck.
abbrev pub after_ack : Activity → ℕ → Place
after_ack Idle l = Empty
after_ack (Loading a) l = cond (line_of a == l) GetLine Empty
after_ack (Storing a y) l = cond (line_of a == l) GetLine Empty
after_ack Acquiring l = Empty
after_ack Releasing l = Empty

-- A moved PutAck empties its place, or GetLine follows there; a release or acquire may end with it.
abbrev pub putack_moved : ℕ → ℕ → Core → Reply × Core
putack_moved c l x = ended x.activity c (with_place x l (after_ack x.activity l))

-- Once the noted number equals the received count, both are cleared and PutAllAck goes into the close place.
abbrev pub answered_by : Closing → Core → Core
answered_by Shut x = x
answered_by (Close k) x = x
answered_by (Noted k) x = cond (k == x.received) (record { slot = x.slot; closing = PutAllAck; received = 0; activity = x.activity }) x
answered_by PutAllAck x = x

-- The LLC looks whether all Commits of a noted Close are received.
abbrev pub answered : Core → Core
answered x = answered_by x.closing x

-- One more Commit of the core is received.
abbrev pub counted : Core → Core
counted x = record { slot = x.slot; closing = x.closing; received = x.received + 1; activity = x.activity }

-- A moved Commit empties its place and adds 1 to its core's received count.
abbrev pub commit_moved : ℕ → Core → Reply × Core
commit_moved l x = (Moved, answered (counted (with_place x l Empty)))

-- A moved Close empties the close place and is noted.
abbrev pub close_moved : ℕ → Core → Reply × Core
close_moved k x = (Moved, answered (with_closing x (Noted k)))

-- A moved PutAllAck empties the close place; the release or acquire may end with it.
abbrev pub putallack_moved : ℕ → Core → Reply × Core
putallack_moved c x = ended x.activity c (with_closing x Shut)

-- The table of messages about a line: what moving one does to core c, with d the LLC's line l.
abbrev pub message_moved : Place → ℕ → ℕ → (ℕ → ℕ) → Core → Reply × Core
message_moved Empty c l d x = (Moved, x)
message_moved GetLine c l d x = getline_moved l d x
message_moved (Data e) c l d x = data_moved e c l x
message_moved (Put b) c l d x = put_moved l x
message_moved PutAck c l d x = putack_moved c l x
message_moved (Commit b) c l d x = commit_moved l x

-- The LLC's line after a message is moved: Put and Commit give it their bytes whose write bits are set.
abbrev pub given : Place → (ℕ → ℕ) → ℕ → ℕ
given Empty d = d
given GetLine d = d
given (Data e) d = d
given (Put b) d = merged b d
given PutAck d = d
given (Commit b) d = merged b d

-- The table of the close place: what moving its message does to core c.
abbrev pub close_place_moved : Closing → ℕ → Core → Reply × Core
close_place_moved Shut c x = (Moved, x)
close_place_moved (Close k) c x = close_moved k x
close_place_moved (Noted k) c x = (Moved, x)
close_place_moved PutAllAck c x = putallack_moved c x

-- The state with another part of core c.
abbrev pub at_core : State → ℕ → Reply × Core → Reply × State
at_core s c r = (r.0, record { cores = with_at s.cores c r.1; llc = s.llc })

-- The message about line l of core c is moved.
abbrev pub line_move : State → ℕ → ℕ → Reply × State
line_move s c l =
    let r = message_moved ((s.cores c).slot l).place c l (s.llc l) (s.cores c) in
    (r.0, record { cores = with_at s.cores c r.1; llc = with_at s.llc l (given ((s.cores c).slot l).place (s.llc l)) })

-- The message in the close place of core c is moved.
abbrev pub close_move : State → ℕ → Reply × State
close_move s c = at_core s c (close_place_moved (s.cores c).closing c (s.cores c))

-- The table of steps. Place 9c+l is that of core c and line l, place 9c+8 the close place of core c.
abbrev pub act : State → Step → Reply × State
act s (Load c a) = at_core s c (load c a (s.cores c))
act s (Store c a y) = at_core s c (store c a y (s.cores c))
act s (Acquire c) = at_core s c (acquire (s.cores c))
act s (Release c) = at_core s c (release (s.cores c))
act s (Evict c l) = at_core s c (evict c l (s.cores c))
act s (Move p) = cond (p % 9 == 8) (close_move s (p / 9)) (line_move s (p / 9) (p % 9))
