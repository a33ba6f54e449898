-- Neat's rules for moved messages keep the meaning.
use Rattle.std.proofs.Common.{◌≡◌, ℕ, ◌+◌, ◌<◌, ◌≤◌, Bool, true, false, cond, eqb, sym, refl, ap, ◌∙◌, subst, ap₂, subst₂, arith}
use Rattle.std.proofs.lemmas.Bool.{eq-eqb, ne_eqb, eqb-true, eqb-false, cond-false}
use Rattle.protocol.specs.Cells.{line_of, offset_of}
use Rattle.protocol.specs.Moment.{Drift, stay, drift}
use Rattle.protocol.specs.Meaning.{Delivered}
use Rattle.protocol.specs.declared.steps.Reply.{Reply}
use Rattle.protocol.specs.declared.steps.Reply.TheVariants.{Moved}
use Rattle.neat_rules.specs.State.{with_at, total, Block, clean, stored, merged, Line, I, V, Place, Empty, GetLine, Data, Put, PutAck, Commit, Slot, Closing, Shut, Close, Noted, PutAllAck, Activity, Idle, Loading, Storing, Acquiring, Releasing, Core, State, with_slot, with_place, with_closing, with_activity}
use Rattle.neat_rules.specs.Rules.{outstanding, ended, after_ack, done, getline_moved, data_moved, put_moved, putack_moved, answered_by, answered, commit_moved, close_moved, putallack_moved}
use Rattle.neat_rules.specs.Reading.{moment, view, waits_for, core_due, place_due, held_behind, held_due, closing_due}
use Rattle.neat_rules.proofs.Tables.{with_at_here, with_at_there, with_at_all, with_at_twice}
use Rattle.neat_rules.proofs.Invariant.{Stage, resting, fetching, closed, stage, Fetching, NotFetching, Closed, Bytewise, SlotOk, Agrees, NoClose, Counted, Gone, InRange, CoreOk, Reachable, commit_in, commits, puts}
use Rattle.neat_rules.proofs.Drift.{after, Quiet, quiet_same, slot_sees, core_drift, slot_drift, LandsIn, land_drift, store_lands}
use Rattle.neat_rules.proofs.Slots.{getline_ok, getline_quiet, data_fetching, data_quiet, put_ok, put_lands, putack_empty, putack_getline, putack_empty_quiet, putack_getline_quiet, commit_ok, commit_lands, stored_bytes, merged_bytes}
use Rattle.neat_rules.proofs.Parts.{Fetches, fetches_load, fetches_store, ClosesBy, closes_acquire, closes_release, closed_ok, again_after, waiting_stays, waiting_becomes, due_falls, same_sum, less_sum, places_due, places_due_with, commits_with, puts_with, held_with}
use Rattle.neat_rules.proofs.Ends.{Outcome, Almost, acquire_ended, release_ended}

-- A move whose write-back b lands in the LLC's line l.
abbrev pub Landed : State → ℕ → ℕ → Block → Reply × Core → Type 0
Landed s c l b r =
    (Delivered (moment s) (moment (after s c r.1 (with_at s.llc l (merged b (s.llc l))))) r.0)
    × (Reachable (after s c r.1 (with_at s.llc l (merged b (s.llc l)))))

agrees_almost : (k : Closing) (r n q : ℕ) → Agrees k r n q → Almost k r n
agrees_almost Shut r n q h = (h.0, h.1)
agrees_almost (Close k) r n q h = h
agrees_almost (Noted k) r n q h = h
agrees_almost PutAllAck r n q h = h

-- The counts as they are when the LLC looks whether all Commits have come.
abbrev ToAnswer : Closing → ℕ → ℕ → Type 0
ToAnswer Shut r n = ⊥
ToAnswer (Close k) r n = (k ≡ r + n) × (k ≤ 8)
ToAnswer (Noted k) r n = (k ≡ r + n) × (k ≤ 8)
ToAnswer PutAllAck r n = ⊥

record Answered (y z : Core) : Type 0 where
  slot : z.slot ≡ y.slot
  activity : z.activity ≡ y.activity
  agrees : Agrees z.closing z.received (commits y) (puts y)
  due : closing_due z.closing ≤ closing_due y.closing + 1

answer : (y : Core) (k : Closing) → y.closing ≡ k → ToAnswer k y.received (commits y) → Answered y (answered_by k y)
answer y Shut e h = absurd h
answer y (Close k) e h = record { slot = refl; activity = refl; agrees = subst (λ (j : Closing). Agrees j y.received (commits y) (puts y)) (sym e) h; due = less (closing_due y.closing) }
  where
    less : (n : ℕ) → n ≤ n + 1
    less n = omega arith
answer y (Noted k) e h = go (eqb k y.received) refl
  where
    none : (k r n : ℕ) → k ≡ r + n → k ≡ r → n ≡ 0
    none k r n p q = omega arith

    some : (k r n : ℕ) → k ≡ r + n → (k ≡ r → ⊥) → 0 < n
    some k r n p q = omega arith

    less : (n : ℕ) → n ≤ n + 1
    less n = omega arith

    one : (n : ℕ) → 1 ≤ n + 1
    one n = omega arith

    go : (t : Bool) → eqb k y.received ≡ t → Answered y (cond t (record { slot = y.slot; closing = PutAllAck; received = 0; activity = y.activity }) y)
    go true q = record { slot = refl; activity = refl; agrees = (refl, none k y.received (commits y) h.0 (eqb-true k y.received q)); due = one (closing_due y.closing) }
    go false q = record { slot = refl; activity = refl; agrees = subst (λ (j : Closing). Agrees j y.received (commits y) (puts y)) (sym e) (h.0, h.1, some k y.received (commits y) h.0 (eqb-false k y.received q)); due = less (closing_due y.closing) }
answer y PutAllAck e h = absurd h

fetching_there : (t : Bool) → Fetching (cond t fetching resting) → t ≡ true
fetching_there true h = refl
fetching_there false h = absurd h

not_closed : (t : Bool) → Closed (cond t fetching resting) → ⊥
not_closed true h = h
not_closed false h = h

commit_closed : (g : Stage) (k : Line) (b : Block) → SlotOk g k (Commit b) → Closed g
commit_closed g I b h = h.allowed
commit_closed resting (V e) b h = h.allowed
commit_closed fetching (V e) b h = h.allowed
commit_closed closed (V e) b h = tt

-- Sums that a move changes.
one_more : (n m : ℕ) → n + 1 ≡ m → m ≡ 0 → ⊥
one_more n m h g = omega arith

one_received : (k r n m : ℕ) → n + 1 ≡ m → k ≡ r + m → k ≡ r + 1 + n
one_received k r n m h g = omega arith

falls_place : (p q o n h g k : ℕ) → p + o ≡ q + n → n + 1 ≤ o → h ≡ g → p + h + k + 1 ≤ q + g + k
falls_place p q o n h g k e l f = omega arith

falls_close : (p q h g k j : ℕ) → p ≡ q → h ≡ g → k + 1 ≤ j → p + h + k + 1 ≤ q + g + j
falls_close p q h g k j e f l = omega arith

-- A move at core c.
module _ (s : State) (c : ℕ) (i : Reachable s) (lt : c < 8) where
  abbrev x : Core
  x = s.cores c

  passes : (z : Core) → CoreOk z → z.activity ≡ x.activity → ((j o : ℕ) → j < 8 → o < 8 → Quiet (x.slot j) (z.slot j) (s.llc j) o) → core_due z + 1 ≤ core_due x → Outcome s c (Moved, z)
  passes z ok same quiet due = (record { drifts = drift stay (core_drift s c z quiet); waiting = waiting_stays s c z s.llc same; falls = due_falls s c z s.llc lt due }, again_after s c z s.llc i ok i.llc)

  closed_slots : (w : Activity) → ClosesBy w → x.activity ≡ w → (j : ℕ) → j < 8 → SlotOk closed (x.slot j).line (x.slot j).place
  closed_slots w by is j h = subst (λ (g : Stage). SlotOk g (x.slot j).line (x.slot j).place) (ap (λ (v : Activity). stage v j) is ∙ by.stage_is j) ((i.cores c).slots j h)

  counts_agree : (w : Activity) → ClosesBy w → x.activity ≡ w → Agrees x.closing x.received (commits x) (puts x)
  counts_agree w by is = by.agrees x.closing x.received (commits x) (puts x) (subst (λ (v : Activity). Counted v x.closing x.received (commits x) (puts x)) is (i.cores c).counted)

  gone_as : (w : Activity) → x.activity ≡ w → (j : ℕ) → j < 8 → Gone w (x.slot j).line
  gone_as w is j h = subst (λ (v : Activity). Gone v (x.slot j).line) is ((i.cores c).gone j h)

  -- A message about line l.
  module _ (l : ℕ) (in_line : l < 8) where
    slot_at : (p : Place) → (x.slot l).place ≡ p → SlotOk (stage x.activity l) (x.slot l).line p
    slot_at p e = subst (λ (q : Place). SlotOk (stage x.activity l) (x.slot l).line q) e ((i.cores c).slots l in_line)

    -- The slots after another message is in the place.
    slots_with : (p : Place) → SlotOk (stage x.activity l) (x.slot l).line p → (j : ℕ) → j < 8 → SlotOk (stage x.activity j) ((with_place x l p).slot j).line ((with_place x l p).slot j).place
    slots_with p h = with_at_all (λ j (u : Slot). j < 8 → SlotOk (stage x.activity j) u.line u.place) x.slot l (record { line = (x.slot l).line; place = p }) (λ j. h) (i.cores c).slots

    gone_with : (w : Activity) (p : Place) → x.activity ≡ w → (j : ℕ) → j < 8 → Gone w ((with_place x l p).slot j).line
    gone_with w p is = with_at_all (λ j (u : Slot). j < 8 → Gone w u.line) x.slot l (record { line = (x.slot l).line; place = p }) (gone_as w is l) (gone_as w is)

    place_ok : (p : Place) → SlotOk (stage x.activity l) (x.slot l).line p → Counted x.activity x.closing x.received (commits (with_place x l p)) (puts (with_place x l p)) → CoreOk (with_place x l p)
    place_ok p h counted = record { slots = slots_with p h; gone = gone_with x.activity p refl; counted = counted; in_range = (i.cores c).in_range }

    same_counts : (p : Place) → commit_in (x.slot l).place ≡ commit_in p → outstanding (x.slot l).place ≡ outstanding p → Counted x.activity x.closing x.received (commits (with_place x l p)) (puts (with_place x l p))
    same_counts p e f =
        let v : Slot = record { line = (x.slot l).line; place = p } in
        subst₂ (λ (n q : ℕ). Counted x.activity x.closing x.received n q)
        (sym (same_sum (commits (with_place x l p)) (commits x) (commit_in (x.slot l).place) (commit_in p) (commits_with x.slot l v in_line) e))
        (sym (same_sum (puts (with_place x l p)) (puts x) (outstanding (x.slot l).place) (outstanding p) (puts_with x.slot l v in_line) f))
        (i.cores c).counted

    place_falls : (p : Place) → place_due p + 1 ≤ place_due (x.slot l).place → held_due x.activity (with_place x l p).slot ≡ held_due x.activity x.slot → core_due (with_place x l p) + 1 ≤ core_due x
    place_falls p h e =
        let v : Slot = record { line = (x.slot l).line; place = p } in
        falls_place (places_due (with_at x.slot l v)) (places_due x.slot) (place_due (x.slot l).place) (place_due p) (held_due x.activity (with_at x.slot l v)) (held_due x.activity x.slot) (closing_due x.closing) (places_due_with x.slot l v in_line) h e

    -- From what one byte of the line's slot does to what all bytes of the core do.
    quiet_with : (p q : Place) → (x.slot l).place ≡ p → ((o : ℕ) → Quiet (record { line = (x.slot l).line; place = p }) (record { line = (x.slot l).line; place = q }) (s.llc l) o) → (j o : ℕ) → j < 8 → o < 8 → Quiet (x.slot j) ((with_place x l q).slot j) (s.llc j) o
    quiet_with p q e h =
        with_at_all (λ j (u : Slot). (o : ℕ) → j < 8 → o < 8 → Quiet (x.slot j) u (s.llc j) o) x.slot l (record { line = (x.slot l).line; place = q }) (λ o j k. subst (λ (r : Place). Quiet (record { line = (x.slot l).line; place = r }) (record { line = (x.slot l).line; place = q }) (s.llc l) o) (sym e) (h o)) (λ j o k m. quiet_same (x.slot j) (s.llc j) o)

    lands : (z : Core) (v : Slot) (b : Block) → z.slot ≡ with_at x.slot l v → CoreOk z → z.activity ≡ x.activity → ((o : ℕ) → o < 8 → LandsIn (x.slot l) v b (s.llc l) o) → Bytewise b.bytes → core_due z + 1 ≤ core_due x → Landed s c l b (Moved, z)
    lands z v b is ok same land bytes due =
        let g : ℕ → ℕ → ℕ = with_at s.llc l (merged b (s.llc l)) in (
          record { drifts = drift stay (land_drift s c z v b lt l is land); waiting = waiting_stays s c z g same; falls = due_falls s c z g lt due },
          again_after s c z g i ok (with_at_all (λ j (d : ℕ → ℕ). Bytewise d) s.llc l (merged b (s.llc l)) (merged_bytes b (s.llc l) bytes (i.llc l)) i.llc),
        )

    pub getline_kept : (x.slot l).place ≡ GetLine → Outcome s c (getline_moved l (s.llc l) x)
    getline_kept e =
        let d : ℕ → ℕ = s.llc l in
        passes (with_place x l (Data d))
        (place_ok (Data d) (getline_ok (stage x.activity l) (x.slot l).line d (slot_at GetLine e) (i.llc l)) (same_counts (Data d) (ap commit_in e) (ap outstanding e)))
        refl
        (quiet_with GetLine (Data d) e (getline_quiet (x.slot l).line d))
        (place_falls (Data d) (subst (λ (p : Place). 2 ≤ place_due p) (sym e) (omega arith)) (held_with x.activity x.slot l (record { line = (x.slot l).line; place = Data d }) (sym (ap held_behind e))))

    pub put_kept : (b : Block) → (x.slot l).place ≡ Put b → Landed s c l b (put_moved l x)
    put_kept b e =
        let z : Core = with_place x l PutAck in
        let v : Slot = record { line = (x.slot l).line; place = PutAck } in
        lands z v b refl
        (place_ok PutAck (put_ok (stage x.activity l) (x.slot l).line b (slot_at (Put b) e)) (same_counts PutAck (ap commit_in e) (ap outstanding e)))
        refl
        (λ o h. subst (λ (p : Place). LandsIn (record { line = (x.slot l).line; place = p }) v b (s.llc l) o) (sym e) (put_lands (stage x.activity l) (x.slot l).line b (slot_at (Put b) e) (s.llc l) o))
        (slot_at (Put b) e).place_bytes
        (place_falls PutAck (subst (λ (p : Place). 2 ≤ place_due p) (sym e) (omega arith)) (held_with x.activity x.slot l v (sym (ap held_behind e))))

    -- A Data comes for a waiting load or store of an address a in line l.
    module _ (d : ℕ → ℕ) (e : (x.slot l).place ≡ Data d) where
      fetched : (w : Activity) → x.activity ≡ w → Fetching (stage w l)
      fetched w is = subst (λ (v : Activity). Fetching (stage v l)) is (data_fetching (stage x.activity l) (x.slot l).line d (slot_at (Data d) e))

      bytes : Bytewise d
      bytes = (slot_at (Data d) e).place_bytes

      abbrev came : Slot
      came = record { line = V (clean d); place = Empty }

      abbrev filled : Core
      filled = with_slot x l came

      fill_quiet : (o : ℕ) → Quiet (x.slot l) came (s.llc l) o
      fill_quiet o = subst (λ (p : Place). Quiet (record { line = (x.slot l).line; place = p }) came (s.llc l) o) (sym e) (data_quiet (stage x.activity l) (x.slot l).line d (s.llc l) o (slot_at (Data d) e))

      fill_drift : (z : Core) → z.slot ≡ with_at x.slot l came → Drift (view s) (view (after s c z s.llc))
      fill_drift z is = slot_drift s c l z came is (λ o h. fill_quiet o)

      module _ (a : ℕ) (w : Activity) (f : Fetches a w) (is : x.activity ≡ w) where
        there : l ≡ line_of a
        there = eqb-true l (line_of a) (fetching_there (eqb l (line_of a)) (subst Fetching (f.stage_is l) (fetched w is)))

        -- Every other line is at rest.
        others : (j : ℕ) → j < 8 → eqb j l ≡ false → SlotOk resting (x.slot j).line (x.slot j).place
        others j h ne = subst (λ (g : Stage). SlotOk g (x.slot j).line (x.slot j).place) (ap (λ (v : Activity). stage v j) is ∙ f.stage_is j ∙ cond-false (eqb j (line_of a)) fetching resting (ne_eqb j (line_of a) (λ q. eqb-false j l ne (q ∙ sym there)))) ((i.cores c).slots j h)

        done_ok : (y : Core) (v : Slot) → y.slot ≡ with_at x.slot l v → NoClose y.closing y.received → SlotOk resting v.line v.place → CoreOk (with_activity y Idle)
        done_ok y v slot_is shut ok =
            record {
              slots = λ j h. subst (λ (g : ℕ → Slot). SlotOk resting (g j).line (g j).place) (sym slot_is) (go j h (eqb j l) refl);
              gone = λ j h. tt;
              counted = shut;
              in_range = tt;
            }
          where
            go : (j : ℕ) → j < 8 → (t : Bool) → eqb j l ≡ t → SlotOk resting (cond t v (x.slot j)).line (cond t v (x.slot j)).place
            go j h true q = ok
            go j h false q = others j h q

        done_due : (y : Core) (v : Slot) → y.slot ≡ with_at x.slot l v → y.closing ≡ x.closing → v.place ≡ Empty → core_due (with_activity y Idle) + 1 ≤ core_due x
        done_due y v slot_is closing_is empty =
            sums (places_due y.slot) (places_due x.slot) (closing_due y.closing) (closing_due x.closing) (held_due x.activity x.slot)
            (subst₂ (λ (n m : ℕ). places_due y.slot + n ≡ places_due x.slot + m) (ap place_due e) (ap place_due empty) (subst (λ (g : ℕ → Slot). places_due g + place_due (x.slot l).place ≡ places_due x.slot + place_due v.place) (sym slot_is) (places_due_with x.slot l v in_line)))
            (ap closing_due closing_is)
          where
            sums : (p q k j h : ℕ) → p + 1 ≡ q + 0 → k ≡ j → p + 0 + k + 1 ≤ q + h + j
            sums p q k j h u v = omega arith

        not_closing : (u : (k : Closing) (r n q : ℕ) → Counted w k r n q → NoClose k r) → NoClose x.closing x.received
        not_closing u = u x.closing x.received (commits x) (puts x) (subst (λ (v : Activity). Counted v x.closing x.received (commits x) (puts x)) is (i.cores c).counted)

      load_done : (a : ℕ) → x.activity ≡ Loading a → Outcome s c (done (Loading a) d c l filled)
      load_done a is =
          let f : Fetches a (Loading a) = fetches_load a (subst InRange is (i.cores c).in_range) in
          let z : Core = with_activity filled Idle in
          let here : z.slot (line_of a) ≡ came = ap (with_at x.slot l came) (sym (there a (Loading a) f is)) ∙ with_at_here x.slot l came in (
            record {
              core = lt;
              waited = ap (waits_for c) is;
              brings = (drift stay (fill_drift z refl), sym (ap (λ (y : Core). slot_sees (y.slot (line_of a)) (s.llc (line_of a)) (offset_of a)) (with_at_here s.cores c z) ∙ ap (λ (u : Slot). slot_sees u (s.llc (line_of a)) (offset_of a)) here));
              waiting = waiting_becomes s c z s.llc Idle refl;
              falls = due_falls s c z s.llc lt (done_due a (Loading a) f is filled came refl refl refl);
            },
            again_after s c z s.llc i (done_ok a (Loading a) f is filled came refl (not_closing a (Loading a) f is (λ k r n q h. h)) (record { allowed = tt; line_bytes = bytes; place_bytes = tt })) i.llc,
          )

      store_done : (a y : ℕ) → x.activity ≡ Storing a y → Outcome s c (done (Storing a y) d c l filled)
      store_done a y is =
          let range : InRange (Storing a y) = subst InRange is (i.cores c).in_range in
          let f : Fetches a (Storing a y) = fetches_store a y range in
          let v : Slot = record { line = V (stored (clean d) (offset_of a) y); place = Empty } in
          let m : Core = with_slot filled l v in
          let z : Core = with_activity m Idle in
          let once : m.slot ≡ with_at x.slot l v = with_at_twice x.slot l came v in
          let line_is : l ≡ line_of a = there a (Storing a y) f is in
          let was : filled.slot (line_of a) ≡ came = ap (with_at x.slot l came) (sym line_is) ∙ with_at_here x.slot l came in (
            record {
              core = lt;
              waited = ap (waits_for c) is;
              brings = (view (after s c filled s.llc), view (after s c z s.llc), drift stay (fill_drift filled refl), store_lands a y (clean d) Empty filled z was (ap (λ (j : ℕ). with_at filled.slot j v) line_is) s c, stay);
              waiting = waiting_becomes s c z s.llc Idle refl;
              falls = due_falls s c z s.llc lt (done_due a (Storing a y) f is m v once refl refl);
            },
            again_after s c z s.llc i (done_ok a (Storing a y) f is m v once (not_closing a (Storing a y) f is (λ k r n q h. h)) (record { allowed = tt; line_bytes = stored_bytes (clean d) (offset_of a) y bytes range.1; place_bytes = tt })) i.llc,
          )

      pub data_kept : Outcome s c (data_moved d c l x)
      data_kept = go x.activity refl
        where
          go : (w : Activity) → x.activity ≡ w → Outcome s c (done w d c l filled)
          go Idle is = absurd (fetched Idle is)
          go (Loading a) is = load_done a is
          go (Storing a y) is = store_done a y is
          go Acquiring is = absurd (fetched Acquiring is)
          go Releasing is = absurd (fetched Releasing is)

    -- A moved PutAck.
    module _ (e : (x.slot l).place ≡ PutAck) where
      ack_empty : NotFetching (stage x.activity l) → SlotOk (stage x.activity l) (x.slot l).line Empty
      ack_empty n = putack_empty (stage x.activity l) (x.slot l).line (slot_at PutAck e) n

      empty_falls : held_due x.activity (with_place x l Empty).slot ≡ held_due x.activity x.slot → core_due (with_place x l Empty) + 1 ≤ core_due x
      empty_falls = place_falls Empty (subst (λ (p : Place). 1 ≤ place_due p) (sym e) (omega arith))

      empty_quiet : (j o : ℕ) → j < 8 → o < 8 → Quiet (x.slot j) ((with_place x l Empty).slot j) (s.llc j) o
      empty_quiet = quiet_with PutAck Empty e (putack_empty_quiet (x.slot l).line (s.llc l))

      ack_idle : x.activity ≡ Idle → Outcome s c (Moved, with_place x l Empty)
      ack_idle is =
          passes (with_place x l Empty)
          (place_ok Empty (ack_empty (subst (λ (w : Activity). NotFetching (stage w l)) (sym is) tt)) (subst (λ (w : Activity). Counted w x.closing x.received (commits (with_place x l Empty)) (puts (with_place x l Empty))) (sym is) (subst (λ (w : Activity). Counted w x.closing x.received (commits x) (puts x)) is (i.cores c).counted)))
          refl empty_quiet (empty_falls (ap (λ (w : Activity). held_due w (with_place x l Empty).slot) is ∙ sym (ap (λ (w : Activity). held_due w x.slot) is)))

      -- In a waiting load or store of the address a, GetLine follows if it was held back for this line.
      module _ (a : ℕ) (w : Activity) (f : Fetches a w) (is : x.activity ≡ w) (shut : NoClose x.closing x.received) where
        stage_here : (t : Bool) → eqb l (line_of a) ≡ t → stage x.activity l ≡ cond t fetching resting
        stage_here t q = ap (λ (v : Activity). stage v l) is ∙ f.stage_is l ∙ ap (λ (u : Bool). cond u fetching resting) q

        still_counted : (p : Place) → Counted x.activity x.closing x.received (commits (with_place x l p)) (puts (with_place x l p))
        still_counted p = subst (λ (v : Activity). Counted v x.closing x.received (commits (with_place x l p)) (puts (with_place x l p))) (sym is) (f.counted x.closing x.received (commits (with_place x l p)) (puts (with_place x l p)) shut)

        held_is : (g : ℕ → Slot) → held_due x.activity g ≡ held_behind (g (line_of a)).place
        held_is g = ap (λ (v : Activity). held_due v g) is ∙ f.held g

        follows : line_of a ≡ l → Outcome s c (Moved, with_place x l GetLine)
        follows q =
            passes (with_place x l GetLine)
            (place_ok GetLine (putack_getline (stage x.activity l) (x.slot l).line (slot_at PutAck e) (subst Fetching (sym (stage_here true (eq-eqb l (line_of a) (sym q)))) tt)) (still_counted GetLine))
            refl
            (quiet_with PutAck GetLine e (putack_getline_quiet (x.slot l).line (s.llc l)))
            (sums (places_due (with_place x l GetLine).slot) (places_due x.slot) (place_due (x.slot l).place) (held_due x.activity (with_place x l GetLine).slot) (held_due x.activity x.slot) (closing_due x.closing)
            (places_due_with x.slot l v in_line) (ap place_due e)
            (held_is (with_at x.slot l v) ∙ ap (λ (j : ℕ). held_behind (with_at x.slot l v j).place) q ∙ ap (λ (u : Slot). held_behind u.place) (with_at_here x.slot l v))
            (held_is x.slot ∙ ap (λ (j : ℕ). held_behind (x.slot j).place) q ∙ ap held_behind e))
          where
            v : Slot
            v = record { line = (x.slot l).line; place = GetLine }

            sums : (p q o h g k : ℕ) → p + o ≡ q + 2 → o ≡ 1 → h ≡ 0 → g ≡ 2 → p + h + k + 1 ≤ q + g + k
            sums p q o h g k a b c d = omega arith

        leaves : (line_of a ≡ l → ⊥) → Outcome s c (Moved, with_place x l Empty)
        leaves q =
            passes (with_place x l Empty)
            (place_ok Empty (ack_empty (subst NotFetching (sym (stage_here false (ne_eqb l (line_of a) (λ r. q (sym r))))) tt)) (still_counted Empty))
            refl empty_quiet
            (empty_falls (held_is (with_place x l Empty).slot ∙ ap (λ (u : Slot). held_behind u.place) (with_at_there x.slot l (record { line = (x.slot l).line; place = Empty }) (line_of a) q) ∙ sym (held_is x.slot)))

        ack_fetches : Outcome s c (Moved, with_place x l (cond (eqb (line_of a) l) GetLine Empty))
        ack_fetches = go (eqb (line_of a) l) refl
          where
            go : (t : Bool) → eqb (line_of a) l ≡ t → Outcome s c (Moved, with_place x l (cond t GetLine Empty))
            go true q = follows (eqb-true (line_of a) l q)
            go false q = leaves (eqb-false (line_of a) l q)

      -- In an acquire or release it may be the last.
      module _ (w : Activity) (by : ClosesBy w) (is : x.activity ≡ w) where
        ack_slots : (j : ℕ) → j < 8 → SlotOk closed ((with_place x l Empty).slot j).line ((with_place x l Empty).slot j).place
        ack_slots = with_at_all (λ j (u : Slot). j < 8 → SlotOk closed u.line u.place) x.slot l (record { line = (x.slot l).line; place = Empty }) (λ h. putack_empty closed (x.slot l).line (subst (λ (p : Place). SlotOk closed (x.slot l).line p) e (closed_slots w by is l h)) tt) (closed_slots w by is)

        ack_almost : Almost x.closing x.received (commits (with_place x l Empty))
        ack_almost =
            subst (Almost x.closing x.received)
            (sym (same_sum (commits (with_place x l Empty)) (commits x) (commit_in (x.slot l).place) 0 (commits_with x.slot l (record { line = (x.slot l).line; place = Empty }) in_line) (ap commit_in e)))
            (agrees_almost x.closing x.received (commits x) (puts x) (counts_agree w by is))

        ack_falls : core_due (with_place x l Empty) + 1 ≤ core_due x
        ack_falls = empty_falls (ap (λ (v : Activity). held_due v (with_place x l Empty).slot) is ∙ by.held (with_place x l Empty).slot ∙ sym (ap (λ (v : Activity). held_due v x.slot) is ∙ by.held x.slot))

      pub putack_kept : Outcome s c (putack_moved c l x)
      putack_kept = go x.activity refl
        where
          go : (w : Activity) → x.activity ≡ w → Outcome s c (ended w c (with_place x l (after_ack w l)))
          go Idle is = ack_idle is
          go (Loading a) is = ack_fetches a (Loading a) (fetches_load a (subst InRange is (i.cores c).in_range)) is (subst (λ (w : Activity). Counted w x.closing x.received (commits x) (puts x)) is (i.cores c).counted)
          go (Storing a y) is = ack_fetches a (Storing a y) (fetches_store a y (subst InRange is (i.cores c).in_range)) is (subst (λ (w : Activity). Counted w x.closing x.received (commits x) (puts x)) is (i.cores c).counted)
          go Acquiring is = acquire_ended s c i lt (with_place x l Empty) refl (ack_slots Acquiring closes_acquire is) (ack_almost Acquiring closes_acquire is) empty_quiet (ack_falls Acquiring closes_acquire is) is (gone_with Acquiring Empty is)
          go Releasing is = release_ended s c i lt (with_place x l Empty) refl (ack_slots Releasing closes_release is) (ack_almost Releasing closes_release is) empty_quiet (ack_falls Releasing closes_release is) is

    -- A moved Commit, in an acquire or release.
    module _ (b : Block) (e : (x.slot l).place ≡ Commit b) where
      abbrev y : Core
      y = record { slot = with_at x.slot l (record { line = (x.slot l).line; place = Empty }); closing = x.closing; received = x.received + 1; activity = x.activity }

      fewer : commits y + 1 ≡ commits x
      fewer = less_sum (commits y) (commits x) (commit_in (x.slot l).place) 0 (commits_with x.slot l (record { line = (x.slot l).line; place = Empty }) in_line) (ap commit_in e) refl

      to_answer : (k : Closing) (r n m q : ℕ) → n + 1 ≡ m → Agrees k r m q → ToAnswer k (r + 1) n
      to_answer Shut r n m q h g = absurd (one_more n m h g.1)
      to_answer (Close k) r n m q h g = (one_received k r n m h g.0, g.1)
      to_answer (Noted k) r n m q h g = (one_received k r n m h g.0, g.1)
      to_answer PutAllAck r n m q h g = absurd (one_more n m h g.1)

      module _ (w : Activity) (by : ClosesBy w) (is : x.activity ≡ w) where
        committed : SlotOk closed (x.slot l).line (Commit b)
        committed = subst (λ (p : Place). SlotOk closed (x.slot l).line p) e (closed_slots w by is l in_line)

        answered_y : Answered y (answered y)
        answered_y = answer y x.closing refl (to_answer x.closing x.received (commits y) (commits x) (puts x) fewer (counts_agree w by is))

        commit_slots : (j : ℕ) → j < 8 → SlotOk closed (y.slot j).line (y.slot j).place
        commit_slots = with_at_all (λ j (u : Slot). j < 8 → SlotOk closed u.line u.place) x.slot l (record { line = (x.slot l).line; place = Empty }) (λ h. commit_ok (x.slot l).line b committed) (closed_slots w by is)

        commit_falls : core_due (answered y) + 1 ≤ core_due x
        commit_falls =
            sums (places_due (answered y).slot) (places_due y.slot) (places_due x.slot) (place_due (x.slot l).place) (held_due (answered y).activity (answered y).slot) (held_due x.activity x.slot) (closing_due (answered y).closing) (closing_due x.closing)
            (ap places_due answered_y.slot) (places_due_with x.slot l (record { line = (x.slot l).line; place = Empty }) in_line) (ap place_due e)
            (ap (λ (v : Activity). held_due v (answered y).slot) (answered_y.activity ∙ is) ∙ by.held (answered y).slot)
            answered_y.due
          where
            sums : (p p' q o h g k j : ℕ) → p ≡ p' → p' + o ≡ q + 0 → o ≡ 2 → h ≡ 0 → k ≤ j + 1 → p + h + k + 1 ≤ q + g + j
            sums p p' q o h g k j a b c d e = omega arith

        commit_done : Landed s c l b (commit_moved l x)
        commit_done =
            let v : Slot = record { line = (x.slot l).line; place = Empty } in
            lands (answered y) v b answered_y.slot
            (closed_ok (answered y) w by (answered_y.activity ∙ is)
            (subst (λ (g : ℕ → Slot). (j : ℕ) → j < 8 → SlotOk closed (g j).line (g j).place) (sym answered_y.slot) commit_slots)
            (subst (λ (g : ℕ → Slot). (j : ℕ) → j < 8 → Gone w (g j).line) (sym answered_y.slot) (gone_with w Empty is))
            (subst (λ (g : ℕ → Slot). Agrees (answered y).closing (answered y).received (total 8 (λ j. commit_in (g j).place)) (total 8 (λ j. outstanding (g j).place))) (sym answered_y.slot) answered_y.agrees))
            answered_y.activity
            (λ o h. subst (λ (p : Place). LandsIn (record { line = (x.slot l).line; place = p }) v b (s.llc l) o) (sym e) (commit_lands (x.slot l).line b committed (s.llc l) o h))
            committed.place_bytes
            commit_falls

      pub commit_kept : Landed s c l b (commit_moved l x)
      commit_kept = go x.activity refl (commit_closed (stage x.activity l) (x.slot l).line b (slot_at (Commit b) e))
        where
          go : (w : Activity) → x.activity ≡ w → Closed (stage x.activity l) → Landed s c l b (commit_moved l x)
          go Idle is h = absurd (subst (λ (v : Activity). Closed (stage v l)) is h)
          go (Loading a) is h = absurd (not_closed (eqb l (line_of a)) (subst (λ (v : Activity). Closed (stage v l)) is h))
          go (Storing a y) is h = absurd (not_closed (eqb l (line_of a)) (subst (λ (v : Activity). Closed (stage v l)) is h))
          go Acquiring is h = commit_done Acquiring closes_acquire is
          go Releasing is h = commit_done Releasing closes_release is

  -- A message in the close place, in an acquire or release w.
  module _ (k : ℕ) (e : x.closing ≡ Close k) where
    abbrev noted : Core
    noted = with_closing x (Noted k)

    close_done : (w : Activity) → ClosesBy w → x.activity ≡ w → Outcome s c (close_moved k x)
    close_done w by is =
        let agrees : Agrees (Close k) x.received (commits x) (puts x) = subst (λ (j : Closing). Agrees j x.received (commits x) (puts x)) e (counts_agree w by is) in
        let a : Answered noted (answered noted) = answer noted (Noted k) refl agrees in
        passes (answered noted)
        (closed_ok (answered noted) w by (a.activity ∙ is)
        (subst (λ (g : ℕ → Slot). (j : ℕ) → j < 8 → SlotOk closed (g j).line (g j).place) (sym a.slot) (closed_slots w by is))
        (subst (λ (g : ℕ → Slot). (j : ℕ) → j < 8 → Gone w (g j).line) (sym a.slot) (gone_as w is))
        (subst (λ (g : ℕ → Slot). Agrees (answered noted).closing (answered noted).received (total 8 (λ j. commit_in (g j).place)) (total 8 (λ j. outstanding (g j).place))) (sym a.slot) a.agrees))
        a.activity
        (subst (λ (g : ℕ → Slot). (j o : ℕ) → j < 8 → o < 8 → Quiet (x.slot j) (g j) (s.llc j) o) (sym a.slot) (λ j o h m. quiet_same (x.slot j) (s.llc j) o))
        (falls_close (places_due (answered noted).slot) (places_due x.slot) (held_due (answered noted).activity (answered noted).slot) (held_due x.activity x.slot) (closing_due (answered noted).closing) (closing_due x.closing)
        (ap places_due a.slot) (ap₂ held_due a.activity a.slot) (subst (λ (n : ℕ). closing_due (answered noted).closing + 1 ≤ n) (sym (ap closing_due e)) (one (closing_due (answered noted).closing) a.due)))
      where
        one : (n : ℕ) → n ≤ 0 + 1 → n + 1 ≤ 2
        one n h = omega arith

    pub close_kept : Outcome s c (close_moved k x)
    close_kept = go x.activity refl
      where
        no_close : (w : Activity) → x.activity ≡ w → Counted w (Close k) x.received (commits x) (puts x)
        no_close w is = subst₂ (λ (v : Activity) (j : Closing). Counted v j x.received (commits x) (puts x)) is e (i.cores c).counted

        go : (w : Activity) → x.activity ≡ w → Outcome s c (close_moved k x)
        go Idle is = absurd (no_close Idle is)
        go (Loading a) is = absurd (no_close (Loading a) is)
        go (Storing a y) is = absurd (no_close (Storing a y) is)
        go Acquiring is = close_done Acquiring closes_acquire is
        go Releasing is = close_done Releasing closes_release is

  module _ (e : x.closing ≡ PutAllAck) where
    abbrev over : Core
    over = with_closing x Shut

    all_almost : (w : Activity) → ClosesBy w → x.activity ≡ w → Almost Shut x.received (commits x)
    all_almost w by is = subst (λ (j : Closing). Agrees j x.received (commits x) (puts x)) e (counts_agree w by is)

    all_quiet : (j o : ℕ) → j < 8 → o < 8 → Quiet (x.slot j) (over.slot j) (s.llc j) o
    all_quiet j o h m = quiet_same (x.slot j) (s.llc j) o

    all_falls : core_due over + 1 ≤ core_due x
    all_falls = falls_close (places_due x.slot) (places_due x.slot) (held_due x.activity x.slot) (held_due x.activity x.slot) 0 (closing_due x.closing) refl refl (subst (λ (n : ℕ). 1 ≤ n) (sym (ap closing_due e)) (omega arith))

    pub putallack_kept : Outcome s c (putallack_moved c x)
    putallack_kept = go x.activity refl
      where
        no_close : (w : Activity) → x.activity ≡ w → Counted w PutAllAck x.received (commits x) (puts x)
        no_close w is = subst₂ (λ (v : Activity) (j : Closing). Counted v j x.received (commits x) (puts x)) is e (i.cores c).counted

        go : (w : Activity) → x.activity ≡ w → Outcome s c (ended w c over)
        go Idle is = absurd (no_close Idle is)
        go (Loading a) is = absurd (no_close (Loading a) is)
        go (Storing a y) is = absurd (no_close (Storing a y) is)
        go Acquiring is = acquire_ended s c i lt over refl (closed_slots Acquiring closes_acquire is) (all_almost Acquiring closes_acquire is) all_quiet all_falls is (gone_as Acquiring is)
        go Releasing is = release_ended s c i lt over refl (closed_slots Releasing closes_release is) (all_almost Releasing closes_release is) all_quiet all_falls is
