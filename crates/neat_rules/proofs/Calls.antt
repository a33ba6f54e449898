-- Neat's rules for core calls keep the meaning.
use Rattle.std.proofs.Common.{◌≡◌, ℕ, ◌+◌, ◌*◌, ◌<◌, ◌≤◌, Bool, true, false, cond, eqb, Some, Option, sym, refl, ap, ◌∙◌, subst, inl, arith}
use Rattle.protocol.specs.Cells.{line_of, offset_of}
use Rattle.protocol.specs.Moment.{stay, drift, StoreLands}
use Rattle.protocol.specs.Meaning.{Begins, CanWait, WaitingBecomes}
use Rattle.protocol.specs.Steps.{caller}
use Rattle.protocol.specs.declared.steps.Step.{Step}
use Rattle.protocol.specs.declared.steps.Step.TheVariants.{Load, Store, Acquire, Release, Evict}
use Rattle.protocol.proofs.ByRules.{Kept}
use Rattle.neat_rules.specs.State.{with_at, total, stored, Line, I, V, Place, Put, Commit, Slot, Closing, Shut, Close, Noted, PutAllAck, Activity, Idle, Loading, Storing, Acquiring, Releasing, Core, State, with_slot}
use Rattle.neat_rules.specs.Rules.{asked, awaiting, load_with, store_with, emptied, released, commits_of, closing_by, acquire, release, act, at_core}
use Rattle.neat_rules.specs.Reading.{sees_in, moment, view, waits_for, core_due, place_due, held_behind, held_due, closing_due}
use Rattle.neat_rules.proofs.Tables.{with_at_here, with_at_all, total_plus, total_cong}
use Rattle.neat_rules.proofs.Invariant.{Stage, resting, fetching, stage, SlotOk, NoClose, Counted, Gone, InRange, CoreOk, Reachable, commit_in, commits, puts}
use Rattle.neat_rules.proofs.Drift.{after, after_same, Quiet, core_drift, slot_drift, store_lands}
use Rattle.neat_rules.proofs.Slots.{asked_ok, asked_due, asked_quiet, emptied_quiet, evicted_ok, Closes, acquired_closes, acquired_invalid, released_closes, commits_one, stored_ok, evicted_due}
use Rattle.neat_rules.proofs.Parts.{Fetches, fetches_load, fetches_store, again_after, waiting_stays, waiting_becomes, due_rises, due_same, places_due, places_due_with}

no_close : (k : Closing) (r : ℕ) → NoClose k r → (k ≡ Shut) × (r ≡ 0)
no_close Shut r h = (refl, h)
no_close (Close n) r h = absurd h
no_close (Noted n) r h = absurd h
no_close PutAllAck r h = absurd h

module _ (s : State) (c : ℕ) (i : Reachable s) (lt : c < 8) (idle : (s.cores c).activity ≡ Idle) where
  abbrev x : Core
  x = s.cores c

  at_rest : (l : ℕ) → l < 8 → SlotOk resting (x.slot l).line (x.slot l).place
  at_rest l h = subst (λ (w : Activity). SlotOk (stage w l) (x.slot l).line (x.slot l).place) idle ((i.cores c).slots l h)

  not_closing : NoClose x.closing x.received
  not_closing = subst (λ (w : Activity). Counted w x.closing x.received (commits x) (puts x)) idle (i.cores c).counted

  idle_due : core_due x ≡ places_due x.slot
  idle_due =
      let p : held_due x.activity x.slot ≡ 0 = ap (λ (w : Activity). held_due w x.slot) idle in
      let q : closing_due x.closing ≡ 0 = ap closing_due (no_close x.closing x.received not_closing).0 in
      omega arith

  -- A core at rest with another slot of line l.
  rest_ok : (l : ℕ) (v : Slot) → SlotOk resting v.line v.place → CoreOk (with_slot x l v)
  rest_ok l v h =
      let slots : (k : ℕ) → k < 8 → SlotOk resting (with_at x.slot l v k).line (with_at x.slot l v k).place = with_at_all (λ k (u : Slot). k < 8 → SlotOk resting u.line u.place) x.slot l v (λ j. h) at_rest in
      record {
        slots = λ k j. subst (λ (w : Activity). SlotOk (stage w k) (with_at x.slot l v k).line (with_at x.slot l v k).place) (sym idle) (slots k j);
        gone = λ k j. subst (λ (w : Activity). Gone w (with_at x.slot l v k).line) (sym idle) tt;
        counted = subst (λ (w : Activity). Counted w x.closing x.received (commits (with_slot x l v)) (puts (with_slot x l v))) (sym idle) not_closing;
        in_range = subst InRange (sym idle) tt;
      }

  rest_rises : (l : ℕ) (v : Slot) → l < 8 → place_due v.place ≤ place_due (x.slot l).place + 2 → core_due (with_slot x l v) ≤ core_due x + 18
  rest_rises l v j h =
      let p : held_due x.activity (with_at x.slot l v) ≡ 0 = ap (λ (w : Activity). held_due w (with_at x.slot l v)) idle in
      let q : held_due x.activity x.slot ≡ 0 = ap (λ (w : Activity). held_due w x.slot) idle in
      let r = places_due_with x.slot l v j in
      omega arith

  begins : (k : Step) (w : Activity) (z : Core) → CanWait k → caller k ≡ c → waits_for c w ≡ Some k → z.activity ≡ w → ((l o : ℕ) → l < 8 → o < 8 → Quiet (x.slot l) (z.slot l) (s.llc l) o) → core_due z ≤ core_due x + 18 → Begins k (moment s) (moment (after s c z s.llc))
  begins k w z can of for is quiet due =
      record {
        can_wait = can;
        drifts = drift stay (core_drift s c z quiet);
        waiting = subst (λ (d : ℕ). WaitingBecomes d (Some k) (moment s) (moment (after s c z s.llc))) (sym of) (subst (λ (o : Option Step). WaitingBecomes c o (moment s) (moment (after s c z s.llc))) for (waiting_becomes s c z s.llc w is));
        paid = due_rises s c z s.llc lt 18 due;
      }

  -- A load or store that waits for its line.
  module _ (a : ℕ) (w : Activity) (f : Fetches a w) (in_line : line_of a < 8) (invalid : (x.slot (line_of a)).line ≡ I) where
    abbrev l : ℕ
    l = line_of a

    abbrev z : Core
    z = awaiting x l w

    ask_ok : SlotOk fetching (x.slot l).line (asked (x.slot l).place)
    ask_ok = subst (λ (k : Line). SlotOk resting k (x.slot l).place → SlotOk fetching k (asked (x.slot l).place)) (sym invalid) (asked_ok (x.slot l).place) (at_rest l in_line)

    ask_due : place_due (asked (x.slot l).place) + held_behind (asked (x.slot l).place) ≡ place_due (x.slot l).place + 2
    ask_due = subst (λ (k : Line). SlotOk resting k (x.slot l).place → place_due (asked (x.slot l).place) + held_behind (asked (x.slot l).place) ≡ place_due (x.slot l).place + 2) (sym invalid) (asked_due (x.slot l).place) (at_rest l in_line)

    await_ok : CoreOk z
    await_ok =
        record {
          slots = λ k j. subst (λ (g : Stage). SlotOk g (z.slot k).line (z.slot k).place) (sym (f.stage_is k)) (go k j (eqb k l));
          gone = λ k j. f.gone (z.slot k).line;
          counted = f.counted x.closing x.received (commits z) (puts z) not_closing;
          in_range = f.in_range;
        }
      where
        go : (k : ℕ) → k < 8 → (t : Bool) → SlotOk (cond t fetching resting) (cond t (record { line = (x.slot l).line; place = asked (x.slot l).place }) (x.slot k)).line (cond t (record { line = (x.slot l).line; place = asked (x.slot l).place }) (x.slot k)).place
        go k j true = ask_ok
        go k j false = at_rest k j

    await_due : core_due z ≡ core_due x + 2
    await_due =
        let v : Slot = record { line = (x.slot l).line; place = asked (x.slot l).place } in
        let p : held_due w z.slot ≡ held_behind v.place = f.held z.slot ∙ ap (λ (u : Slot). held_behind u.place) (with_at_here x.slot l v) in
        let q : closing_due x.closing ≡ 0 = ap closing_due (no_close x.closing x.received not_closing).0 in
        let r = places_due_with x.slot l v in_line in
        let d = idle_due in
        let e = ask_due in
        omega arith

    awaits : (k : Step) → CanWait k → caller k ≡ c → waits_for c w ≡ Some k → Begins k (moment s) (moment (after s c z s.llc))
    awaits k can of for =
        begins k w z can of for refl
        (with_at_all (λ j (u : Slot). (o : ℕ) → j < 8 → o < 8 → Quiet (x.slot j) u (s.llc j) o) x.slot l (record { line = (x.slot l).line; place = asked (x.slot l).place }) (λ o j h. asked_quiet (x.slot l).line (x.slot l).place (s.llc l) o) (λ j o k h. (refl, inl refl)))
        (let d = await_due in omega arith)

  pub load_kept : (a : ℕ) → a < 64 → Kept moment Reachable s (Load c a) (act s (Load c a)).0 (act s (Load c a)).1
  load_kept a h = go (x.slot (line_of a)).line refl
    where
      fetches : Fetches a (Loading a)
      fetches = fetches_load a h

      go : (k : Line) → (x.slot (line_of a)).line ≡ k → Kept moment Reachable s (Load c a) (at_core s c (load_with k c a x)).0 (at_core s c (load_with k c a x)).1
      go (V b) e =
          subst (λ (t : State). Kept moment Reachable s (Load c a) (at_core s c (load_with (V b) c a x)).0 t) (sym (after_same s c)) (record {
            again = i;
            accepted = record { same = refl; brings = (stay, ap (λ (k : Line). sees_in k (x.slot (line_of a)).place (s.llc (line_of a)) (offset_of a)) (sym e)); waiting = λ d j. refl; paid = due_same (moment s).due };
            reach = refl;
          })
      go I e =
          record {
            again = again_after s c (awaiting x (line_of a) (Loading a)) s.llc i (await_ok a (Loading a) fetches (omega arith) e) i.llc;
            accepted = awaits a (Loading a) fetches (omega arith) e (Load c a) tt refl refl;
            reach = refl;
          }

  pub store_kept : (a y : ℕ) → a < 64 → y < 256 → Kept moment Reachable s (Store c a y) (act s (Store c a y)).0 (act s (Store c a y)).1
  store_kept a y h j = go (x.slot (line_of a)).line refl
    where
      fetches : Fetches a (Storing a y)
      fetches = fetches_store a y (h, j)

      in_line : line_of a < 8
      in_line = omega arith

      go : (k : Line) → (x.slot (line_of a)).line ≡ k → Kept moment Reachable s (Store c a y) (at_core s c (store_with k c a y x)).0 (at_core s c (store_with k c a y x)).1
      go (V b) e =
          let p : Place = (x.slot (line_of a)).place in
          let v : Slot = record { line = V (stored b (offset_of a) y); place = p } in
          let z : Core = with_slot x (line_of a) v in
          let was : x.slot (line_of a) ≡ record { line = V b; place = p } = ap (λ (k : Line). record { line = k; place = p }) e in
          let ok : SlotOk resting (V b) p = subst (λ (k : Line). SlotOk resting k p) e (at_rest (line_of a) in_line) in
          record {
            again = again_after s c z s.llc i (rest_ok (line_of a) v (stored_ok b p (offset_of a) y ok j)) i.llc;
            accepted = record {
              same = refl;
              brings = (view s, view (after s c z s.llc), stay, subst (λ (t : State). StoreLands c a y (view t) (view (after s c z s.llc))) (after_same s c) (store_lands a y b p x z was refl s c), stay);
              waiting = waiting_stays s c z s.llc refl;
              paid = due_rises s c z s.llc lt 18 (rest_rises (line_of a) v in_line (omega arith));
            };
            reach = refl;
          }
      go I e =
          record {
            again = again_after s c (awaiting x (line_of a) (Storing a y)) s.llc i (await_ok a (Storing a y) fetches in_line e) i.llc;
            accepted = awaits a (Storing a y) fetches in_line e (Store c a y) tt refl refl;
            reach = refl;
          }

  pub evict_kept : (l : ℕ) → l < 8 → Kept moment Reachable s (Evict c l) (act s (Evict c l)).0 (act s (Evict c l)).1
  evict_kept l h =
      let v : Slot = emptied Put (x.slot l).line (x.slot l).place in
      let z : Core = with_slot x l v in
      record {
        again = again_after s c z s.llc i (rest_ok l v (evicted_ok (x.slot l).line (x.slot l).place (at_rest l h))) i.llc;
        accepted = record {
          same = refl;
          brings = drift stay (slot_drift s c l z v refl (emptied_quiet Put (λ b o. refl) (λ b d o. refl) (x.slot l).line (x.slot l).place (at_rest l h) (s.llc l)));
          waiting = waiting_stays s c z s.llc refl;
          paid = due_rises s c z s.llc lt 18 (rest_rises l v h (evicted_due (x.slot l).line (x.slot l).place));
        };
        reach = refl;
      }

  -- An acquire or release: every slot closes.
  module _ (send : Line → Place → Slot) (w : Activity) (closes : (k : Line) (p : Place) → SlotOk resting k p → Closes k p (send k p)) where
    abbrev sent : Core
    sent = (closing_by send w x).1

    each : (l : ℕ) → l < 8 → Closes (x.slot l).line (x.slot l).place (sent.slot l)
    each l h = closes (x.slot l).line (x.slot l).place (at_rest l h)

    close_agrees : (total 8 (λ l. commits_of (x.slot l).line) ≡ x.received + commits sent) × (total 8 (λ l. commits_of (x.slot l).line) ≤ 8)
    close_agrees =
        let p : commits sent ≡ total 8 (λ l. commits_of (x.slot l).line) = total_cong 8 (λ l. commit_in (sent.slot l).place) (λ l. commits_of (x.slot l).line) (λ l h. (each l h).commits) in
        let q = (no_close x.closing x.received not_closing).1 in
        let r : total 8 (λ l. commits_of (x.slot l).line) ≤ total 8 (λ l. 0) + 8 * 1 = total_plus 8 1 (λ l. commits_of (x.slot l).line) (λ l. 0) (λ l h. commits_one (x.slot l).line) in
        (omega arith, omega arith)

    closes_due : held_due w sent.slot ≡ 0 → core_due sent ≤ core_due x + 18
    closes_due e =
        let r = total_plus 8 2 (λ l. place_due (sent.slot l).place) (λ l. place_due (x.slot l).place) (λ l h. (each l h).due) in
        let d = idle_due in
        omega arith

    closes_begins : (k : Step) → CanWait k → caller k ≡ c → waits_for c w ≡ Some k → held_due w sent.slot ≡ 0 → Begins k (moment s) (moment (after s c sent s.llc))
    closes_begins k can of for e = begins k w sent can of for refl (λ l o j h. (each l j).quiet (s.llc l) o h) (closes_due e)

  pub acquire_kept : Kept moment Reachable s (Acquire c) (act s (Acquire c)).0 (act s (Acquire c)).1
  acquire_kept =
      record {
        again = again_after s c (acquire x).1 s.llc i (record { slots = λ l h. (each (emptied Commit) Acquiring acquired_closes l h).ok; gone = λ l h. acquired_invalid (x.slot l).line (x.slot l).place; counted = close_agrees (emptied Commit) Acquiring acquired_closes; in_range = tt }) i.llc;
        accepted = closes_begins (emptied Commit) Acquiring acquired_closes (Acquire c) tt refl refl refl;
        reach = refl;
      }

  pub release_kept : Kept moment Reachable s (Release c) (act s (Release c)).0 (act s (Release c)).1
  release_kept =
      record {
        again = again_after s c (release x).1 s.llc i (record { slots = λ l h. (each released Releasing released_closes l h).ok; gone = λ l h. tt; counted = close_agrees released Releasing released_closes; in_range = tt }) i.llc;
        accepted = closes_begins released Releasing released_closes (Release c) tt refl refl refl;
        reach = refl;
      }
