-- How an acquire or release ends: with the move after which its Close is over and no Put or PutAck of its core is left.
use Rattle.std.proofs.Common.{◌≡◌, ℕ, ◌+◌, ◌<◌, ◌≤◌, Bool, true, false, cond, ◌&&◌, eqb, Some, None, sym, refl, ap, ◌∙◌, subst, arith}
use Rattle.std.proofs.lemmas.Bool.{eqb-true, eqb-false, false≢true}
use Rattle.protocol.specs.Cells.{line_of, offset_of}
use Rattle.protocol.specs.Moment.{stay, drift}
use Rattle.protocol.specs.Meaning.{Brings, Delivered, WaitingBecomes}
use Rattle.protocol.specs.Steps.{call_of, core_of}
use Rattle.protocol.specs.declared.steps.Ended.{Ended}
use Rattle.protocol.specs.declared.steps.Ended.TheVariants.{Acquired, Released}
use Rattle.protocol.specs.declared.steps.Reply.{Reply}
use Rattle.protocol.specs.declared.steps.Reply.TheVariants.{Moved, Finished}
use Rattle.neat_rules.specs.State.{Place, Empty, Closing, Shut, Close, Noted, PutAllAck, Idle, Acquiring, Releasing, Core, State, with_activity}
use Rattle.neat_rules.specs.Rules.{outstanding, shut, settled, ended}
use Rattle.neat_rules.specs.Reading.{sees_in, owes_in, moment, view, waits_for, core_due, held_due, closing_due}
use Rattle.neat_rules.proofs.Tables.{with_at_here, total_each}
use Rattle.neat_rules.proofs.Invariant.{closed, resting, SlotOk, Agrees, NoClose, Invalid, CoreOk, Reachable, commit_in, commits, puts}
use Rattle.neat_rules.proofs.Drift.{after, Quiet, core_drift}
use Rattle.neat_rules.proofs.Slots.{closed_empty, closed_rests, closed_owes, invalid_sees}
use Rattle.neat_rules.proofs.Parts.{closes_acquire, closes_release, closed_ok, again_after, waiting_stays, waiting_becomes, due_falls, places_due}

-- A move that leaves the LLC, with its answer and what it makes of core c's part.
abbrev pub Outcome : State → ℕ → Reply × Core → Type 0
Outcome s c r = (Delivered (moment s) (moment (after s c r.1 s.llc)) r.0) × (Reachable (after s c r.1 s.llc))

-- The counts agree, but that no Put or PutAck may be left.
abbrev pub Almost : Closing → ℕ → ℕ → Type 0
Almost Shut r n = (r ≡ 0) × (n ≡ 0)
Almost (Close k) r n = (k ≡ r + n) × (k ≤ 8)
Almost (Noted k) r n = (k ≡ r + n) × (k ≤ 8) × (0 < n)
Almost PutAllAck r n = (r ≡ 0) × (n ≡ 0)

-- Not settled: the counts agree.
unsettled : (k : Closing) (r n q : ℕ) → Almost k r n → (shut k && eqb q 0) ≡ false → Agrees k r n q
unsettled Shut r n q h e = (h.0, h.1, omega (arith, eqb-false q 0 e))
unsettled (Close k) r n q h e = h
unsettled (Noted k) r n q h e = h
unsettled PutAllAck r n q h e = h

-- Settled: the Close is over and nothing is left.
over : (k : Closing) (r n q : ℕ) → Almost k r n → (shut k && eqb q 0) ≡ true → (k ≡ Shut) × (r ≡ 0) × (n ≡ 0) × (q ≡ 0)
over Shut r n q h e = (refl, h.0, h.1, eqb-true q 0 e)
over (Close k) r n q h e = absurd (false≢true e)
over (Noted k) r n q h e = absurd (false≢true e)
over PutAllAck r n q h e = absurd (false≢true e)

-- The part y that a move has made of core c's, in an acquire or release.
module _ (s : State) (c : ℕ) (i : Reachable s) (lt : c < 8) (y : Core) (same : y.activity ≡ (s.cores c).activity) (slots : (l : ℕ) → l < 8 → SlotOk closed (y.slot l).line (y.slot l).place) (almost : Almost y.closing y.received (commits y)) (quiet : (l o : ℕ) → l < 8 → o < 8 → Quiet ((s.cores c).slot l) (y.slot l) (s.llc l) o) (due : core_due y + 1 ≤ core_due (s.cores c)) where
  goes_on : CoreOk y → Outcome s c (Moved, y)
  goes_on h = (record { drifts = drift stay (core_drift s c y quiet); waiting = waiting_stays s c y s.llc same; falls = due_falls s c y s.llc lt due }, again_after s c y s.llc i h i.llc)

  -- Once it is settled.
  module _ (done : settled y ≡ true) where
    abbrev z : Core
    z = with_activity y Idle

    all : (y.closing ≡ Shut) × (y.received ≡ 0) × (commits y ≡ 0) × (puts y ≡ 0)
    all = over y.closing y.received (commits y) (puts y) almost done

    empty : (l : ℕ) → l < 8 → (y.slot l).place ≡ Empty
    empty l h = closed_empty (y.slot l).line (y.slot l).place (slots l h) (none (commit_in (y.slot l).place) (commits y) (total_each 8 (λ j. commit_in (y.slot j).place) l h) all.2) (none (outstanding (y.slot l).place) (puts y) (total_each 8 (λ j. outstanding (y.slot j).place) l h) all.3)
      where
        none : (n m : ℕ) → n ≤ m → m ≡ 0 → n ≡ 0
        none n m a b = omega arith

    closed_there : (l : ℕ) → l < 8 → SlotOk closed (y.slot l).line Empty
    closed_there l h = subst (λ (p : Place). SlotOk closed (y.slot l).line p) (empty l h) (slots l h)

    rest_ok : CoreOk z
    rest_ok =
        record {
          slots = λ l h. subst (λ (p : Place). SlotOk resting (y.slot l).line p) (sym (empty l h)) (closed_rests (y.slot l).line (closed_there l h));
          gone = λ l h. tt;
          counted = subst (λ (k : Closing). NoClose k y.received) (sym all.0) all.1;
          in_range = tt;
        }

    rest_due : core_due z + 1 ≤ core_due (s.cores c)
    rest_due = less (places_due y.slot) (held_due y.activity y.slot) (closing_due y.closing) (core_due (s.cores c)) due
      where
        less : (a b d e : ℕ) → a + b + d + 1 ≤ e → a + 0 + d + 1 ≤ e
        less a b d e h = omega arith

    there : (after s c z s.llc).cores c ≡ z
    there = with_at_here s.cores c z

    owes_nothing : (a : ℕ) → a < 64 → (view (after s c z s.llc)).owes c a ≡ false
    owes_nothing a h =
        ap (λ (w : Core). owes_in (w.slot (line_of a)).line (w.slot (line_of a)).place (offset_of a)) there ∙ ap (λ (p : Place). owes_in (y.slot (line_of a)).line p (offset_of a)) (empty (line_of a) (omega arith)) ∙ closed_owes (y.slot (line_of a)).line (offset_of a) (closed_there (line_of a) (omega arith)) (omega arith)

    sees_home : ((l : ℕ) → l < 8 → Invalid (y.slot l).line) → (a : ℕ) → a < 64 → (view (after s c z s.llc)).sees c a ≡ (view (after s c z s.llc)).home a
    sees_home gone a h =
        ap (λ (w : Core). sees_in (w.slot (line_of a)).line (w.slot (line_of a)).place (s.llc (line_of a)) (offset_of a)) there ∙ ap (λ (p : Place). sees_in (y.slot (line_of a)).line p (s.llc (line_of a)) (offset_of a)) (empty (line_of a) (omega arith)) ∙ invalid_sees (y.slot (line_of a)).line (s.llc (line_of a)) (offset_of a) (gone (line_of a) (omega arith))

  -- Either way, for the call e that is waited for.
  ended_by : (e : Ended) → core_of e ≡ c → waits_for c (s.cores c).activity ≡ Some (call_of e) → (settled y ≡ true → Brings e (view s) (view (after s c (with_activity y Idle) s.llc))) → (Agrees y.closing y.received (commits y) (puts y) → CoreOk y) → Outcome s c (cond (settled y) (Finished e, with_activity y Idle) (Moved, y))
  ended_by e of for brings on = go (settled y) refl
    where
      go : (t : Bool) → settled y ≡ t → Outcome s c (cond t (Finished e, with_activity y Idle) (Moved, y))
      go true q = (
        record {
          core = subst (λ (d : ℕ). d < 8) (sym of) lt;
          waited = subst (λ (d : ℕ). (moment s).waits d ≡ Some (call_of e)) (sym of) for;
          brings = brings q;
          waiting = subst (λ (d : ℕ). WaitingBecomes d None (moment s) (moment (after s c (with_activity y Idle) s.llc))) (sym of) (waiting_becomes s c (with_activity y Idle) s.llc Idle refl);
          falls = due_falls s c (with_activity y Idle) s.llc lt (rest_due q);
        },
        again_after s c (with_activity y Idle) s.llc i (rest_ok q) i.llc,
      )
      go false q = goes_on (on (unsettled y.closing y.received (commits y) (puts y) almost q))

  pub acquire_ended : (s.cores c).activity ≡ Acquiring → ((l : ℕ) → l < 8 → Invalid (y.slot l).line) → Outcome s c (ended Acquiring c y)
  acquire_ended w gone =
      ended_by (Acquired c) refl (ap (waits_for c) w) (λ q. (drift stay (core_drift s c (with_activity y Idle) quiet), λ a h o. sees_home q gone a h))
      (closed_ok y Acquiring closes_acquire (same ∙ w) slots gone)

  pub release_ended : (s.cores c).activity ≡ Releasing → Outcome s c (ended Releasing c y)
  release_ended w =
      ended_by (Released c) refl (ap (waits_for c) w) (λ q. (drift stay (core_drift s c (with_activity y Idle) quiet), λ a h. owes_nothing q a h))
      (closed_ok y Releasing closes_release (same ∙ w) slots (λ l h. tt))
