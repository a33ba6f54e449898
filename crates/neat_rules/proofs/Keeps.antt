-- Neat's rules keep the whole meaning of a protocol.
use Rattle.std.proofs.Common.{◌≡◌, ℕ, zero, suc, ◌+◌, ◌-◌, ◌*◌, ◌/◌, ◌%◌, ◌<◌, ◌≤◌, Bool, true, false, cond, eqb, ltb, leb, ◌⊎◌, Some, None, Option, sym, refl, ap, ◌∙◌, subst, ap₂, inl, inr, arith}
use Rattle.std.proofs.lemmas.Bool.{eqb-false, eq-eqb, ne_eqb, ltb-true, lt-ltb, le-ltb, leb-false, false≢true, cond-true, cond-false, cases_eq}
use Rattle.protocol.specs.Cells.{line_of, offset_of}
use Rattle.protocol.specs.Steps.{Fit}
use Rattle.protocol.specs.Meaning.{Meaning, Reached, cleared, stepped, FirstOpen, Delivered, busy, refused_in}
use Rattle.protocol.specs.declared.steps.Step.{Step}
use Rattle.protocol.specs.declared.steps.Step.TheVariants.{Load, Store, Acquire, Release, Evict, Move}
use Rattle.protocol.specs.declared.steps.Refusal.{Refusal}
use Rattle.protocol.specs.declared.steps.Reply.{Reply}
use Rattle.protocol.specs.Rules.{unless_refused}
use Rattle.protocol.proofs.ByRules.{Keeps, Kept, keeps_meaning}
use Rattle.neat_rules.specs.State.{with_at, Line, I, V, Place, Empty, GetLine, Data, Put, PutAck, Commit, Closing, Shut, Close, Noted, PutAllAck, Activity, Idle, Loading, Storing, Acquiring, Releasing, Core, State, start}
use Rattle.neat_rules.specs.Rules.{outstanding, message_moved, given, close_place_moved, line_move, close_move, act}
use Rattle.neat_rules.specs.Reading.{sees_in, moment, waits_for, carries, close_carries, open_in, first_open, next_open}
use Rattle.neat_rules.specs.Machine.{neat}
use Rattle.neat_rules.proofs.Tables.{with_at_same, total_some}
use Rattle.neat_rules.proofs.Invariant.{Stage, resting, fetching, stage, Allowed, SlotOk, Bytewise, NoClose, Agrees, Counted, InRange, CoreOk, Reachable, commit_in, commits, puts, starts}
use Rattle.neat_rules.proofs.Slots.{merged_bytes}
use Rattle.neat_rules.proofs.Drift.{after}
use Rattle.neat_rules.proofs.Calls.{load_kept, store_kept, evict_kept, acquire_kept, release_kept}
use Rattle.neat_rules.proofs.Ends.{Outcome}
use Rattle.neat_rules.proofs.Moves.{getline_kept, data_kept, put_kept, putack_kept, commit_kept, close_kept, putallack_kept}

-- A step that is not refused: what the table of refusals says then.
passed : (t : Bool) (e : Refusal) (o : Option Refusal) → cond t (Some e) o ≡ None → (t ≡ false) × (o ≡ None)
passed true e o h = let z : ◌≡◌ {A = ℕ} 0 1 = cc in absurd (omega arith)
passed false e o h = (refl, h)

below : (n b : ℕ) → leb b n ≡ false → n < b
below n b e = leb-false b n e

free : (c : ℕ) (w : Activity) → busy (waits_for c w) ≡ None → w ≡ Idle
free c Idle h = refl
free c (Loading a) h = let z : ◌≡◌ {A = ℕ} 0 1 = cc in absurd (omega arith)
free c (Storing a y) h = let z : ◌≡◌ {A = ℕ} 0 1 = cc in absurd (omega arith)
free c Acquiring h = let z : ◌≡◌ {A = ℕ} 0 1 = cc in absurd (omega arith)
free c Releasing h = let z : ◌≡◌ {A = ℕ} 0 1 = cc in absurd (omega arith)

opened : (t : Bool) (e : Refusal) → cond t None (Some e) ≡ None → t ≡ true
opened true e h = refl
opened false e h = let z : ◌≡◌ {A = ℕ} 0 1 = cc in absurd (omega arith)

inside : (t u : Bool) → cond t u false ≡ true → (t ≡ true) × (u ≡ true)
inside true u h = (refl, h)
inside false u h = absurd (false≢true h)

-- A moved message about line l of core c.
module _ (s : State) (c l : ℕ) (i : Reachable s) (lt : c < 8) (in_line : l < 8) where
  abbrev MovedAt : Place → Type 0
  MovedAt p =
      (Delivered (moment s) (moment (after s c (message_moved p c l (s.llc l) (s.cores c)).1 (with_at s.llc l (given p (s.llc l))))) (message_moved p c l (s.llc l) (s.cores c)).0)
      × (Reachable (after s c (message_moved p c l (s.llc l) (s.cores c)).1 (with_at s.llc l (given p (s.llc l)))))

  llc_stays : (r : Reply × Core) → Outcome s c r → (Delivered (moment s) (moment (after s c r.1 (with_at s.llc l (s.llc l)))) r.0) × (Reachable (after s c r.1 (with_at s.llc l (s.llc l))))
  llc_stays r h = subst (λ (g : ℕ → ℕ → ℕ). (Delivered (moment s) (moment (after s c r.1 g)) r.0) × (Reachable (after s c r.1 g))) (sym (with_at_same s.llc l)) h

  message_kept : (p : Place) → ((s.cores c).slot l).place ≡ p → carries p ≡ true → MovedAt p
  message_kept Empty e h = absurd (false≢true h)
  message_kept GetLine e h = llc_stays (message_moved GetLine c l (s.llc l) (s.cores c)) (getline_kept s c i lt l in_line e)
  message_kept (Data d) e h = llc_stays (message_moved (Data d) c l (s.llc l) (s.cores c)) (data_kept s c i lt l in_line d e)
  message_kept (Put b) e h = put_kept s c i lt l in_line b e
  message_kept PutAck e h = llc_stays (message_moved PutAck c l (s.llc l) (s.cores c)) (putack_kept s c i lt l in_line e)
  message_kept (Commit b) e h = commit_kept s c i lt l in_line b e

-- A moved message in the close place of core c.
close_place_kept : (s : State) (c : ℕ) → Reachable s → c < 8 → (k : Closing) → (s.cores c).closing ≡ k → close_carries k ≡ true → Outcome s c (close_place_moved k c (s.cores c))
close_place_kept s c i lt Shut e h = absurd (false≢true h)
close_place_kept s c i lt (Close k) e h = close_kept s c i lt k e
close_place_kept s c i lt (Noted k) e h = absurd (false≢true h)
close_place_kept s c i lt PutAllAck e h = putallack_kept s c i lt e

move_kept : (s : State) (p : ℕ) → Reachable s → open_in s p ≡ true → Kept moment Reachable s (Move p) (act s (Move p)).0 (act s (Move p)).1
move_kept s p i h = go (eqb (p % 9) 8) refl (inside (ltb p 72) (cond (eqb (p % 9) 8) (close_carries (s.cores (p / 9)).closing) (carries ((s.cores (p / 9)).slot (p % 9)).place)) h).1
  where
    c : ℕ
    c = p / 9

    low : p < 72
    low = ltb-true p 72 (inside (ltb p 72) (cond (eqb (p % 9) 8) (close_carries (s.cores (p / 9)).closing) (carries ((s.cores (p / 9)).slot (p % 9)).place)) h).0

    lt : c < 8
    lt = omega (arith, low)

    kept : (r : Reply × State) → (Delivered (moment s) (moment r.1) r.0) × (Reachable r.1) → Kept moment Reachable s (Move p) r.0 r.1
    kept r o = record { again = o.1; accepted = o.0; reach = refl }

    go : (t : Bool) → eqb (p % 9) 8 ≡ t → cond t (close_carries (s.cores c).closing) (carries ((s.cores c).slot (p % 9)).place) ≡ true → Kept moment Reachable s (Move p) (cond t (close_move s c) (line_move s c (p % 9))).0 (cond t (close_move s c) (line_move s c (p % 9))).1
    go true e o = kept (close_move s c) (close_place_kept s c i lt (s.cores c).closing refl o)
    go false e o = kept (line_move s c (p % 9)) (message_kept s c (p % 9) i lt (omega (arith, eqb-false (p % 9) 8 e)) ((s.cores c).slot (p % 9)).place refl o)

step_kept : (s : State) (k : Step) → Reachable s → Fit k → refused_in (moment s) k ≡ None → Kept moment Reachable s k (act s k).0 (act s k).1
step_kept s (Load c a) i f h =
    let p = passed (leb 8 c) _ _ h in
    let q = passed (leb 64 a) _ _ p.1 in
    load_kept s c i (below c 8 p.0) (free c (s.cores c).activity q.1) a (below a 64 q.0)
step_kept s (Store c a y) i f h =
    let p = passed (leb 8 c) _ _ h in
    let q = passed (leb 64 a) _ _ p.1 in
    store_kept s c i (below c 8 p.0) (free c (s.cores c).activity q.1) a y (below a 64 q.0) f.2
step_kept s (Acquire c) i f h =
    let p = passed (leb 8 c) _ _ h in
    acquire_kept s c i (below c 8 p.0) (free c (s.cores c).activity p.1)
step_kept s (Release c) i f h =
    let p = passed (leb 8 c) _ _ h in
    release_kept s c i (below c 8 p.0) (free c (s.cores c).activity p.1)
step_kept s (Evict c l) i f h =
    let p = passed (leb 8 c) _ _ h in
    let q = passed (leb 8 l) _ _ p.1 in
    evict_kept s c i (below c 8 p.0) (free c (s.cores c).activity q.1) l (below l 8 q.0)
step_kept s (Move p) i f h = move_kept s p i (opened (open_in s p) _ h)

-- The place of core c and line l, and the close place of core c.
line_place : (s : State) (c l : ℕ) → c < 8 → l < 8 → open_in s (9 * c + l) ≡ carries ((s.cores c).slot l).place
line_place s c l lt in_line =
    cond-true (ltb (9 * c + l) 72) _ _ (lt-ltb (9 * c + l) 72 (omega arith))
    ∙ cond-false (eqb ((9 * c + l) % 9) 8) _ _ (ne_eqb ((9 * c + l) % 9) 8 (omega arith))
    ∙ ap₂ (λ (d k : ℕ). carries ((s.cores d).slot k).place) (omega arith) (omega arith)

close_place : (s : State) (c : ℕ) → c < 8 → open_in s (9 * c + 8) ≡ close_carries (s.cores c).closing
close_place s c lt =
    cond-true (ltb (9 * c + 8) 72) _ _ (lt-ltb (9 * c + 8) 72 (omega arith))
    ∙ cond-true (eqb ((9 * c + 8) % 9) 8) _ _ (eq-eqb ((9 * c + 8) % 9) 8 (omega arith))
    ∙ ap (λ (d : ℕ). close_carries (s.cores d).closing) (omega arith)

-- Where no place is open, no core waits.
module _ (s : State) (i : Reachable s) (none : (p : ℕ) → p < 256 → open_in s p ≡ false) (c : ℕ) (lt : c < 8) where
  abbrev x : Core
  x = s.cores c

  no_message : (l : ℕ) → l < 8 → carries (x.slot l).place ≡ false
  no_message l h = sym (line_place s c l lt h) ∙ none (9 * c + l) (omega arith)

  no_close : close_carries x.closing ≡ false
  no_close = sym (close_place s c lt) ∙ none (9 * c + 8) (omega arith)

  fetches_none : (k : Line) (p : Place) → carries p ≡ false → Allowed fetching k p → ⊥
  fetches_none I Empty e h = h
  fetches_none (V b) Empty e h = h
  fetches_none k GetLine e h = false≢true (sym e)
  fetches_none k (Data d) e h = false≢true (sym e)
  fetches_none k (Put b) e h = false≢true (sym e)
  fetches_none k PutAck e h = false≢true (sym e)
  fetches_none k (Commit b) e h = false≢true (sym e)

  commits_none : (p : Place) → carries p ≡ false → 0 < commit_in p → ⊥
  commits_none Empty e h = omega arith
  commits_none GetLine e h = false≢true (sym e)
  commits_none (Data d) e h = false≢true (sym e)
  commits_none (Put b) e h = false≢true (sym e)
  commits_none PutAck e h = false≢true (sym e)
  commits_none (Commit b) e h = false≢true (sym e)

  puts_none : (p : Place) → carries p ≡ false → 0 < outstanding p → ⊥
  puts_none Empty e h = omega arith
  puts_none GetLine e h = false≢true (sym e)
  puts_none (Data d) e h = false≢true (sym e)
  puts_none (Put b) e h = false≢true (sym e)
  puts_none PutAck e h = false≢true (sym e)
  puts_none (Commit b) e h = false≢true (sym e)

  fetch_ends : (a : ℕ) → a < 64 → stage x.activity (line_of a) ≡ fetching → ⊥
  fetch_ends a h e = fetches_none (x.slot (line_of a)).line (x.slot (line_of a)).place (no_message (line_of a) (omega arith)) (subst (λ (g : Stage). Allowed g (x.slot (line_of a)).line (x.slot (line_of a)).place) e ((i.cores c).slots (line_of a) (omega arith)).allowed)

  close_ends : (k : Closing) → close_carries k ≡ false → Agrees k x.received (commits x) (puts x) → ⊥
  close_ends Shut e h = let w = total_some 8 (λ l. outstanding (x.slot l).place) h.2 in puts_none (x.slot w.0).place (no_message w.0 w.1) w.2
  close_ends (Close k) e h = false≢true (sym e)
  close_ends (Noted k) e h = let w = total_some 8 (λ l. commit_in (x.slot l).place) h.2 in commits_none (x.slot w.0).place (no_message w.0 w.1) w.2
  close_ends PutAllAck e h = false≢true (sym e)

  idle : waits_for c x.activity ≡ None
  idle = go x.activity refl
    where
      counted : (w : Activity) → x.activity ≡ w → Counted w x.closing x.received (commits x) (puts x)
      counted w is = subst (λ (v : Activity). Counted v x.closing x.received (commits x) (puts x)) is (i.cores c).counted

      go : (w : Activity) → x.activity ≡ w → waits_for c w ≡ None
      go Idle is = refl
      go (Loading a) is = absurd (fetch_ends a (subst InRange is (i.cores c).in_range) (ap (λ (w : Activity). stage w (line_of a)) is ∙ cond-true (eqb (line_of a) (line_of a)) fetching resting (eq-eqb (line_of a) (line_of a) refl)))
      go (Storing a y) is = absurd (fetch_ends a (subst InRange is (i.cores c).in_range).0 (ap (λ (w : Activity). stage w (line_of a)) is ∙ cond-true (eqb (line_of a) (line_of a)) fetching resting (eq-eqb (line_of a) (line_of a) refl)))
      go Acquiring is = absurd (close_ends x.closing no_close (counted Acquiring is))
      go Releasing is = absurd (close_ends x.closing no_close (counted Releasing is))

-- Sees and home are bytes.
sees_byte : (g : Stage) (k : Line) (p : Place) (d : ℕ → ℕ) (o : ℕ) → SlotOk g k p → Bytewise d → sees_in k p d o < 256
sees_byte g (V b) p d o h i = h.line_bytes o
sees_byte g I Empty d o h i = i o
sees_byte g I GetLine d o h i = i o
sees_byte g I (Data e) d o h i = h.place_bytes o
sees_byte g I (Put b) d o h i = merged_bytes b d h.place_bytes i o
sees_byte g I PutAck d o h i = i o
sees_byte g I (Commit b) d o h i = merged_bytes b d h.place_bytes i o

-- The search upward finds the first open place.
high_shut : (s : State) (p : ℕ) → 72 ≤ p → open_in s p ≡ false
high_shut s p h = cond-false (ltb p 72) _ false (le-ltb p 72 h)

first_is : (n : ℕ) (s : State) (p : ℕ) → n ≡ 72 - p → FirstOpen (moment s) p (first_open n s p)
first_is zero s p h = λ q l m. high_shut s q (omega arith)
first_is (suc n) s p h = go (open_in s p) refl (first_open n s (p + 1)) (first_is n s (p + 1) (omega arith))
  where
    go : (t : Bool) → open_in s p ≡ t → (o : Option ℕ) → FirstOpen (moment s) (p + 1) o → FirstOpen (moment s) p (cond t (Some p) o)
    go true e o r = (omega arith, omega arith, e, λ k l m. absurd (omega arith))
    go false e None r = λ q l m. here q (cases_eq q p) l m
      where
        here : (q : ℕ) → (q ≡ p) ⊎ (q ≡ p → ⊥) → p ≤ q → q < 256 → open_in s q ≡ false
        here q (inl u) l m = ap (open_in s) u ∙ e
        here q (inr u) l m = r q (omega arith) m
    go false e (Some q) r = (omega arith, r.1, r.2, λ k l m. here k (cases_eq k p) l m)
      where
        here : (k : ℕ) → (k ≡ p) ⊎ (k ≡ p → ⊥) → p ≤ k → k < q → open_in s k ≡ false
        here k (inl u) l m = ap (open_in s) u ∙ e
        here k (inr u) l m = r.3 k (omega arith) m

pub keeps : Keeps moment start act next_open Reachable
keeps =
    record {
      starts = starts;
      clear = record { sees_zero = λ c a h k. refl; home_zero = λ a h. refl; no_debt = λ c a h k. refl; no_wait = λ c h. refl; none_open = λ p h. all_shut p; due_zero = refl };
      step = step_kept;
      idle = λ s i none c lt. idle s i none c lt;
      bytes = λ s i. record { seen = λ c a h k. sees_byte (stage (s.cores c).activity (line_of a)) ((s.cores c).slot (line_of a)).line ((s.cores c).slot (line_of a)).place (s.llc (line_of a)) (offset_of a) ((i.cores c).slots (line_of a) (omega arith)) (i.llc (line_of a)); at_home = λ a h. i.llc (line_of a) (offset_of a) };
      next_is = λ s p i. first_is (72 - p) s p refl;
    }
  where
    all_shut : (p : ℕ) → open_in start p ≡ false
    all_shut p = go (ltb p 72) (eqb (p % 9) 8)
      where
        go : (t u : Bool) → cond t (cond u false false) false ≡ false
        go true true = refl
        go true false = refl
        go false u = refl

pub neat_keeps : Meaning neat
neat_keeps = keeps_meaning keeps

-- Every reached state is reachable as the invariant says.
pub reached_holds : {s : State} → Reached neat s → Reachable s
reached_holds (cleared e) = subst Reachable (sym e) starts
reached_holds (stepped {s} {t} {k} {r} h f e) = after_step s k (refused_in (moment s) k) refl (reached_holds h) f (r, t) e
  where
    after_step : (s : State) (k : Step) (o : Option Refusal) → refused_in (moment s) k ≡ o → Reachable s → Fit k → (q : Reply × State) → q ≡ unless_refused o s (act s k) → Reachable q.1
    after_step s k (Some x) h i f q e = subst (λ (p : Reply × State). Reachable p.1) (sym e) i
    after_step s k None h i f q e = subst (λ (p : Reply × State). Reachable p.1) (sym e) (step_kept s k i f h).again

-- At most eight Commits of a core are received and not yet answered.
pub received_few : (x : Core) → CoreOk x → x.received ≤ 8
received_few x h = go x.activity x.closing h.counted
  where
    none : (r : ℕ) → r ≡ 0 → r ≤ 8
    none r e = omega arith

    some : (k r n : ℕ) → k ≡ r + n → k ≤ 8 → r ≤ 8
    some k r n e l = omega arith

    no_close : (k : Closing) → NoClose k x.received → x.received ≤ 8
    no_close Shut e = none x.received e
    no_close (Close k) e = absurd e
    no_close (Noted k) e = absurd e
    no_close PutAllAck e = absurd e

    agrees : (k : Closing) → Agrees k x.received (commits x) (puts x) → x.received ≤ 8
    agrees Shut e = none x.received e.0
    agrees (Close k) e = some k x.received (commits x) e.0 e.1
    agrees (Noted k) e = some k x.received (commits x) e.0 e.1
    agrees PutAllAck e = none x.received e.0

    go : (w : Activity) (k : Closing) → Counted w k x.received (commits x) (puts x) → x.received ≤ 8
    go Idle k e = no_close k e
    go (Loading a) k e = no_close k e
    go (Storing a y) k e = no_close k e
    go Acquiring k e = agrees k e
    go Releasing k e = agrees k e
