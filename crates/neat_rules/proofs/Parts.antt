-- A step that changes one core's part: the waiting calls, due, and what is left of the invariant.
use Rattle.std.proofs.Common.{◌≡◌, ℕ, ◌+◌, ◌<◌, ◌≤◌, cond, eqb, sym, refl, ap, ◌∙◌, subst, arith}
use Rattle.protocol.specs.Meaning.{WaitingStays, WaitingBecomes}
use Rattle.protocol.specs.Cells.{line_of}
use Rattle.neat_rules.specs.State.{with_at, total, Line, Slot, Closing, Activity, Idle, Loading, Storing, Acquiring, Releasing, Core, State}
use Rattle.neat_rules.specs.Rules.{outstanding}
use Rattle.neat_rules.specs.Reading.{moment, waits_for, core_due, place_due, held_behind, held_due}
use Rattle.neat_rules.proofs.Tables.{with_at_here, with_at_there, with_at_all, total_with}
use Rattle.neat_rules.proofs.Invariant.{Stage, resting, fetching, closed, stage, SlotOk, NoClose, Agrees, Counted, Gone, InRange, Bytewise, commit_in, commits, puts, CoreOk, Reachable}
use Rattle.neat_rules.proofs.Drift.{after}

-- What a waiting load or store of the address a has in common.
pub record Fetches (a : ℕ) (w : Activity) : Type 0 where
  pub stage_is : (l : ℕ) → stage w l ≡ cond (eqb l (line_of a)) fetching resting
  pub gone : (k : Line) → Gone w k
  pub counted : (k : Closing) (r n q : ℕ) → NoClose k r → Counted w k r n q
  pub in_range : InRange w
  pub held : (f : ℕ → Slot) → held_due w f ≡ held_behind (f (line_of a)).place

pub fetches_load : (a : ℕ) → InRange (Loading a) → Fetches a (Loading a)
fetches_load a h = record { stage_is = λ l. refl; gone = λ k. tt; counted = λ k r n q e. e; in_range = h; held = λ f. refl }

pub fetches_store : (a y : ℕ) → InRange (Storing a y) → Fetches a (Storing a y)
fetches_store a y h = record { stage_is = λ l. refl; gone = λ k. tt; counted = λ k r n q e. e; in_range = h; held = λ f. refl }

-- What an acquire and a release have in common.
pub record ClosesBy (w : Activity) : Type 0 where
  pub stage_is : (l : ℕ) → stage w l ≡ closed
  pub counts : (k : Closing) (r n q : ℕ) → Agrees k r n q → Counted w k r n q
  pub agrees : (k : Closing) (r n q : ℕ) → Counted w k r n q → Agrees k r n q
  pub held : (f : ℕ → Slot) → held_due w f ≡ 0
  pub in_range : InRange w

pub closes_acquire : ClosesBy Acquiring
closes_acquire = record { stage_is = λ l. refl; counts = λ k r n q h. h; agrees = λ k r n q h. h; held = λ f. refl; in_range = tt }

pub closes_release : ClosesBy Releasing
closes_release = record { stage_is = λ l. refl; counts = λ k r n q h. h; agrees = λ k r n q h. h; held = λ f. refl; in_range = tt }

-- A core's part in an acquire or release w.
pub closed_ok : (y : Core) (w : Activity) → ClosesBy w → y.activity ≡ w → ((l : ℕ) → l < 8 → SlotOk closed (y.slot l).line (y.slot l).place) → ((l : ℕ) → l < 8 → Gone w (y.slot l).line) → Agrees y.closing y.received (commits y) (puts y) → CoreOk y
closed_ok y w by is slots gone agrees =
    record {
      slots = λ l h. subst (λ (g : Stage). SlotOk g (y.slot l).line (y.slot l).place) (sym (ap (λ (v : Activity). stage v l) is ∙ by.stage_is l)) (slots l h);
      gone = λ l h. subst (λ (v : Activity). Gone v (y.slot l).line) (sym is) (gone l h);
      counted = subst (λ (v : Activity). Counted v y.closing y.received (commits y) (puts y)) (sym is) (by.counts y.closing y.received (commits y) (puts y) agrees);
      in_range = subst InRange (sym is) by.in_range;
    }

rises : (m n k j r : ℕ) → n + k ≡ m + j → j ≤ k + r → n ≤ m + r
rises m n k j r e h = omega arith

falls : (m n k j : ℕ) → n + k ≡ m + j → j + 1 ≤ k → n + 1 ≤ m
falls m n k j e h = omega arith

module _ (s : State) (c : ℕ) (x : Core) (g : ℕ → ℕ → ℕ) where
  pub again_after : Reachable s → CoreOk x → ((l : ℕ) → Bytewise (g l)) → Reachable (after s c x g)
  again_after i h k = record { cores = with_at_all (λ j (y : Core). CoreOk y) s.cores c x h i.cores; llc = k }

  pub waiting_stays : x.activity ≡ (s.cores c).activity → WaitingStays (moment s) (moment (after s c x g))
  waiting_stays e d i = with_at_all (λ j (y : Core). waits_for j y.activity ≡ waits_for j (s.cores j).activity) s.cores c x (ap (waits_for c) e) (λ j. refl) d

  pub waiting_becomes : (w : Activity) → x.activity ≡ w → WaitingBecomes c (waits_for c w) (moment s) (moment (after s c x g))
  waiting_becomes w e = record { there = ap (λ (y : Core). waits_for c y.activity) (with_at_here s.cores c x) ∙ ap (waits_for c) e; elsewhere = λ d i ne. ap (λ (y : Core). waits_for d y.activity) (with_at_there s.cores c x d ne) }

  due_after : c < 8 → (moment (after s c x g)).due + core_due (s.cores c) ≡ (moment s).due + core_due x
  due_after lt = total_with core_due 8 s.cores c x lt

  pub due_rises : c < 8 → (r : ℕ) → core_due x ≤ core_due (s.cores c) + r → (moment (after s c x g)).due ≤ (moment s).due + r
  due_rises lt r = rises (moment s).due (moment (after s c x g)).due (core_due (s.cores c)) (core_due x) r (due_after lt)

  pub due_falls : c < 8 → core_due x + 1 ≤ core_due (s.cores c) → (moment (after s c x g)).due + 1 ≤ (moment s).due
  due_falls lt = falls (moment s).due (moment (after s c x g)).due (core_due (s.cores c)) (core_due x) (due_after lt)

-- A call that changes no part adds nothing to due.
pub due_same : (m : ℕ) → m ≤ m + 18
due_same m = omega arith

-- An exchange of equal summands leaves the sum, and one of 1 for 0 takes 1 from it.
pub same_sum : (n m a b : ℕ) → n + a ≡ m + b → a ≡ b → n ≡ m
same_sum n m a b e h = omega arith

pub less_sum : (n m a b : ℕ) → n + a ≡ m + b → a ≡ 1 → b ≡ 0 → n + 1 ≡ m
less_sum n m a b e h k = omega arith

-- What the messages about a core's lines have of due.
abbrev pub places_due : (ℕ → Slot) → ℕ
places_due f = total 8 (λ l. place_due (f l).place)

pub places_due_with : (f : ℕ → Slot) (l : ℕ) (v : Slot) → l < 8 → places_due (with_at f l v) + place_due (f l).place ≡ places_due f + place_due v.place
places_due_with f l v i = total_with (λ (u : Slot). place_due u.place) 8 f l v i

pub commits_with : (f : ℕ → Slot) (l : ℕ) (v : Slot) → l < 8 → total 8 (λ j. commit_in (with_at f l v j).place) + commit_in (f l).place ≡ total 8 (λ j. commit_in (f j).place) + commit_in v.place
commits_with f l v i = total_with (λ (u : Slot). commit_in u.place) 8 f l v i

pub puts_with : (f : ℕ → Slot) (l : ℕ) (v : Slot) → l < 8 → total 8 (λ j. outstanding (with_at f l v j).place) + outstanding (f l).place ≡ total 8 (λ j. outstanding (f j).place) + outstanding v.place
puts_with f l v i = total_with (λ (u : Slot). outstanding u.place) 8 f l v i

-- What is held back stays where the message behind which it is held is exchanged for another such.
pub held_with : (w : Activity) (f : ℕ → Slot) (l : ℕ) (v : Slot) → held_behind v.place ≡ held_behind (f l).place → held_due w (with_at f l v) ≡ held_due w f
held_with Idle f l v e = refl
held_with (Loading a) f l v e = with_at_all (λ j (u : Slot). held_behind u.place ≡ held_behind (f j).place) f l v e (λ j. refl) (line_of a)
held_with (Storing a y) f l v e = with_at_all (λ j (u : Slot). held_behind u.place ≡ held_behind (f j).place) f l v e (λ j. refl) (line_of a)
held_with Acquiring f l v e = refl
held_with Releasing f l v e = refl
