-- A waiting call goes on in the move that ends its call below.
use Rattle.std.proofs.Common.{◌≡◌, ℕ, ◌+◌, ◌*◌, ◌<◌, ◌≤◌, List, [], ◌∷◌, length, Some, None, Option, sym, refl, ◌∙◌, subst, mul-le-mul_left, arith}
use Rattle.protocol.specs.declared.steps.Step.{Step}
use Rattle.protocol.specs.declared.steps.Step.TheVariants.{Load, Store, Acquire, Release, Evict, Move}
use Rattle.protocol.specs.declared.steps.Ended.{Ended}
use Rattle.protocol.specs.declared.steps.Ended.TheVariants.{Stored}
use Rattle.protocol.specs.declared.steps.Reply.{Reply}
use Rattle.protocol.specs.declared.steps.Reply.TheVariants.{Refused, Waits, Ended as AtOnce, Moved, Finished}
use Rattle.protocol.specs.Steps.{call_of}
use Rattle.protocol.specs.Meaning.{Machine, Meaning, Reached, Brings}
use Rattle.buffer_rules.specs.declared.entries.Entry.{Entry}
use Rattle.buffer_rules.specs.Entries.{added, rest}
use Rattle.buffer_rules.specs.Rules.{Buffer, moved, in_move, release, release_on, goes_on}
use Rattle.buffer_rules.specs.Buffered.{calls_left, left_of}
use Rattle.buffer_rules.proofs.Always.{Always, always_so, always_after}
use Rattle.buffer_rules.proofs.Held.{Sound, found_none}
use Rattle.buffer_rules.proofs.Names.{stored_is, load_straight, acquire_straight, release_straight}
use Rattle.buffer_rules.proofs.Views.{Straight, straight_brings}
use Rattle.buffer_rules.proofs.Waiting.{CoreSound}
use Rattle.buffer_rules.proofs.Work.{Worked, Outcome, DriftsAbove, BringsAbove, drifts_then, brings_then, leaving, Idle}
use Rattle.buffer_rules.proofs.Calls.{added_worked, release_worked}

module _ (M : Machine) (mean : Meaning M) where
  -- How a move came out that let the call k of core c go on, by its reply.
  abbrev pub MovedOutcome : ℕ → Step → M.State → List Entry → Buffer → M.State → Reply → Type 0
  MovedOutcome c k s q b t (Refused e) = ⊥
  MovedOutcome c k s q b t Waits = ⊥
  MovedOutcome c k s q b t (AtOnce e) = ⊥
  MovedOutcome c k s q b t Moved = (b.pending ≡ Some k) × (DriftsAbove M mean c s q t b.entries)
  MovedOutcome c k s q b t (Finished e) = (call_of e ≡ k) × (b.pending ≡ None) × (BringsAbove M mean c e s q t b.entries)

  pub record WentOn (c : ℕ) (k : Step) (s : M.State) (q : List Entry) (r : Reply) (b : Buffer) (t : M.State) : Type 0 where
    pub reached : Reached M t
    pub reach : (M.moment t).reach ≡ (M.moment s).reach
    pub others : (d : ℕ) → d < 8 → (d ≡ c → ⊥) → (M.moment t).waits d ≡ (M.moment s).waits d
    pub sound : CoreSound c b.entries b.pending ((M.moment t).waits c)
    pub falls : (M.moment t).due + (M.moment s).reach * calls_left b + 1 ≤ (M.moment s).due + (M.moment s).reach * left_of q (Some k)
    pub outcome : MovedOutcome c k s q b t r

  -- A move below from s to u that has ended a call of core c.
  pub record Freed (c : ℕ) (s u : M.State) : Type 0 where
    pub reached : Reached M u
    pub core : c < 8
    pub reach : (M.moment u).reach ≡ (M.moment s).reach
    pub others : (d : ℕ) → d < 8 → (d ≡ c → ⊥) → (M.moment u).waits d ≡ (M.moment s).waits d
    pub free : (M.moment u).waits c ≡ None
    pub falls : (M.moment u).due + 1 ≤ (M.moment s).due

  -- A call that ends as the same call below.
  straight_on : {c : ℕ} {k : Step} {s u : M.State} {q : List Entry} (e : Ended) → Freed c s u → Sound q → length q ≤ 4 → Straight c q e → call_of e ≡ k → Brings e (M.moment s).view (M.moment u).view → WentOn c k s q (Finished e) (record { entries = q; pending = None }) u
  straight_on {c} {k} {s} {u} {q} e f snd few st i br =
      record {
        reached = f.reached;
        reach = f.reach;
        others = f.others;
        sound = record { sound = snd; few = few; fine = tt; same = f.free };
        falls = let p = f.falls in omega arith;
        outcome = (i, refl, λ E E' a. straight_brings (M.moment s).view (M.moment u).view e st a br);
      }

  then_falls : (d d' d'' R R' x n l : ℕ) → R' ≡ R → n ≤ l → d' + 1 ≤ d → d'' + R' * x ≤ d' + R' * n → d'' + R * x + 1 ≤ d + R * l
  then_falls d d' d'' R R' x n l e h p q = let q' : d'' + R * x ≤ d' + R * n = subst (λ (y : ℕ). d'' + y * x ≤ d' + y * n) e q in let z = mul-le-mul_left R h in omega arith

  -- A call whose oldest entry has left with the move, and what it still did then.
  went_then : {c : ℕ} {k : Step} {s u : M.State} {e : Entry} {es : List Entry} (n : ℕ) (r : Reply) (b : Buffer) (t : M.State) → Freed c s u → DriftsAbove M mean c s (e ∷ es) u es → n ≤ left_of (e ∷ es) (Some k) → Worked M mean c k n u es r b t → WentOn c k s (e ∷ es) (moved r) b t
  went_then {c} {k} {s} {u} {e} {es} n r b t f dr l w =
      record {
        reached = w.reached;
        reach = w.reach ∙ f.reach;
        others = λ d i j. w.others d i j ∙ f.others d i j;
        sound = w.sound;
        falls = then_falls (M.moment s).due (M.moment u).due (M.moment t).due (M.moment s).reach (M.moment u).reach (calls_left b) n (left_of (e ∷ es) (Some k)) f.reach l f.falls w.paid;
        outcome = go r w.outcome;
      }
    where
      go : (r : Reply) → Outcome M mean c k u es b t r → MovedOutcome c k s (e ∷ es) b t (moved r)
      go (Refused x) o = o
      go Waits o = (o.1, drifts_then M mean dr o.2)
      go (AtOnce x) o = (o.0, o.1, brings_then M mean t x dr o.2)
      go Moved o = absurd o
      go (Finished x) o = absurd o

  some_same : {X : Type 0} {o : Option X} {x y : X} → o ≡ Some x → o ≡ Some y → x ≡ y
  some_same {X} {o} {x} {y} p q = cc

  -- The waiting call k of core c goes on.
  abbrev Goes : ℕ → Step → M.State → List Entry → Reply × Buffer → M.State → Type 0
  Goes c k s q x t = WentOn c k s q x.0 x.1 t

  -- The oldest entry has left with the move.
  left_with : {c : ℕ} {s u : M.State} (e : Ended) (x : Entry) (xs : List Entry) → Freed c s u → Sound (x ∷ xs) → Brings e (M.moment s).view (M.moment u).view → call_of e ≡ Store c x.address x.byte → DriftsAbove M mean c s (x ∷ xs) u xs
  left_with {c} {s} {u} e x xs f snd br i =
      leaving M mean s u f.core snd (subst (λ (y : Ended). Brings y (M.moment s).view (M.moment u).view) (stored_is c x.address x.byte e i) br)

  idle_then : {c : ℕ} {s u : M.State} (x : Entry) (xs : List Entry) → Freed c s u → Sound (x ∷ xs) → length (x ∷ xs) ≤ 4 → Idle M mean c u xs
  idle_then x xs f snd few = record { ready = record { reached = f.reached; core = f.core; free = f.free }; sound = snd.3; few = omega arith }

  store_on : (a b : ℕ) {c : ℕ} {s u : M.State} (e : Ended) (q : List Entry) → Freed c s u → CoreSound c q (Some (Store c a b)) ((M.moment s).waits c) → (M.moment s).waits c ≡ Some (call_of e) → Brings e (M.moment s).view (M.moment u).view → Goes c (Store c a b) s q (Finished (Stored c a b), record { entries = added a b (rest q); pending = None }) u
  store_on a b e [] f h w br = absurd (omega (arith, h.fine.4))
  store_on a b {c} {s} {u} e (x ∷ xs) f h w br =
      went_then 0 (AtOnce (Stored c a b)) (record { entries = added a b xs; pending = None }) u f (left_with e x xs f h.sound br (some_same w h.same)) (omega arith)
      (added_worked M mean c a b u xs h.fine.1 h.fine.2 (found_none a x xs h.fine.3).1 (let l = h.few in omega arith) (idle_then x xs f h.sound h.few))

  release_goes_on : {c : ℕ} {s u : M.State} (e : Ended) (q : List Entry) → Freed c s u → CoreSound c q (Some (Release c)) ((M.moment s).waits c) → (M.moment s).waits c ≡ Some (call_of e) → Brings e (M.moment s).view (M.moment u).view → Always M.steps (release_on c e q) u (Goes c (Release c) s q)
  release_goes_on {c} e [] f h w br = let i = some_same w h.same in straight_on e f h.sound h.few (release_straight c e i) i br
  release_goes_on {c} {s} {u} e (x ∷ xs) f h w br =
      always_after M.steps in_move (Goes c (Release c) s (x ∷ xs)) (release c xs) u
      (always_so M.steps (release c xs) u (λ y t k. went_then (length xs + 1) y.0 y.1 t f (left_with e x xs f h.sound br (some_same w h.same)) (omega arith) k)
      (release_worked M mean c xs u f.core (idle_then x xs f h.sound h.few)))

  pub goes_on_worked : (c : ℕ) {s u : M.State} (e : Ended) (q : List Entry) (k : Step) → Freed c s u → CoreSound c q (Some k) ((M.moment s).waits c) → (M.moment s).waits c ≡ Some (call_of e) → Brings e (M.moment s).view (M.moment u).view → Always M.steps (goes_on e q k) u (Goes c k s q)
  goes_on_worked c e q (Load d a) f h w br =
      let i = some_same w h.same in
      straight_on e f h.sound h.few (subst (λ (x : ℕ). Straight x q e) h.fine.0 (load_straight d a q h.fine.1 e i)) i br
  goes_on_worked c {s} {u} e q (Store d a b) f h w br =
      subst (λ (x : ℕ). Goes c (Store x a b) s q (Finished (Stored x a b), record { entries = added a b (rest q); pending = None }) u) (sym h.fine.0)
      (store_on a b e q f (subst (λ (x : ℕ). CoreSound c q (Some (Store x a b)) ((M.moment s).waits c)) h.fine.0 h) w br)
  goes_on_worked c e q (Acquire d) f h w br =
      let i = some_same w h.same in
      straight_on e f h.sound h.few (subst (λ (x : ℕ). Straight x q e) h.fine (acquire_straight d q e i)) i br
  goes_on_worked c {s} {u} e q (Release d) f h w br =
      subst (λ (x : ℕ). Always M.steps (release_on x e q) u (Goes c (Release x) s q)) (sym h.fine)
      (release_goes_on e q f (subst (λ (x : ℕ). CoreSound c q (Some (Release x)) ((M.moment s).waits c)) h.fine h) w br)
  goes_on_worked c e q (Evict d l) f h w br = absurd h.fine
  goes_on_worked c e q (Move p) f h w br = absurd h.fine
