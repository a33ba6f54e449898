-- What every study keeps, over every protocol that keeps the meaning: one induction over its steps. The guarantee follows.
use Rattle.std.proofs.Common.{◌≡◌, ℕ, ◌+◌, ◌*◌, ◌<◌, ◌≤◌, Bool, true, false, cond, leb, List, [], ◌∷◌, ◌++◌, Some, None, Ok, Err, Option, Result, sym, refl, ap, ◌∙◌, subst, ⊎_elim, arith}
use Rattle.std.proofs.lemmas.Bool.{cases_eq, eq-eqb, ne_eqb, leb-false, lt-leb, or_parts}
use Rattle.protocol.specs.declared.steps.Step.{Step}
use Rattle.protocol.specs.declared.steps.Step.TheVariants.{Load, Store, Acquire, Release, Evict, Move}
use Rattle.protocol.specs.declared.steps.Ended.{Ended}
use Rattle.protocol.specs.declared.steps.Ended.TheVariants.{Loaded, Stored, Acquired, Released, Evicted}
use Rattle.protocol.specs.declared.steps.Refusal.{Refusal}
use Rattle.protocol.specs.declared.steps.Refusal.TheVariants.{NoSuchAddress}
use Rattle.protocol.specs.declared.steps.Reply.{Reply}
use Rattle.protocol.specs.declared.steps.Reply.TheVariants.{Refused, Waits, Ended as AtOnce, Moved, Finished}
use Rattle.protocol.specs.Moment.{View, Moment, Drifts}
use Rattle.protocol.specs.Steps.{call_of, core_of, caller, Fit}
use Rattle.protocol.specs.Meaning.{Machine, Meaning, Reached, cleared, stepped, Possible, Brings, Begins, Ends, Passes, Finishes, Called, Delivered, Accepted, WaitingBecomes, refused_in}
use Rattle.races.specs.Log.{Log, feed, becomes, answered, as_ended, pending_ended}
use Rattle.races.specs.Races.{Written, newest, since, released, handed_over, races, any_race}
use Rattle.races.specs.Study.{Study, set_up, took}
use Rattle.races.specs.Guarantee.{Coherent, ImageIs, expected}
use Rattle.races.proofs.Debts.{Right, right_drifts}
use Rattle.races.proofs.Endings.{RightAt, right_added, load_answers}
use Rattle.races.proofs.TableLaw.{InRange, AllInRange}

-- A core call whose fields are in range.
abbrev CallOk : Step → Type 0
CallOk (Load c a) = (c < 8) × (a < 64)
CallOk (Store c a b) = (c < 8) × (a < 64)
CallOk (Acquire c) = c < 8
CallOk (Release c) = c < 8
CallOk (Evict c l) = c < 8
CallOk (Move p) = ⊥

call_in_range : (x : Ended) → CallOk (call_of x) → InRange x
call_in_range (Loaded c a b) h = h
call_in_range (Stored c a b) h = h
call_in_range (Acquired c) h = h
call_in_range (Released c) h = h
call_in_range (Evicted c l) h = h

-- What an accepted call's fields are, by the table of refusals.
below : (b n : ℕ) (e : Refusal) (o : Option Refusal) → cond (leb b n) (Some e) o ≡ None → (n < b) × (o ≡ None)
below b n e o h = go (leb b n) refl h
  where
    go : (t : Bool) → leb b n ≡ t → cond t (Some e) o ≡ None → (n < b) × (o ≡ None)
    go true q h = let z : ◌≡◌ {A = ℕ} 0 1 = cc in absurd (omega arith)
    go false q h = (leb-false b n q, h)

abbrev IsCall : Step → Type 0
IsCall (Load c a) = Unit {0}
IsCall (Store c a b) = Unit {0}
IsCall (Acquire c) = Unit {0}
IsCall (Release c) = Unit {0}
IsCall (Evict c l) = Unit {0}
IsCall (Move p) = ⊥

accepted_ok : (m : Moment) (k : Step) → IsCall k → refused_in m k ≡ None → CallOk k
accepted_ok m (Load c a) i h = let p = below 8 c _ _ h in (p.0, (below 64 a _ _ p.1).0)
accepted_ok m (Store c a b) i h = let p = below 8 c _ _ h in (p.0, (below 64 a _ _ p.1).0)
accepted_ok m (Acquire c) i h = (below 8 c _ _ h).0
accepted_ok m (Release c) i h = (below 8 c _ _ h).0
accepted_ok m (Evict c l) i h = (below 8 c _ _ h).0
accepted_ok m (Move p) i h = i

-- Loads before the first race, call by call.
abbrev LoadRight : Ended → List Ended → Type 0
LoadRight (Loaded c a b) xs = b ≡ expected a xs
LoadRight (Stored c a b) xs = Unit {0}
LoadRight (Acquired c) xs = Unit {0}
LoadRight (Released c) xs = Unit {0}
LoadRight (Evicted c l) xs = Unit {0}

abbrev LoadsRight : List Ended → Type 0
LoadsRight [] = Unit {0}
LoadsRight (x ∷ xs) = (any_race (x ∷ xs) ≡ false → LoadRight x xs) × LoadsRight xs

loads_split : (later earlier : List Ended) (c a b : ℕ) → LoadsRight (later ++ (Loaded c a b ∷ earlier)) → any_race (Loaded c a b ∷ earlier) ≡ false → b ≡ expected a earlier
loads_split [] earlier c a b h r = h.0 r
loads_split (x ∷ xs) earlier c a b h r = loads_split xs earlier c a b h.1 r

-- What holds of the ended calls and the view.
record Sound (v : View) (xs : List Ended) : Type 0 where
  ranges : AllInRange xs
  right : any_race xs ≡ false → (a : ℕ) → a < 64 → RightAt v a xs
  loads : LoadsRight xs

sound_drifts : {m n : View} (xs : List Ended) → Drifts m n → Sound m xs → Sound n xs
sound_drifts xs d h = record { ranges = h.ranges; right = λ r a l. right_drifts a (newest a xs) _ _ l d (h.right r a l); loads = h.loads }

load_right : (x : Ended) (xs : List Ended) (m n : View) → InRange x → Brings x m n → Sound m xs → any_race (x ∷ xs) ≡ false → LoadRight x xs
load_right (Loaded c a b) xs m n i g h r = let p = or_parts (races (Loaded c a b) xs) (any_race xs) r in load_answers c a b xs m n i.0 i.1 g p.0 (h.right p.1 a i.1)
load_right (Stored c a b) xs m n i g h r = tt
load_right (Acquired c) xs m n i g h r = tt
load_right (Released c) xs m n i g h r = tt
load_right (Evicted c l) xs m n i g h r = tt

sound_added : (x : Ended) (xs : List Ended) (m n : View) → InRange x → Brings x m n → Sound m xs → Sound n (x ∷ xs)
sound_added x xs m n i g h =
    record {
      ranges = (i, h.ranges);
      right = λ r. let p = or_parts (races x xs) (any_race xs) r in right_added x xs m n i g p.0 (h.right p.1);
      loads = (load_right x xs m n i g h, h.loads);
    }

-- What a study keeps.
pub record Kept (M : Machine) (s : M.State) (log : Log) : Type 0 where
  pub reached : Reached M s
  pub pending : (c : ℕ) → c < 8 → log.pending c ≡ (M.moment s).waits c
  callers : (c : ℕ) (k : Step) → c < 8 → log.pending c ≡ Some k → CallOk k
  sound : Sound (M.moment s).view log.ended
  pub paid : log.moves + (M.moment s).due ≤ log.calls * (M.moment s).reach

-- The pending calls follow the waiting.
pending_becomes : (f : ℕ → Option Step) (c : ℕ) (w : Option Step) (m n : Moment) → ((d : ℕ) → d < 8 → f d ≡ m.waits d) → WaitingBecomes c w m n → (d : ℕ) → d < 8 → becomes f c w d ≡ n.waits d
pending_becomes f c w m n h b d l =
    ⊎_elim (λ (e : d ≡ c). ap (λ (t : Bool). cond t w (f d)) (eq-eqb d c e) ∙ (sym b.there ∙ ap n.waits (sym e)))
    (λ (e : d ≡ c → ⊥). ap (λ (t : Bool). cond t w (f d)) (ne_eqb d c e) ∙ (h d l ∙ sym (b.elsewhere d l e)))
    (cases_eq d c)

callers_become : (f : ℕ → Option Step) (c : ℕ) (w : Option Step) → ((d : ℕ) (k : Step) → d < 8 → f d ≡ Some k → CallOk k) → ((k : Step) → w ≡ Some k → CallOk k) → (d : ℕ) (k : Step) → d < 8 → becomes f c w d ≡ Some k → CallOk k
callers_become f c w h g d k l e =
    ⊎_elim (λ (q : d ≡ c). g k (sym (ap (λ (t : Bool). cond t w (f d)) (eq-eqb d c q)) ∙ e)) (λ (q : d ≡ c → ⊥). h d k l (sym (ap (λ (t : Bool). cond t w (f d)) (ne_eqb d c q)) ∙ e)) (cases_eq d c)

some_ok : (k : Step) → CallOk k → (j : Step) → Some k ≡ Some j → CallOk j
some_ok k h j e = subst CallOk (cc) h

none_ok : (j : Step) → None ≡ Some j → CallOk j
none_ok j e = let z : ◌≡◌ {A = ℕ} 0 1 = cc in absurd (omega arith)

-- An ended call is added as it was named.
pub adds_itself : (x : Ended) (xs : List Ended) → as_ended (call_of x) (answered x) xs ≡ x ∷ xs
adds_itself (Loaded c a b) xs = refl
adds_itself (Stored c a b) xs = refl
adds_itself (Acquired c) xs = refl
adds_itself (Released c) xs = refl
adds_itself (Evicted c l) xs = refl

-- The ended calls after an answer.
abbrev pub ended_after : Reply → List Ended → List Ended
ended_after (Refused e) l = l
ended_after Waits l = l
ended_after (AtOnce x) l = x ∷ l
ended_after Moved l = l
ended_after (Finished x) l = x ∷ l

pay_call : (moves due due' calls reach reach' : ℕ) → reach' ≡ reach → moves + due ≤ calls * reach → due' ≤ due + reach → moves + due' ≤ (calls + 1) * reach'
pay_call moves due due' calls reach reach' e h l = subst (λ (z : ℕ). moves + due' ≤ (calls + 1) * z) (sym e) (omega arith)

pay_move : (moves due due' calls reach reach' : ℕ) → reach' ≡ reach → moves + due ≤ calls * reach → due' + 1 ≤ due → moves + 1 + due' ≤ calls * reach'
pay_move moves due due' calls reach reach' e h l = subst (λ (z : ℕ). moves + 1 + due' ≤ calls * z) (sym e) (omega arith)

module _ (M : Machine) (means : Meaning M) where
  -- The parts that every accepted step keeps alike.
  record Going (s : M.State) (k : Step) (r : Reply) (t : M.State) : Type 0 where
    possible : Possible M s k r t
    free : refused_in (M.moment s) k ≡ None

  goes_on : (s : M.State) (k : Step) (r : Reply) (t : M.State) → Going s k r t → Reached M t
  goes_on s k r t g = stepped g.possible.reached g.possible.fit g.possible.step

  steady : (s : M.State) (k : Step) (r : Reply) (t : M.State) → Going s k r t → (M.moment t).reach ≡ (M.moment s).reach
  steady s k r t g = means.reach_stays s k r t g.possible

  kept_begins : (s : M.State) (k : Step) (t : M.State) (log : Log) → Kept M s log → Going s k Waits t → IsCall k → Begins k (M.moment s) (M.moment t) → Kept M t (feed log k Waits)
  kept_begins s k t log h g i b =
      record {
        reached = goes_on s k Waits t g;
        pending = pending_becomes log.pending (caller k) (Some k) (M.moment s) (M.moment t) h.pending b.waiting;
        callers = callers_become log.pending (caller k) (Some k) h.callers (some_ok k (accepted_ok (M.moment s) k i g.free));
        sound = sound_drifts log.ended b.drifts h.sound;
        paid = pay_call log.moves (M.moment s).due (M.moment t).due log.calls (M.moment s).reach (M.moment t).reach (steady s k Waits t g) h.paid b.paid;
      }

  kept_ends : (s : M.State) (k : Step) (x : Ended) (t : M.State) (log : Log) → Kept M s log → Going s k (AtOnce x) t → IsCall k → Ends k x (M.moment s) (M.moment t) → Kept M t (feed log k (AtOnce x))
  kept_ends s k x t log h g i b =
      record {
        reached = goes_on s k (AtOnce x) t g;
        pending = λ d l. h.pending d l ∙ sym (b.waiting d l);
        callers = h.callers;
        sound =
            subst (Sound (M.moment t).view) (sym (ap (λ (z : Step). as_ended z (answered x) log.ended) (sym b.same) ∙ adds_itself x log.ended))
            (sound_added x log.ended (M.moment s).view (M.moment t).view (call_in_range x (subst CallOk (sym b.same) (accepted_ok (M.moment s) k i g.free))) b.brings h.sound);
        paid = pay_call log.moves (M.moment s).due (M.moment t).due log.calls (M.moment s).reach (M.moment t).reach (steady s k (AtOnce x) t g) h.paid b.paid;
      }

  kept_called : (s : M.State) (k : Step) (r : Reply) (t : M.State) (log : Log) → Kept M s log → Going s k r t → IsCall k → Called k (M.moment s) (M.moment t) r → Kept M t (feed log k r)
  kept_called s k (Refused e) t log h g i b = absurd b
  kept_called s k Waits t log h g i b = kept_begins s k t log h g i b
  kept_called s k (AtOnce x) t log h g i b = kept_ends s k x t log h g i b
  kept_called s k Moved t log h g i b = absurd b
  kept_called s k (Finished x) t log h g i b = absurd b

  kept_passes : (s : M.State) (k : Step) (t : M.State) (log : Log) → Kept M s log → Going s k Moved t → Passes (M.moment s) (M.moment t) → Kept M t (feed log k Moved)
  kept_passes s k t log h g b =
      record {
        reached = goes_on s k Moved t g;
        pending = λ d l. h.pending d l ∙ sym (b.waiting d l);
        callers = h.callers;
        sound = sound_drifts log.ended b.drifts h.sound;
        paid = pay_move log.moves (M.moment s).due (M.moment t).due log.calls (M.moment s).reach (M.moment t).reach (steady s k Moved t g) h.paid b.falls;
      }

  kept_finishes : (s : M.State) (k : Step) (x : Ended) (t : M.State) (log : Log) → Kept M s log → Going s k (Finished x) t → Finishes x (M.moment s) (M.moment t) → Kept M t (feed log k (Finished x))
  kept_finishes s k x t log h g b =
      let was : log.pending (core_of x) ≡ Some (call_of x) = h.pending (core_of x) b.core ∙ b.waited in
      record {
        reached = goes_on s k (Finished x) t g;
        pending = pending_becomes log.pending (core_of x) None (M.moment s) (M.moment t) h.pending b.waiting;
        callers = callers_become log.pending (core_of x) None h.callers none_ok;
        sound =
            subst (Sound (M.moment t).view) (sym (ap (λ (z : Option Step). pending_ended z (answered x) log.ended) was ∙ adds_itself x log.ended))
            (sound_added x log.ended (M.moment s).view (M.moment t).view (call_in_range x (h.callers (core_of x) (call_of x) b.core was)) b.brings h.sound);
        paid = pay_move log.moves (M.moment s).due (M.moment t).due log.calls (M.moment s).reach (M.moment t).reach (steady s k (Finished x) t g) h.paid b.falls;
      }

  kept_delivered : (s : M.State) (k : Step) (r : Reply) (t : M.State) (log : Log) → Kept M s log → Going s k r t → Delivered (M.moment s) (M.moment t) r → Kept M t (feed log k r)
  kept_delivered s k (Refused e) t log h g b = absurd b
  kept_delivered s k Waits t log h g b = absurd b
  kept_delivered s k (AtOnce x) t log h g b = absurd b
  kept_delivered s k Moved t log h g b = kept_passes s k t log h g b
  kept_delivered s k (Finished x) t log h g b = kept_finishes s k x t log h g b

  kept_accepted : (s : M.State) (k : Step) (r : Reply) (t : M.State) (log : Log) → Kept M s log → Going s k r t → Accepted k (M.moment s) (M.moment t) r → Kept M t (feed log k r)
  kept_accepted s (Load c a) r t log h g b = kept_called s (Load c a) r t log h g tt b
  kept_accepted s (Store c a x) r t log h g b = kept_called s (Store c a x) r t log h g tt b
  kept_accepted s (Acquire c) r t log h g b = kept_called s (Acquire c) r t log h g tt b
  kept_accepted s (Release c) r t log h g b = kept_called s (Release c) r t log h g tt b
  kept_accepted s (Evict c l) r t log h g b = kept_called s (Evict c l) r t log h g tt b
  kept_accepted s (Move p) r t log h g b = kept_delivered s (Move p) r t log h g b

  -- One step keeps it.
  pub kept_step : (s : M.State) (k : Step) (r : Reply) (t : M.State) (log : Log) → Kept M s log → Fit k → M.steps s k r t → Kept M t (feed log k r)
  kept_step s k r t log h f st = go (refused_in (M.moment s) k) refl
    where
      p : Possible M s k r t
      p = record { reached = h.reached; fit = f; step = st }

      go : (o : Option Refusal) → refused_in (M.moment s) k ≡ o → Kept M t (feed log k r)
      go (Some e) q =
          let x = means.refuses s k r t p e q in
          subst (λ (z : Reply). Kept M t (feed log k z)) (sym x.0) (subst (λ (z : M.State). Kept M z log) (sym x.1) h)
      go None q = kept_accepted s k r t log h (record { possible = p; free = q }) (means.accepts s k r t p q)

  -- Every study keeps it.
  pub study_kept : {s : M.State} {log : Log} → Study M s log → Kept M s log
  study_kept (set_up {s} f) =
      let c = means.clears s f in
      record {
        reached = cleared f;
        pending = λ d l. sym (c.no_wait d l);
        callers = λ d k l e. none_ok k e;
        sound = record { ranges = tt; right = λ r a l. record { none_owes = λ d k. c.no_debt d a k l; at_home = c.home_zero a l; all_see = λ d k. c.sees_zero d a k l }; loads = tt };
        paid = let z = c.due_zero in omega arith;
      }
  study_kept (took {s} {t} {log} {k} {r} h f st) = kept_step s k r t log (study_kept h) f st

  -- The ended calls after an answer: the call that it ends is added as it is named.
  fed_called : (s : M.State) (k : Step) (r : Reply) (t : M.State) (log : Log) → Called k (M.moment s) (M.moment t) r → (feed log k r).ended ≡ ended_after r log.ended
  fed_called s k (Refused e) t log b = absurd b
  fed_called s k Waits t log b = refl
  fed_called s k (AtOnce x) t log b = ap (λ (z : Step). as_ended z (answered x) log.ended) (sym b.same) ∙ adds_itself x log.ended
  fed_called s k Moved t log b = absurd b
  fed_called s k (Finished x) t log b = absurd b

  fed_delivered : (s : M.State) (k : Step) (r : Reply) (t : M.State) (log : Log) → Kept M s log → Delivered (M.moment s) (M.moment t) r → (feed log k r).ended ≡ ended_after r log.ended
  fed_delivered s k (Refused e) t log h b = absurd b
  fed_delivered s k Waits t log h b = absurd b
  fed_delivered s k (AtOnce x) t log h b = absurd b
  fed_delivered s k Moved t log h b = refl
  fed_delivered s k (Finished x) t log h b =
      ap (λ (z : Option Step). pending_ended z (answered x) log.ended) (h.pending (core_of x) b.core ∙ b.waited) ∙ adds_itself x log.ended

  fed_accepted : (s : M.State) (k : Step) (r : Reply) (t : M.State) (log : Log) → Kept M s log → Accepted k (M.moment s) (M.moment t) r → (feed log k r).ended ≡ ended_after r log.ended
  fed_accepted s (Load c a) r t log h b = fed_called s (Load c a) r t log b
  fed_accepted s (Store c a x) r t log h b = fed_called s (Store c a x) r t log b
  fed_accepted s (Acquire c) r t log h b = fed_called s (Acquire c) r t log b
  fed_accepted s (Release c) r t log h b = fed_called s (Release c) r t log b
  fed_accepted s (Evict c l) r t log h b = fed_called s (Evict c l) r t log b
  fed_accepted s (Move p) r t log h b = fed_delivered s (Move p) r t log h b

  pub fed_step : (s : M.State) (k : Step) (r : Reply) (t : M.State) (log : Log) → Kept M s log → Fit k → M.steps s k r t → (feed log k r).ended ≡ ended_after r log.ended
  fed_step s k r t log h f st = go (refused_in (M.moment s) k) refl
    where
      p : Possible M s k r t
      p = record { reached = h.reached; fit = f; step = st }

      go : (o : Option Refusal) → refused_in (M.moment s) k ≡ o → (feed log k r).ended ≡ ended_after r log.ended
      go (Some e) q = subst (λ (z : Reply). (feed log k z).ended ≡ ended_after z log.ended) (sym (means.refuses s k r t p e q).0) refl
      go None q = fed_accepted s k r t log h (means.accepts s k r t p q)

  -- Only a refused step is answered so, and it changes nothing.
  not_called : (k : Step) (m n : Moment) (r : Reply) (e : Refusal) → r ≡ Refused e → Called k m n r → ⊥
  not_called k m n (Refused x) e q b = b
  not_called k m n Waits e q b = let z : ◌≡◌ {A = ℕ} 0 1 = cc in omega arith
  not_called k m n (AtOnce x) e q b = let z : ◌≡◌ {A = ℕ} 0 1 = cc in omega arith
  not_called k m n Moved e q b = b
  not_called k m n (Finished x) e q b = b

  not_delivered : (m n : Moment) (r : Reply) (e : Refusal) → r ≡ Refused e → Delivered m n r → ⊥
  not_delivered m n (Refused x) e q b = b
  not_delivered m n Waits e q b = b
  not_delivered m n (AtOnce x) e q b = b
  not_delivered m n Moved e q b = let z : ◌≡◌ {A = ℕ} 0 1 = cc in omega arith
  not_delivered m n (Finished x) e q b = let z : ◌≡◌ {A = ℕ} 0 1 = cc in omega arith

  not_accepted : (k : Step) (m n : Moment) (r : Reply) (e : Refusal) → r ≡ Refused e → Accepted k m n r → ⊥
  not_accepted (Load c a) m n r e q b = not_called (Load c a) m n r e q b
  not_accepted (Store c a x) m n r e q b = not_called (Store c a x) m n r e q b
  not_accepted (Acquire c) m n r e q b = not_called (Acquire c) m n r e q b
  not_accepted (Release c) m n r e q b = not_called (Release c) m n r e q b
  not_accepted (Evict c l) m n r e q b = not_called (Evict c l) m n r e q b
  not_accepted (Move p) m n r e q b = not_delivered m n r e q b

  pub refused_stays : (s : M.State) (k : Step) (r : Reply) (t : M.State) → Possible M s k r t → (e : Refusal) → r ≡ Refused e → t ≡ s
  refused_stays s k r t p e q = go (refused_in (M.moment s) k) refl
    where
      go : (o : Option Refusal) → refused_in (M.moment s) k ≡ o → t ≡ s
      go (Some d) h = (means.refuses s k r t p d h).1
      go None h = absurd (not_accepted k (M.moment s) (M.moment t) r e q (means.accepts s k r t p h))

  pub kept_ranges : {s : M.State} {log : Log} → Kept M s log → AllInRange log.ended
  kept_ranges h = h.sound.ranges

  -- The image, by the newest store.
  image_is : (s : M.State) (a : ℕ) (xs : List Ended) (o : Option Written) → a < 64 → Right (M.moment s).view a o (λ w. released w.core (since a xs)) (λ w c. handed_over w.core c (since a xs)) → ImageIs (M.moment s) a xs o
  image_is s a xs None l h = ap (λ (t : Bool). cond t (Err NoSuchAddress) (Ok ((M.moment s).view.home a))) (lt-leb 64 a l) ∙ ap {B = Result ℕ Refusal} Ok h.at_home
  image_is s a xs (Some w) l h = λ r. ap (λ (t : Bool). cond t (Err NoSuchAddress) (Ok ((M.moment s).view.home a))) (lt-leb 64 a l) ∙ ap {B = Result ℕ Refusal} Ok (h.at_home (h.paid r))

  -- The guarantee.
  pub coherent : {s : M.State} {log : Log} → Study M s log → Coherent (M.moment s) log
  coherent {s} {log} h =
      let k = study_kept h in
      record {
        loads = λ later earlier c a b e r. loads_split later earlier c a b (subst LoadsRight e k.sound.loads) r;
        image = λ r a l. image_is s a log.ended (newest a log.ended) l (k.sound.right r a l);
        moves = k.paid;
        no_wait = means.idle s k.reached;
        pending = k.pending;
      }
