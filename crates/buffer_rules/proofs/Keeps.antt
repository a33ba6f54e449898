-- The store buffer over a protocol that keeps the meaning keeps the meaning.
use Rattle.std.proofs.Common.{◌≡◌, ℕ, ◌+◌, ◌*◌, ◌<◌, ◌≤◌, Bool, cond, ◌⊎◌, List, Some, None, Option, sym, refl, ap, ◌∙◌, subst, inl, inr, mul-le-mul_left, mul-add, arith}
use Rattle.std.proofs.lemmas.Bool.{cases_eq, lt-ltb}
use Rattle.protocol.specs.declared.steps.Step.{Step}
use Rattle.protocol.specs.declared.steps.Step.TheVariants.{Load, Store, Acquire, Release, Evict, Move}
use Rattle.protocol.specs.declared.steps.Ended.{Ended}
use Rattle.protocol.specs.declared.steps.Ended.TheVariants.{Loaded, Stored, Acquired, Released, Evicted}
use Rattle.protocol.specs.declared.steps.Refusal.{Refusal}
use Rattle.protocol.specs.declared.steps.Reply.{Reply}
use Rattle.protocol.specs.declared.steps.Reply.TheVariants.{Refused, Waits, Ended as AtOnce, Moved, Finished}
use Rattle.protocol.specs.Moment.{Moment}
use Rattle.protocol.specs.Steps.{call_of, core_of, caller, Fit}
use Rattle.protocol.specs.Meaning.{Machine, Meaning, Reached, cleared, stepped, Possible, Called, Delivered, Accepted, Cleared, Bytes, FirstOpen, Finishes, refused_in}
use Rattle.buffer_rules.specs.declared.entries.Entry.{Entry}
use Rattle.buffer_rules.specs.Entries.{found}
use Rattle.buffer_rules.specs.Scripts.{Script}
use Rattle.buffer_rules.specs.Rules.{Buffer, Work, put, of_core, unless, turned_down, after_move, core_call, step_of, ended_below, load, store, release, straight}
use Rattle.buffer_rules.specs.Buffered.{Pile, seen, moment_over, calls_left, total, buffered}
use Rattle.buffer_rules.proofs.Always.{Always, always_runs, always_after, always_so}
use Rattle.buffer_rules.proofs.Held.{Sound, found_byte}
use Rattle.buffer_rules.proofs.Sums.{total_changed}
use Rattle.buffer_rules.proofs.Views.{Around, put_here, put_other, over_drifts}
use Rattle.buffer_rules.proofs.Waiting.{CoreSound, call_below, none_below, core_passed, place_passed, own_call}
use Rattle.buffer_rules.proofs.Work.{Idle, Worked, Outcome, worked_within}
use Rattle.buffer_rules.proofs.Calls.{Works, load_worked, store_worked, release_worked, acquire_worked, evict_worked}
use Rattle.buffer_rules.proofs.Moves.{WentOn, MovedOutcome, Freed, goes_on_worked}

-- One core's buffer changes, the others stay.
around : (bs : ℕ → Buffer) (c : ℕ) (b : Buffer) → Around c (bs c).entries b.entries (λ d. (bs d).entries) (λ d. (put bs c b d).entries)
around bs c b =
    record {
      before = refl;
      afterwards = ap (λ (x : Buffer). x.entries) (put_here bs c b);
      others = λ d n. ap (λ (x : Buffer). x.entries) (put_other bs c b d n);
    }

left_changed : (bs : ℕ → Buffer) (c : ℕ) (b : Buffer) → c < 8 → total 8 (λ d. calls_left (put bs c b d)) + calls_left (bs c) ≡ total 8 (λ d. calls_left (bs d)) + calls_left b
left_changed bs c b l =
    total_changed 8 c (λ d. calls_left (bs d)) (λ d. calls_left (put bs c b d)) l (λ d n. ap calls_left (put_other bs c b d n)) ∙ ap (λ (x : ℕ). total 8 (λ d. calls_left (bs d)) + x) (ap calls_left (put_here bs c b))

-- What a call adds to due, and what a move takes from it.
call_due : (d d' R R' T T' x y n : ℕ) → R' ≡ R → y ≡ 0 → T' + y ≡ T + x → d' + R * x ≤ d + R * n → n ≤ 5 → d' + R' * T' ≤ d + R * T + (5 * R + 5)
call_due d d' R R' T T' x y n e z t p l =
    let a : R * T' ≡ R * T + R * x = let u : T' ≡ T + x = omega arith in ap (λ (i : ℕ). R * i) u ∙ mul-add R T x in
    let b = mul-le-mul_left R l in
    subst (λ (i : ℕ). d' + i * T' ≤ d + R * T + (5 * R + 5)) (sym e) (omega arith)

move_due : (d d' R R' T T' x y : ℕ) → R' ≡ R → T' + y ≡ T + x → d' + R * x + 1 ≤ d + R * y → d' + R' * T' + 1 ≤ d + R * T
move_due d d' R R' T T' x y e t p =
    let a : R * T' + R * y ≡ R * T + R * x = sym (mul-add R T' y) ∙ ap (λ (i : ℕ). R * i) t ∙ mul-add R T x in
    subst (λ (i : ℕ). d' + i * T' + 1 ≤ d + R * T) (sym e) (omega arith)

core_called : (e : Ended) → core_of e ≡ caller (call_of e)
core_called (Loaded c a b) = refl
core_called (Stored c a b) = refl
core_called (Acquired c) = refl
core_called (Released c) = refl
core_called (Evicted c l) = refl

module _ (M : Machine) (mean : Meaning M) where
  abbrev above : Pile M.State → Moment
  above p = moment_over (M.moment p.below) p.buffers

  -- What holds of every reached state: below it is reached, and each core's entries and waiting are sound.
  pub record Inv (p : Pile M.State) : Type 0 where
    pub reached : Reached M p.below
    pub cores : (c : ℕ) → c < 8 → CoreSound c (p.buffers c).entries (p.buffers c).pending ((M.moment p.below).waits c)

  -- The state after one core's buffer became b.
  abbrev with_buffer : Pile M.State → ℕ → Buffer → M.State → Pile M.State
  with_buffer p c b t = record { below = t; buffers = put p.buffers c b }

  inv_put : (p : Pile M.State) (c : ℕ) (b : Buffer) (t : M.State) → Inv p → Reached M t → ((d : ℕ) → d < 8 → (d ≡ c → ⊥) → (M.moment t).waits d ≡ (M.moment p.below).waits d) → CoreSound c b.entries b.pending ((M.moment t).waits c) → Inv (with_buffer p c b t)
  inv_put p c b t i r o h = record { reached = r; cores = λ d l. go d l (cases_eq d c) }
    where
      go : (d : ℕ) → d < 8 → (d ≡ c) ⊎ (d ≡ c → ⊥) → CoreSound d (put p.buffers c b d).entries (put p.buffers c b d).pending ((M.moment t).waits d)
      go d l (inl e) =
          subst (λ (x : ℕ). CoreSound x (put p.buffers c b x).entries (put p.buffers c b x).pending ((M.moment t).waits x)) (sym e)
          (subst (λ (x : Buffer). CoreSound c x.entries x.pending ((M.moment t).waits c)) (sym (put_here p.buffers c b)) h)
      go d l (inr n) =
          subst (λ (x : Buffer). CoreSound d x.entries x.pending ((M.moment t).waits d)) (sym (put_other p.buffers c b d n))
          (subst (CoreSound d (p.buffers d).entries (p.buffers d).pending) (sym (o d l n)) (i.cores d l))

  -- What is owed of a step.
  pub record Kept (p : Pile M.State) (k : Step) (r : Reply) (t : Pile M.State) : Type 0 where
    pub refused : (e : Refusal) → refused_in (above p) k ≡ Some e → (r ≡ Refused e) × (t ≡ p)
    pub accepted : refused_in (above p) k ≡ None → Accepted k (above p) (above t) r
    pub again : Inv t
    pub reach : (above t).reach ≡ (above p).reach

  abbrev Keeps : Pile M.State → Step → Reply × (ℕ → Buffer) → M.State → Type 0
  Keeps p k x t = Kept p k x.0 (record { below = t; buffers = x.1 })

  waits_there : (p : Pile M.State) (c : ℕ) (b : Buffer) {w : Option Step} → b.pending ≡ w → (put p.buffers c b c).pending ≡ w
  waits_there p c b h = ap (λ (x : Buffer). x.pending) (put_here p.buffers c b) ∙ h

  waits_else : (p : Pile M.State) (c : ℕ) (b : Buffer) (d : ℕ) → (d ≡ c → ⊥) → (put p.buffers c b d).pending ≡ (p.buffers d).pending
  waits_else p c b d n = ap (λ (x : Buffer). x.pending) (put_other p.buffers c b d n)

  waits_stay : (p : Pile M.State) (c : ℕ) (b : Buffer) → b.pending ≡ (p.buffers c).pending → (d : ℕ) → (put p.buffers c b d).pending ≡ (p.buffers d).pending
  waits_stay p c b h d = go (cases_eq d c)
    where
      go : (d ≡ c) ⊎ (d ≡ c → ⊥) → (put p.buffers c b d).pending ≡ (p.buffers d).pending
      go (inl e) = subst (λ (x : ℕ). (put p.buffers c b x).pending ≡ (p.buffers x).pending) (sym e) (waits_there p c b h)
      go (inr n) = waits_else p c b d n

  -- A core's work, seen from above.
  lift_call : (p : Pile M.State) (k : Step) (n : ℕ) (r : Reply) (b : Buffer) (t : M.State) → caller k < 8 → (p.buffers (caller k)).pending ≡ None → n ≤ 5 → Worked M mean (caller k) k n p.below (p.buffers (caller k)).entries r b t → Called k (above p) (above (with_buffer p (caller k) b t)) r
  lift_call p k n r b t lc free l w = go r w.outcome
    where
      paid : (above (with_buffer p (caller k) b t)).due ≤ (above p).due + (above p).reach
      paid =
          call_due (M.moment p.below).due (M.moment t).due (M.moment p.below).reach (M.moment t).reach (total 8 (λ d. calls_left (p.buffers d))) (total 8 (λ d. calls_left (put p.buffers (caller k) b d))) (calls_left b) (calls_left (p.buffers (caller k))) n
          w.reach (ap (λ (x : Option Step). calls_left (record { entries = (p.buffers (caller k)).entries; pending = x })) free) (left_changed p.buffers (caller k) b lc) w.paid l

      go : (r : Reply) → Outcome M mean (caller k) k p.below (p.buffers (caller k)).entries b t r → Called k (above p) (above (with_buffer p (caller k) b t)) r
      go (Refused x) o = o
      go Waits o =
          record {
            can_wait = o.0;
            drifts = o.2 (λ d. (p.buffers d).entries) (λ d. (put p.buffers (caller k) b d).entries) (around p.buffers (caller k) b);
            waiting = record { there = waits_there p (caller k) b o.1; elsewhere = λ d i j. waits_else p (caller k) b d j };
            paid = paid;
          }
      go (AtOnce e) o =
          record {
            same = o.0;
            brings = o.2 (λ d. (p.buffers d).entries) (λ d. (put p.buffers (caller k) b d).entries) (around p.buffers (caller k) b);
            waiting = λ d i. waits_stay p (caller k) b (o.1 ∙ sym free) d;
            paid = paid;
          }
      go Moved o = o
      go (Finished e) o = o

  -- A move that let the call k of core c go on, seen from above.
  lift_move : (p : Pile M.State) (c : ℕ) (k : Step) (r : Reply) (b : Buffer) (t : M.State) → c < 8 → caller k ≡ c → (p.buffers c).pending ≡ Some k → WentOn M mean c k p.below (p.buffers c).entries r b t → Delivered (above p) (above (with_buffer p c b t)) r
  lift_move p c k r b t lc ck wk w = go r w.outcome
    where
      falls : (above (with_buffer p c b t)).due + 1 ≤ (above p).due
      falls =
          move_due (M.moment p.below).due (M.moment t).due (M.moment p.below).reach (M.moment t).reach (total 8 (λ d. calls_left (p.buffers d))) (total 8 (λ d. calls_left (put p.buffers c b d))) (calls_left b) (calls_left (p.buffers c))
          w.reach (left_changed p.buffers c b lc)
          (subst (λ (x : Option Step). (M.moment t).due + (M.moment p.below).reach * calls_left b + 1 ≤ (M.moment p.below).due + (M.moment p.below).reach * calls_left (record { entries = (p.buffers c).entries; pending = x })) (sym wk) w.falls)

      go : (r : Reply) → MovedOutcome M mean c k p.below (p.buffers c).entries b t r → Delivered (above p) (above (with_buffer p c b t)) r
      go (Refused x) o = o
      go Waits o = o
      go (AtOnce e) o = o
      go Moved o =
          record {
            drifts = o.1 (λ d. (p.buffers d).entries) (λ d. (put p.buffers c b d).entries) (around p.buffers c b);
            waiting = λ d i. waits_stay p c b (o.0 ∙ sym wk) d;
            falls = falls;
          }
      go (Finished e) o =
          let ce : core_of e ≡ c = core_called e ∙ ap caller o.0 ∙ ck in
          record {
            core = rw ce lc;
            waited = ap (λ (x : ℕ). (p.buffers x).pending) ce ∙ wk ∙ ap (λ (x : Step). Some x) (sym o.0);
            brings = o.2 (λ d. (p.buffers d).entries) (λ d. (put p.buffers c b d).entries) (around p.buffers c b);
            waiting =
                record {
                  there = ap (λ (x : ℕ). (put p.buffers c b x).pending) ce ∙ waits_there p c b o.1;
                  elsewhere = λ d i j. waits_else p c b d (λ q. j (q ∙ sym ce));
                };
            falls = falls;
          }

  idle_core : (p : Pile M.State) (c : ℕ) → Inv p → c < 8 → (p.buffers c).pending ≡ None → Idle M mean c p.below (p.buffers c).entries
  idle_core p c i l h =
      let s = i.cores c l in
      record { ready = record { reached = i.reached; core = l; free = s.same ∙ ap (call_below (p.buffers c).entries) h }; sound = s.sound; few = s.few }

  -- A core call: refused as tabled, or its work.
  call_kept : (p : Pile M.State) (k : Step) (n : ℕ) (work : List Entry → Work) → Inv p → refused_in (above p) k ≡ turned_down p.buffers k → ((m n : Moment) (r : Reply) → Called k m n r → Accepted k m n r) → (turned_down p.buffers k ≡ None → (caller k < 8) × ((p.buffers (caller k)).pending ≡ None)) → n ≤ 5
      → (turned_down p.buffers k ≡ None → Idle M mean (caller k) p.below (p.buffers (caller k)).entries → Always M.steps (work (p.buffers (caller k)).entries) p.below (Works M mean (caller k) k n p.below (p.buffers (caller k)).entries))
      → Always M.steps (core_call p.buffers k work) p.below (Keeps p k)
  call_kept p k n work i tab as_call ready l worked = go (turned_down p.buffers k) refl
    where
      go : (o : Option Refusal) → turned_down p.buffers k ≡ o → Always M.steps (unless o p.buffers (of_core p.buffers (caller k) (work (p.buffers (caller k)).entries))) p.below (Keeps p k)
      go (Some e) h =
          record {
            refused = λ x g. (let z : e ≡ x = cc in ap Refused z, refl);
            accepted = λ g. absurd (cc);
            again = i;
            reach = refl;
          }
      go None h =
          always_after M.steps (λ x. (x.0, put p.buffers (caller k) x.1)) (Keeps p k) (work (p.buffers (caller k)).entries) p.below
          (always_so M.steps (work (p.buffers (caller k)).entries) p.below
          (λ x t w.
          record {
            refused = λ e g. absurd (cc);
            accepted = λ g. as_call (above p) (above (with_buffer p (caller k) x.1 t)) x.0 (lift_call p k n x.0 x.1 t (ready h).0 (ready h).1 l w);
            again = inv_put p (caller k) x.1 t i w.reached w.others w.sound;
            reach = ap (λ (R : ℕ). 5 * R + 5) w.reach;
          })
          (worked h (idle_core p (caller k) i (ready h).0 (ready h).1)))

  -- A move that ends the call e below.
  ended_kept : (p : Pile M.State) (q : ℕ) (u : M.State) (e : Ended) → Inv p → refused_in (above p) (Move q) ≡ None → Reached M u → (M.moment u).reach ≡ (M.moment p.below).reach → Finishes e (M.moment p.below) (M.moment u) → Always M.steps (after_move p.buffers (Finished e)) u (Keeps p (Move q))
  ended_kept p q u e i g ru re f =
      subst (λ (t : Bool). Always M.steps (cond t (of_core p.buffers (core_of e) (ended_below e (p.buffers (core_of e)) (p.buffers (core_of e)).pending)) (Script.done (Finished e, p.buffers))) u (Keeps p (Move q))) (sym (lt-ltb (core_of e) 8 f.core))
      (always_after M.steps (λ x. (x.0, put p.buffers (core_of e) x.1)) (Keeps p (Move q)) (ended_below e (p.buffers (core_of e)) (p.buffers (core_of e)).pending) u
      (go (p.buffers (core_of e)).pending refl (i.cores (core_of e) f.core)))
    where
      freed : Freed M mean (core_of e) p.below u
      freed = record { reached = ru; core = f.core; reach = re; others = f.waiting.elsewhere; free = f.waiting.there; falls = f.falls }

      go : (w : Option Step) → (p.buffers (core_of e)).pending ≡ w → CoreSound (core_of e) (p.buffers (core_of e)).entries w ((M.moment p.below).waits (core_of e)) → Always M.steps (ended_below e (p.buffers (core_of e)) w) u (λ x t. Keeps p (Move q) (x.0, put p.buffers (core_of e) x.1) t)
      go None h s = absurd (cc)
      go (Some k) h s =
          always_so M.steps (ended_below e (p.buffers (core_of e)) (Some k)) u
          (λ x t w.
          record {
            refused = λ y z. absurd (cc);
            accepted = λ z. lift_move p (core_of e) k x.0 x.1 t f.core (own_call (core_of e) (p.buffers (core_of e)).entries k s.fine) h w;
            again = inv_put p (core_of e) x.1 t i w.reached w.others w.sound;
            reach = ap (λ (R : ℕ). 5 * R + 5) w.reach;
          })
          (goes_on_worked M mean (core_of e) e (p.buffers (core_of e)).entries k freed s f.waited f.brings)

  -- A move: as below, and what follows where it ended a call.
  move_kept : (p : Pile M.State) (q : ℕ) → Inv p → q < 256 → Always M.steps (step_of p.buffers (Move q)) p.below (Keeps p (Move q))
  move_kept p q i l r u e = go (refused_in (M.moment p.below) (Move q)) refl
    where
      taken : Possible M p.below (Move q) r u
      taken = record { reached = i.reached; fit = l; step = e }

      ru : Reached M u
      ru = stepped i.reached l e

      re : (M.moment u).reach ≡ (M.moment p.below).reach
      re = mean.reach_stays p.below (Move q) r u taken

      -- nothing but the state below has changed, and no core's waiting there
      same_buffers : ((d : ℕ) → d < 8 → (M.moment u).waits d ≡ (M.moment p.below).waits d) → Inv (record { below = u; buffers = p.buffers })
      same_buffers w = record { reached = ru; cores = λ d k. subst (CoreSound d (p.buffers d).entries (p.buffers d).pending) (sym (w d k)) (i.cores d k) }

      by_reply : (r : Reply) → refused_in (above p) (Move q) ≡ None → Delivered (M.moment p.below) (M.moment u) r → Always M.steps (after_move p.buffers r) u (Keeps p (Move q))
      by_reply (Refused x) g d = absurd d
      by_reply Waits g d = absurd d
      by_reply (AtOnce x) g d = absurd d
      by_reply Moved g d =
          record {
            refused = λ y z. absurd (cc);
            accepted = λ z.
                record {
                  drifts = over_drifts (λ c. (p.buffers c).entries) d.drifts;
                  waiting = λ c k. refl;
                  falls = subst (λ (R : ℕ). (M.moment u).due + R * total 8 (λ c. calls_left (p.buffers c)) + 1 ≤ (above p).due) (sym re) (let f = d.falls in omega arith);
                };
            again = same_buffers d.waiting;
            reach = ap (λ (R : ℕ). 5 * R + 5) re;
          }
      by_reply (Finished x) g d = ended_kept p q u x i g ru re d

      go : (o : Option Refusal) → refused_in (M.moment p.below) (Move q) ≡ o → Always M.steps (after_move p.buffers r) u (Keeps p (Move q))
      go (Some x) h =
          let b = mean.refuses p.below (Move q) r u taken x h in
          subst (λ (y : Reply). Always M.steps (after_move p.buffers y) u (Keeps p (Move q))) (sym b.0)
          (subst (λ (v : M.State). Kept p (Move q) (Refused x) (record { below = v; buffers = p.buffers })) (sym b.1)
          (record {
            refused = λ y z. (let k : x ≡ y = cc in ap Refused k, refl);
            accepted = λ z. absurd (cc);
            again = i;
            reach = refl;
          }))
      go None h = by_reply r h (mean.accepts p.below (Move q) r u taken h)

  -- Every step.
  step_kept : (p : Pile M.State) (k : Step) → Inv p → Fit k → Always M.steps (step_of p.buffers k) p.below (Keeps p k)
  step_kept p (Load c a) i f =
      call_kept p (Load c a) 1 (load c a) i refl (λ m n r h. h) (λ h. let x = place_passed c 64 a (p.buffers c).pending h in (x.0, x.1)) (omega arith)
      (λ h g. let x = place_passed c 64 a (p.buffers c).pending h in load_worked M mean c a p.below (p.buffers c).entries x.0 x.2 g)
  step_kept p (Store c a b) i f =
      call_kept p (Store c a b) 1 (store c a b) i refl (λ m n r h. h) (λ h. let x = place_passed c 64 a (p.buffers c).pending h in (x.0, x.1)) (omega arith)
      (λ h g. store_worked M mean c a b p.below (p.buffers c).entries (place_passed c 64 a (p.buffers c).pending h).2 f.2 g)
  step_kept p (Acquire c) i f =
      call_kept p (Acquire c) 1 (straight (Acquire c)) i refl (λ m n r h. h) (core_passed c (p.buffers c).pending) (omega arith)
      (λ h g. acquire_worked M mean c p.below (p.buffers c).entries g.ready.core g)
  step_kept p (Release c) i f =
      call_kept p (Release c) 5 (release c) i refl (λ m n r h. h) (core_passed c (p.buffers c).pending) (omega arith)
      (λ h g.
      always_so M.steps (release c (p.buffers c).entries) p.below (λ x t w. worked_within M mean 5 x.0 (let l = g.few in omega arith) w)
      (release_worked M mean c (p.buffers c).entries p.below g.ready.core g))
  step_kept p (Evict c l) i f =
      call_kept p (Evict c l) 1 (straight (Evict c l)) i refl (λ m n r h. h) (λ h. let x = place_passed c 8 l (p.buffers c).pending h in (x.0, x.1)) (omega arith)
      (λ h g. let x = place_passed c 8 l (p.buffers c).pending h in evict_worked M mean c l p.below (p.buffers c).entries x.0 x.2 g)
  step_kept p (Move q) i f = move_kept p q i f

  -- From a clear on.
  fresh_inv : (p : Pile M.State) → (buffered M).fresh p → Inv p
  fresh_inv p h =
      record {
        reached = cleared h.0;
        cores = λ c l.
            subst (λ (bs : ℕ → Buffer). CoreSound c (bs c).entries (bs c).pending ((M.moment p.below).waits c)) (sym h.1)
            (record { sound = tt; few = omega arith; fine = tt; same = (mean.clears p.below h.0).no_wait c l });
      }

  kept : (p : Pile M.State) (k : Step) (r : Reply) (t : Pile M.State) → Inv p → Fit k → (buffered M).steps p k r t → Kept p k r t
  kept p k r t i f e = always_runs M.steps (Keeps p k) e (step_kept p k i f)

  pub reached_inv : {p : Pile M.State} → Reached (buffered M) p → Inv p
  reached_inv (cleared {s} h) = fresh_inv s h
  reached_inv (stepped {s} {t} {k} {r} h f e) = (kept s k r t (reached_inv h) f e).again

  possible_kept : (p : Pile M.State) (k : Step) (r : Reply) (t : Pile M.State) → Possible (buffered M) p k r t → Kept p k r t
  possible_kept p k r t h = kept p k r t (reached_inv h.reached) h.fit h.step

  clear_above : (p : Pile M.State) → (buffered M).fresh p → Cleared (above p)
  clear_above p h =
      let b = mean.clears p.below h.0 in
      subst (λ (bs : ℕ → Buffer). Cleared (moment_over (M.moment p.below) bs)) (sym h.1)
      (record {
        sees_zero = b.sees_zero;
        home_zero = b.home_zero;
        no_debt = b.no_debt;
        no_wait = λ c l. refl;
        none_open = b.none_open;
        due_zero = let z = b.due_zero in omega arith;
      })

  bytes_above : (p : Pile M.State) → Inv p → Bytes (above p).view
  bytes_above p i = record { seen = λ c a l k. go c a k (found a (p.buffers c).entries) refl (i.cores c l).sound (b.seen c a l k); at_home = b.at_home }
    where
      b : Bytes (M.moment p.below).view
      b = mean.bytes p.below i.reached

      go : (c a : ℕ) → a < 64 → (o : Option ℕ) → found a (p.buffers c).entries ≡ o → Sound (p.buffers c).entries → (M.moment p.below).view.sees c a < 256 → seen o ((M.moment p.below).view.sees c a) < 256
      go c a k None f s l = l
      go c a k (Some x) f s l = found_byte a x (p.buffers c).entries s f

  first_above : (p : Pile M.State) (q : ℕ) (o : Option ℕ) → FirstOpen (M.moment p.below) q o → FirstOpen (above p) q o
  first_above p q None h = h
  first_above p q (Some x) h = h

  pub buffered_keeps : Meaning (buffered M)
  buffered_keeps =
      record {
        clears = clear_above;
        refuses = λ p k r t h e. (possible_kept p k r t h).refused e;
        accepts = λ p k r t h. (possible_kept p k r t h).accepted;
        reach_stays = λ p k r t h. (possible_kept p k r t h).reach;
        idle = λ p h shut c l.
            let i = reached_inv h in
            none_below (p.buffers c).entries (p.buffers c).pending (sym (i.cores c l).same ∙ mean.idle p.below i.reached shut c l);
        bytes = λ p h. bytes_above p (reached_inv h);
        image = λ p a r h. mean.image p.below a r (reached_inv h).reached;
        next = λ p q o h e. first_above p q o (mean.next p.below q o (reached_inv h).reached e);
      }
