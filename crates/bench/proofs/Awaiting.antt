-- A core call that is waited for: the moves of a settling end it, and no other call.
use Rattle.std.proofs.Common.{◌≡◌, ℕ, ◌+◌, ◌*◌, ◌<◌, ◌≤◌, Bool, true, false, cond, leb, List, ◌∷◌, length, take, drop, Some, None, Option, sym, refl, ap, ◌∙◌, subst, ⊎_elim, arith}
use Rattle.std.proofs.lemmas.List.{take_at}
use Rattle.std.proofs.lemmas.Bool.{cases_eq, cases_lt, leb-false}
use Rattle.protocol.specs.declared.steps.Step.{Step}
use Rattle.protocol.specs.declared.steps.Step.TheVariants.{Load, Store, Acquire, Release, Evict, Move}
use Rattle.protocol.specs.declared.steps.Ended.{Ended}
use Rattle.protocol.specs.declared.steps.Refusal.{Refusal}
use Rattle.protocol.specs.declared.steps.Reply.{Reply}
use Rattle.protocol.specs.declared.steps.Reply.TheVariants.{Refused as TurnedDown, Waits as IsWaiting, Ended as AtOnce, Moved as WasMoved, Finished as WithMove}
use Rattle.protocol.specs.Moment.{Moment}
use Rattle.protocol.specs.Steps.{call_of, core_of, caller}
use Rattle.protocol.specs.Meaning.{Machine, Meaning, Reached, Possible, CanWait, Begins, Called, Delivered, Accepted, refused_in}
use Rattle.races.specs.declared.outcomes.Outcome.{Outcome}
use Rattle.races.specs.declared.outcomes.Outcome.TheVariants.{Refused, Waits, Ended as HasEnded, Moved, Finished}
use Rattle.races.specs.declared.table.RaceTable.{RaceTable}
use Rattle.races.specs.Log.{Log, feed}
use Rattle.races.specs.Table.{reply_of}
use Rattle.races.specs.Study.{Watched, Takes}
use Rattle.races.proofs.StudyLaw.{study_kept, fed_step, ended_after}
use Rattle.bench.specs.Chains.{Chain, nothing, then, FirstPlace, logged, Settled}
use Rattle.bench.specs.Handovers.{finished_call, else_later, first_finished, Quiet, CallAwaited}
use Rattle.bench.proofs.RunsOut.{place_delivered, settled_runs_out}

-- Only the call k is waited for.
record Only (k : Step) (m : Moment) : Type 0 where
  core : caller k < 8
  there : m.waits (caller k) ≡ Some k
  elsewhere : (d : ℕ) → d < 8 → (d ≡ caller k → ⊥) → m.waits d ≡ None

-- After the calls xs, k is waited for, or has ended; the ended calls are ys.
abbrev Stands : Step → List Ended → Moment → List Ended → Option Ended → Type 0
Stands k xs m ys None = (Only k m) × (ys ≡ xs)
Stands k xs m ys (Some x) = (call_of x ≡ k) × ((c : ℕ) → c < 8 → m.waits c ≡ None) × (ys ≡ x ∷ xs)

-- A call that is ended, where only k is waited for, is k.
is_only : (k : Step) (x : Ended) (m : Moment) → core_of x < 8 → m.waits (core_of x) ≡ Some (call_of x) → Only k m → (core_of x ≡ caller k) × (call_of x ≡ k)
is_only k x m l h o =
    ⊎_elim (λ (e : core_of x ≡ caller k). (e, (let a = o.there in let b = ap m.waits e in cc)))
    (λ (e : core_of x ≡ caller k → ⊥). let a = o.elsewhere (core_of x) l e in let z : ◌≡◌ {A = ℕ} 0 1 = cc in absurd (omega arith))
    (cases_eq (core_of x) (caller k))

-- A move ends the call that is waited for, or none.
stands_moved : (k : Step) (xs : List Ended) (m n : Moment) (ys zs : List Ended) (o : Option Ended) (r : Outcome) → Delivered m n (reply_of r) → zs ≡ ended_after (reply_of r) ys → Stands k xs m ys o → Stands k xs n zs (else_later o (finished_call r))
stands_moved k xs m n ys zs o (Refused e) d f h = absurd d
stands_moved k xs m n ys zs o Waits d f h = absurd d
stands_moved k xs m n ys zs o (HasEnded x race) d f h = absurd d
stands_moved k xs m n ys zs None Moved d f (o, e) =
    (record { core = o.core; there = d.waiting (caller k) o.core ∙ o.there; elsewhere = λ c l q. d.waiting c l ∙ o.elsewhere c l q }, f ∙ e)
stands_moved k xs m n ys zs (Some x) Moved d f (s, i, e) = (s, (λ c l. d.waiting c l ∙ i c l), f ∙ e)
stands_moved k xs m n ys zs None (Finished x race) d f (o, e) =
    let is = is_only k x m d.core d.waited o in (
      is.1,
      (λ c l. ⊎_elim (λ (q : c ≡ core_of x). ap n.waits q ∙ d.waiting.there) (λ (q : c ≡ core_of x → ⊥). d.waiting.elsewhere c l q ∙ o.elsewhere c l (λ p. q (p ∙ sym is.0))) (cases_eq c (core_of x))),
      f ∙ ap (λ (z : List Ended). x ∷ z) e,
    )
stands_moved k xs m n ys zs (Some y) (Finished x race) d f (s, i, e) =
    let a = i (core_of x) d.core in let b = d.waited in let z : ◌≡◌ {A = ℕ} 0 1 = cc in absurd (omega arith)

-- The core of an accepted call is below 8.
core_below : (c : ℕ) (e : Refusal) (o : Option Refusal) → cond (leb 8 c) (Some e) o ≡ None → c < 8
core_below c e o h = go (leb 8 c) refl h
  where
    go : (t : Bool) → leb 8 c ≡ t → cond t (Some e) o ≡ None → c < 8
    go true q h = let z : ◌≡◌ {A = ℕ} 0 1 = cc in absurd (omega arith)
    go false q h = leb-false 8 c q

caller_below : (m : Moment) (k : Step) → CanWait k → refused_in m k ≡ None → caller k < 8
caller_below m (Load c a) i h = core_below c _ _ h
caller_below m (Store c a b) i h = core_below c _ _ h
caller_below m (Acquire c) i h = core_below c _ _ h
caller_below m (Release c) i h = core_below c _ _ h
caller_below m (Evict c l) i h = absurd i
caller_below m (Move p) i h = absurd i

-- What is accepted of such a call.
call_accepted : (m n : Moment) (k : Step) (r : Reply) → CanWait k → Accepted k m n r → Called k m n r
call_accepted m n (Load c a) r i h = h
call_accepted m n (Store c a b) r i h = h
call_accepted m n (Acquire c) r i h = h
call_accepted m n (Release c) r i h = h
call_accepted m n (Evict c l) r i h = absurd i
call_accepted m n (Move p) r i h = absurd i

-- A move is no call.
moves_only : (m n : Moment) (log : Log) (k : Step) (r : Reply) → Delivered m n r → (feed log k r).calls ≡ log.calls
moves_only m n log k (TurnedDown e) h = absurd h
moves_only m n log k IsWaiting h = absurd h
moves_only m n log k (AtOnce x) h = absurd h
moves_only m n log k WasMoved h = refl
moves_only m n log k (WithMove x) h = refl

more_room : (calls moves reach reach' n room : ℕ) → calls ≡ n → reach' ≡ reach → (n + 1) * reach' < room → (calls + 1) * reach < moves + room
more_room calls moves reach reach' n room e f l =
    let l' : (n + 1) * reach < room = subst (λ (z : ℕ). (n + 1) * z < room) f l in
    subst (λ (z : ℕ). (z + 1) * reach < moves + room) (sym e) (omega arith)

module _ (M : Machine) (means : Meaning M) where
  reached : {s : M.State} {w : RaceTable} {log : Log} → Watched M s w log → Reached M s
  reached h = (study_kept M means h.study).reached

  ended_fed : {s t : M.State} {w v : RaceTable} {k : Step} {r : Outcome} (log : Log) → Watched M s w log → Takes M s w k r t v → (feed log k (reply_of r)).ended ≡ ended_after (reply_of r) log.ended
  ended_fed {s} {t} {w} {v} {k} {r} log h g = fed_step M means s k (reply_of r) t log (study_kept M means h.study) g.fits g.answers

  possible : {s t : M.State} {w v : RaceTable} {k : Step} {r : Outcome} (log : Log) → Watched M s w log → Takes M s w k r t v → Possible M s k (reply_of r) t
  possible log h g = record { reached = reached h; fit = g.fits; step = g.answers }

  -- A settling goes on from what stands, and makes no call.
  stands_settled : {s t : M.State} {w v : RaceTable} {ks : List Step} {rs : List Outcome} (k : Step) (xs : List Ended) (o : Option Ended) (log : Log) → Chain M (FirstPlace M) s w ks rs t v → Watched M s w log → Stands k xs (M.moment s) log.ended o → Stands k xs (M.moment t) (logged log ks rs).ended (else_later o (first_finished rs))
  stands_settled k xs None log nothing h a = a
  stands_settled k xs (Some x) log nothing h a = a
  stands_settled k xs None log (then {s} {t} {k = j} {r = r} c g l) h a =
      stands_settled k xs (finished_call r) (feed log j (reply_of r)) l (g.carries log h) (stands_moved k xs (M.moment s) (M.moment t) log.ended _ None r (place_delivered M means (reached h) c g) (ended_fed log h g) a)
  stands_settled k xs (Some x) log (then {s} {t} {k = j} {r = r} c g l) h a =
      stands_settled k xs (Some x) (feed log j (reply_of r)) l (g.carries log h) (stands_moved k xs (M.moment s) (M.moment t) log.ended _ (Some x) r (place_delivered M means (reached h) c g) (ended_fed log h g) a)

  calls_settled : {s t : M.State} {w v : RaceTable} {ks : List Step} {rs : List Outcome} (log : Log) → Chain M (FirstPlace M) s w ks rs t v → Watched M s w log → (logged log ks rs).calls ≡ log.calls
  calls_settled log nothing h = refl
  calls_settled log (then {s} {t} {k = j} {r = r} c g l) h = calls_settled (feed log j (reply_of r)) l (g.carries log h) ∙ moves_only (M.moment s) (M.moment t) log j (reply_of r) (place_delivered M means (reached h) c g)

  reach_settled : {s t : M.State} {w v : RaceTable} {ks : List Step} {rs : List Outcome} (log : Log) → Chain M (FirstPlace M) s w ks rs t v → Watched M s w log → (M.moment t).reach ≡ (M.moment s).reach
  reach_settled log nothing h = refl
  reach_settled log (then {s} {t} {k = j} {r = r} c g l) h = reach_settled (feed log j (reply_of r)) l (g.carries log h) ∙ means.reach_stays s j (reply_of r) t (possible log h g)

  -- An answer that is no refusal was accepted.
  not_refused : {s t : M.State} {w v : RaceTable} {k : Step} {r : Outcome} (log : Log) → Watched M s w log → Takes M s w k r t v → ((e : Refusal) → reply_of r ≡ TurnedDown e → ⊥) → refused_in (M.moment s) k ≡ None
  not_refused {s} {t} {w} {v} {k} {r} log h g f = go (refused_in (M.moment s) k) refl
    where
      go : (o : Option Refusal) → refused_in (M.moment s) k ≡ o → refused_in (M.moment s) k ≡ None
      go (Some e) q = absurd (f e (means.refuses s k (reply_of r) t (possible log h g) e q).0)
      go None q = q

  called : {s t : M.State} {w v : RaceTable} {k : Step} {r : Outcome} (log : Log) → CanWait k → Watched M s w log → Takes M s w k r t v → refused_in (M.moment s) k ≡ None → Called k (M.moment s) (M.moment t) (reply_of r)
  called {s} {t} {w} {v} {k} {r} log i h g q = call_accepted (M.moment s) (M.moment t) k (reply_of r) i (means.accepts s k (reply_of r) t (possible log h g) q)

  -- The call ended at once.
  pub awaited_at_once : {s t : M.State} {w v : RaceTable} (k : Step) (x : Ended) (race : Bool) (room : ℕ) → CanWait k → Takes M s w k (HasEnded x race) t v → CallAwaited M s w k room (Some x) t v
  awaited_at_once k x race room i g xs q =
      let log = q.log in
      let b = called log i q.watched g (not_refused log q.watched g (λ e p. let z : ◌≡◌ {A = ℕ} 0 1 = cc in omega arith)) in (
        b.same,
        record {
          log = feed log k (AtOnce x);
          watched = g.carries log q.watched;
          ended = ended_fed log q.watched g ∙ ap (λ (z : List Ended). x ∷ z) q.ended;
          calls = let n = q.calls in omega arith;
          no_wait = λ c l. b.waiting c l ∙ q.no_wait c l;
        },
      )

  -- It was refused.
  pub awaited_refused : {s t : M.State} {w v : RaceTable} (k : Step) (r : Outcome) (room : ℕ) → CanWait k → ((x : Ended) (race : Bool) → r ≡ HasEnded x race → ⊥) → (r ≡ Waits → ⊥) → Takes M s w k r t v → CallAwaited M s w k room None t v
  awaited_refused {s} {t} k r room i e w g xs q free = absurd (go r (called q.log i q.watched g free) e w)
    where
      go : (r : Outcome) → Called k (M.moment s) (M.moment t) (reply_of r) → ((x : Ended) (race : Bool) → r ≡ HasEnded x race → ⊥) → (r ≡ Waits → ⊥) → ⊥
      go (Refused c) h e w = h
      go Waits h e w = w refl
      go (HasEnded x race) h e w = e x race refl
      go Moved h e w = h
      go (Finished x race) h e w = h

  -- It waited, and the moves of a settling ended it, or the room was too small.
  pub awaited_settled : {s t u : M.State} {w v y : RaceTable} {out new : List Outcome} {count : ℕ} {still : Bool} (k : Step) (o : Option Ended) → CanWait k → Takes M s w k Waits t v → Settled M t v out count still u y new → o ≡ first_finished (take count new) → CallAwaited M s w k (length out) o u y
  awaited_settled {s} {t} {u} {w} {v} {y} {out} {new} {count} {still} k o i g h e = go o (e ∙ ap first_finished (ap (take count) h.written ∙ take_at h.rs (drop count out) count (sym h.counted)))
    where
      stands : (xs : List Ended) (q : Quiet M s w xs) → Stands k xs (M.moment u) (logged (feed q.log k IsWaiting) h.ks h.rs).ended (first_finished h.rs)
      stands xs q =
          let free = not_refused q.log q.watched g (λ e p. let z : ◌≡◌ {A = ℕ} 0 1 = cc in omega arith) in
          let b : Begins k (M.moment s) (M.moment t) = called q.log i q.watched g free in
          let only : Only k (M.moment t) = record { core = caller_below (M.moment s) k i free; there = b.waiting.there; elsewhere = λ c l n. b.waiting.elsewhere c l n ∙ q.no_wait c l } in
          stands_settled k xs None (feed q.log k IsWaiting) h.chain (g.carries q.log q.watched) (only, q.ended)

      after : {xs : List Ended} (q : Quiet M s w xs) → Watched M t v (feed q.log k IsWaiting)
      after q = g.carries q.log q.watched

      too_small : (xs : List Ended) (q : Quiet M s w xs) → Only k (M.moment u) → length out ≤ (length xs + 1) * (M.moment u).reach
      too_small xs q only =
          ⊎_elim
          (λ (l : (length xs + 1) * (M.moment u).reach < length out).
          let enough = more_room q.log.calls q.log.moves (M.moment t).reach (M.moment u).reach (length xs) (length out) q.calls (reach_settled (feed q.log k IsWaiting) h.chain (after q)) l in
          let none = (settled_runs_out M means h (feed q.log k IsWaiting) (after q) enough).1 (caller k) only.core in
          let some = only.there in
          let z : ◌≡◌ {A = ℕ} 0 1 = cc in
          absurd (omega arith))
          (λ (l : length out ≤ (length xs + 1) * (M.moment u).reach). l)
          (cases_lt ((length xs + 1) * (M.moment u).reach) (length out))

      go : (o : Option Ended) → o ≡ first_finished h.rs → CallAwaited M s w k (length out) o u y
      go (Some x) p = λ xs q.
          let is = subst (Stands k xs (M.moment u) (logged (feed q.log k IsWaiting) h.ks h.rs).ended) (sym p) (stands xs q) in (
            is.0,
            record {
              log = logged (feed q.log k IsWaiting) h.ks h.rs;
              watched = h.carries (feed q.log k IsWaiting) (after q);
              ended = is.2;
              calls = let a = calls_settled (feed q.log k IsWaiting) h.chain (after q) in let n = q.calls in omega arith;
              no_wait = is.1;
            },
          )
      go None p = λ xs q free. too_small xs q (subst (Stands k xs (M.moment u) (logged (feed q.log k IsWaiting) h.ks h.rs).ended) (sym p) (stands xs q)).0
