-- Messages run out: each move of a settling lowers due, which the accepted core calls have paid for.
use Rattle.std.proofs.Common.{◌≡◌, ℕ, ◌+◌, ◌*◌, ◌<◌, ◌≤◌, Bool, true, false, cond, List, length, is_some, Some, None, Option, sym, refl, ap, ◌∙◌, subst, zero-le, arith}
use Rattle.std.proofs.lemmas.Bool.{true≢false}
use Rattle.protocol.specs.declared.steps.Step.{Step}
use Rattle.protocol.specs.declared.steps.Step.TheVariants.{Move}
use Rattle.protocol.specs.declared.steps.Refusal.TheVariants.{PlaceNotOpen}
use Rattle.protocol.specs.declared.steps.Reply.{Reply}
use Rattle.protocol.specs.declared.steps.Reply.TheVariants.{Refused, Waits, Ended as AtOnce, Moved, Finished}
use Rattle.protocol.specs.Moment.{Moment}
use Rattle.protocol.specs.Steps.{Fit}
use Rattle.protocol.specs.Meaning.{Machine, Meaning, Reached, stepped, Possible, Delivered, FirstOpen}
use Rattle.races.specs.declared.outcomes.Outcome.{Outcome}
use Rattle.races.specs.declared.table.RaceTable.{RaceTable}
use Rattle.races.specs.Log.{Log}
use Rattle.races.specs.Table.{reply_of}
use Rattle.races.specs.Study.{Watched, Takes}
use Rattle.races.proofs.StudyLaw.{study_kept}
use Rattle.bench.specs.Chains.{Chain, nothing, then, FirstPlace, Settled, RunsOut}
use Rattle.bench.proofs.Holding.{holds, chain_carries}

-- An accepted move lowers due.
move_falls : (m n : Moment) (r : Reply) → Delivered m n r → n.due + 1 ≤ m.due
move_falls m n (Refused e) h = absurd h
move_falls m n Waits h = absurd h
move_falls m n (AtOnce e) h = absurd h
move_falls m n Moved h = h.falls
move_falls m n (Finished e) h = h.falls

-- Where there is no first open place, none is open.
none_open : (m : Moment) (o : Option ℕ) → FirstOpen m 0 o → is_some o ≡ false → (p : ℕ) → p < 256 → m.open_at p ≡ false
none_open m None h e p l = h p zero-le l
none_open m (Some q) h e p l = absurd (true≢false e)

-- Less than the room was due, so the room was not used up.
not_full : (b : Bool) (moves due due' paid count room : ℕ) → moves + due ≤ paid → due' + count ≤ due → paid < moves + room → (b ≡ true → count ≡ room) → b ≡ false
not_full true moves due due' paid count room h g l f = let e = f refl in absurd (omega arith)
not_full false moves due due' paid count room h g l f = refl

module _ (M : Machine) (means : Meaning M) where
  -- A settling moves an open place, so its move is accepted.
  pub place_delivered : {s t : M.State} {w v : RaceTable} {k : Step} {r : Outcome} → Reached M s → FirstPlace M s k → Takes M s w k r t v → Delivered (M.moment s) (M.moment t) (reply_of r)
  place_delivered {s} {t} {w} {v} {k} {r} h (p, e, o) g =
      let open_there = (means.next s 0 (Some p) h o).2 in
      let possible : Possible M s (Move p) (reply_of r) t = record { reached = h; fit = subst Fit e g.fits; step = subst (λ (z : Step). M.steps s z (reply_of r) t) e g.answers } in
      means.accepts s (Move p) (reply_of r) t possible (ap (λ (z : Bool). cond z None (Some PlaceNotOpen)) open_there)

  chain_falls : {s t : M.State} {w v : RaceTable} {ks : List Step} {rs : List Outcome} → Reached M s → Chain M (FirstPlace M) s w ks rs t v → (M.moment t).due + length rs ≤ (M.moment s).due
  chain_falls h nothing = omega arith
  chain_falls h (then c g l) = let a = move_falls _ _ _ (place_delivered h c g) in let b = chain_falls (stepped h g.fits g.answers) l in omega arith

  pub runs_out : {s t : M.State} {w v : RaceTable} {ks : List Step} {rs : List Outcome} (room : ℕ) (o : Option ℕ) → Chain M (FirstPlace M) s w ks rs t v → M.opens t 0 o → (is_some o ≡ true → length rs ≡ room) → (log : Log) → Watched M s w log → RunsOut M s log room (is_some o) t
  runs_out {s} {t} {w} {v} {ks} {rs} room o c a f log h l =
      let kept = study_kept M means h.study in
      let after = holds M means t v _ (chain_carries M (FirstPlace M) c log h) in
      let e = not_full (is_some o) log.moves (M.moment s).due (M.moment t).due (log.calls * (M.moment s).reach) (length rs) room kept.paid (chain_falls kept.reached c) l f in
      (e, after.coherent.no_wait (none_open (M.moment t) o (after.opens 0 o a) e))

  pub settled_runs_out : {s t : M.State} {w v : RaceTable} {out new : List Outcome} {count : ℕ} {still : Bool} → Settled M s w out count still t v new → (log : Log) → Watched M s w log → RunsOut M s log (length out) still t
  settled_runs_out {s} {t} {out = out} h log l =
      subst (λ (b : Bool). RunsOut M s log (length out) b t) (sym h.still_is) (runs_out (length out) h.next h.chain h.asked (λ e. sym h.counted ∙ h.full (h.still_is ∙ e)) log l)
