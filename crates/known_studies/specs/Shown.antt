-- Studies by the rules: what a report shows of them, with each mark by the race rule over the call log.
use Rattle.std.specs.Prelude.{ℕ, Bool, true, false, ◌&&◌, List, [], ◌∷◌, ◌++◌, ◌==◌}
use Rattle.protocol.specs.declared.steps.Step.{Step}
use Rattle.protocol.specs.declared.steps.Reply.{Reply}
use Rattle.protocol.specs.declared.steps.Reply.TheVariants.{Refused as TurnedDown, Waits as IsWaiting, Ended as AtOnce, Moved as WasMoved, Finished as WithMove}
use Rattle.races.specs.declared.outcomes.Outcome.{Outcome}
use Rattle.races.specs.declared.outcomes.Outcome.TheVariants.{Refused, Waits, Ended as HasEnded, Moved, Finished}
use Rattle.races.specs.Log.{Log, feed}
use Rattle.races.specs.Races.{races}
use Rattle.report.specs.Lines.{step_line}

-- A reply, with the mark that the log before it gives to the call that it ends.
abbrev pub judged : Log → Reply → Outcome
judged log (TurnedDown e) = Refused e
judged log IsWaiting = Waits
judged log (AtOnce x) = HasEnded x (races x log.ended)
judged log WasMoved = Moved
judged log (WithMove x) = Finished x (races x log.ended)

-- The lines of a study under the rules f, from the state s and the log so far.
abbrev pub lines_of : {S : Type 0} → (S → Step → Reply × S) → S → Log → List Step → List ℕ
lines_of f s log [] = []
lines_of f s log (k ∷ ks) = step_line k (judged log (f s k).0) ++ lines_of f (f s k).1 (feed log k (f s k).0) ks

-- A case: what the rules give, and what is known.
pub record Case : Type 0 where
  pub found : List ℕ
  pub known : List ℕ

abbrev pub same : List ℕ → List ℕ → Bool
same [] [] = true
same [] (y ∷ ys) = false
same (x ∷ xs) [] = false
same (x ∷ xs) (y ∷ ys) = x == y && same xs ys

-- Every case comes out as it is known.
abbrev pub all_known : List Case → Bool
all_known [] = true
all_known (c ∷ cs) = same c.found c.known && all_known cs
