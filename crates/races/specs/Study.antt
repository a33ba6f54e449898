-- A study: the states and the logs that a set-up and any steps after it, with their answers, lead to.
use Rattle.std.specs.Prelude.{◌≡◌, Bool, false}
use Rattle.protocol.specs.declared.steps.Step.{Step}
use Rattle.protocol.specs.declared.steps.Refusal.{Refusal}
use Rattle.protocol.specs.declared.steps.Reply.{Reply}
use Rattle.protocol.specs.declared.steps.Reply.TheVariants.{Refused, Waits, Ended as AtOnce, Moved, Finished}
use Rattle.protocol.specs.Steps.{Fit}
use Rattle.protocol.specs.Meaning.{Machine}
use Rattle.races.specs.declared.outcomes.Outcome.{Outcome}
use Rattle.races.specs.declared.table.RaceTable.{RaceTable}
use Rattle.races.specs.Log.{Log, empty_log, feed}
use Rattle.races.specs.Races.{races}
use Rattle.races.specs.Table.{table_of, marked, reply_of, mark_of}
use Rattle.races.specs.Guarantee.{Coherent, Counted}

-- Set-up clears the protocol, and the log is empty. Each step with its answer takes the protocol on and is fed to the log.
pub data Study (M : Machine) : M.State → Log → Type 0 where
  set_up : {s : M.State} → M.fresh s → Study M s empty_log
  took : {s t : M.State} {log : Log} {k : Step} {r : Reply} → Study M s log → Fit k → M.steps s k r t → Study M t (feed log k r)

-- A study that a bench is in: its race table is the one that the log's ended calls make.
pub record Watched (M : Machine) (s : M.State) (w : RaceTable) (log : Log) : Type 0 where
  pub study : Study M s log
  pub table : w ≡ table_of log.ended

-- Whether the call that an answer ends races, by the log before it.
abbrev pub ends_race : Log → Reply → Bool
ends_race log (Refused e) = false
ends_race log Waits = false
ends_race log (AtOnce x) = races x log.ended
ends_race log Moved = false
ends_race log (Finished x) = races x log.ended

-- One step of a bench, from the protocol's state s and the table w to t and v, with the outcome r: the answer is the protocol's, with
-- only the mark added; and every study that led here is carried on by it, with a mark exactly if the call that ended races, with
-- nothing changed where the step is refused, and with the guarantee and the log's two numbers after it.
pub record Takes (M : Machine) (s : M.State) (w : RaceTable) (k : Step) (r : Outcome) (t : M.State) (v : RaceTable) : Type 0 where
  pub fits : Fit k
  pub answers : M.steps s k (reply_of r) t
  pub marks : (r, v) ≡ marked w (reply_of r)
  pub carries : (log : Log) → Watched M s w log → Watched M t v (feed log k (reply_of r))
  pub mark_is : (log : Log) → Watched M s w log → mark_of r ≡ ends_race log (reply_of r)
  pub unchanged : (log : Log) → Watched M s w log → (e : Refusal) → reply_of r ≡ Refused e → (t ≡ s) × (v ≡ w)
  pub coherent : (log : Log) → Watched M s w log → Coherent (M.moment t) (feed log k (reply_of r))
  pub counted : (log : Log) → Watched M s w log → Counted v (feed log k (reply_of r))
