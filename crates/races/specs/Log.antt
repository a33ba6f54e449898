-- The call log of a study, fed with each step and its answer.
use Rattle.std.specs.Prelude.{ℕ, ◌+◌, cond, List, [], ◌∷◌, Some, None, Option, ◌==◌}
use Rattle.protocol.specs.declared.steps.Step.{Step}
use Rattle.protocol.specs.declared.steps.Step.TheVariants.{Load, Store, Acquire, Release, Evict, Move}
use Rattle.protocol.specs.declared.steps.Ended.{Ended}
use Rattle.protocol.specs.declared.steps.Ended.TheVariants.{Loaded, Stored, Acquired, Released, Evicted}
use Rattle.protocol.specs.declared.steps.Reply.{Reply}
use Rattle.protocol.specs.declared.steps.Reply.TheVariants.{Refused, Waits, Ended as AtOnce, Moved, Finished}
use Rattle.protocol.specs.Steps.{core_of, caller}

-- ended: the ended core calls, with their fields and a load's answered byte, the newest first.
-- pending: for each core its pending call, or none.
-- calls and moves: how many core calls and how many moves were accepted, that is, not refused.
pub record Log : Type 0 where
  pub ended : List Ended
  pub pending : ℕ → Option Step
  pub calls : ℕ
  pub moves : ℕ

-- It starts empty, with both counts 0.
abbrev pub empty_log : Log
empty_log = record { ended = []; pending = λ _. None; calls = 0; moves = 0 }

-- The pending calls where that of core c becomes w.
abbrev pub becomes : (ℕ → Option Step) → ℕ → Option Step → ℕ → Option Step
becomes f c w d = cond (d == c) w (f d)

-- The byte that an ended load answered.
abbrev pub answered : Ended → ℕ
answered (Loaded c a b) = b
answered (Stored c a b) = 0
answered (Acquired c) = 0
answered (Released c) = 0
answered (Evicted c l) = 0

-- A core call as it is added when it ends, a load with the byte that was answered. A move is no core call.
abbrev pub as_ended : Step → ℕ → List Ended → List Ended
as_ended (Load c a) r l = Loaded c a r ∷ l
as_ended (Store c a b) r l = Stored c a b ∷ l
as_ended (Acquire c) r l = Acquired c ∷ l
as_ended (Release c) r l = Released c ∷ l
as_ended (Evict c n) r l = Evicted c n ∷ l
as_ended (Move p) r l = l

-- A pending call, if there is one, as it is added.
abbrev pub pending_ended : Option Step → ℕ → List Ended → List Ended
pending_ended None r l = l
pending_ended (Some k) r l = as_ended k r l

-- A refusal changes nothing. An accepted core call is counted, and is added if it ended, pending if it waits. An accepted move is
-- counted; if it ends a core's call, that core's pending call is added and is pending no more.
abbrev pub feed : Log → Step → Reply → Log
feed log k (Refused e) = log
feed log k Waits = record { ended = log.ended; pending = becomes log.pending (caller k) (Some k); calls = log.calls + 1; moves = log.moves }
feed log k (AtOnce e) = record { ended = as_ended k (answered e) log.ended; pending = log.pending; calls = log.calls + 1; moves = log.moves }
feed log k Moved = record { ended = log.ended; pending = log.pending; calls = log.calls; moves = log.moves + 1 }
feed log k (Finished e) =
    record {
      ended = pending_ended (log.pending (core_of e)) (answered e) log.ended;
      pending = becomes log.pending (core_of e) None;
      calls = log.calls;
      moves = log.moves + 1;
    }
