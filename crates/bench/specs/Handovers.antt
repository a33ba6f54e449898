-- One core call that is waited for, and a byte that is handed over from one core to another.
use Rattle.std.specs.Prelude.{◌≡◌, ℕ, ◌+◌, ◌*◌, ◌<◌, ◌≤◌, Bool, List, [], ◌∷◌, length, take, Some, None, Option, ◌≢◌}
use Rattle.protocol.specs.declared.steps.Step.{Step}
use Rattle.protocol.specs.declared.steps.Step.TheVariants.{Load, Store, Acquire, Release}
use Rattle.protocol.specs.declared.steps.Ended.{Ended}
use Rattle.protocol.specs.declared.steps.Ended.TheVariants.{Loaded, Stored, Acquired, Released, Evicted}
use Rattle.protocol.specs.Steps.{call_of}
use Rattle.protocol.specs.Meaning.{Machine, refused_in}
use Rattle.races.specs.declared.outcomes.Outcome.{Outcome}
use Rattle.races.specs.declared.outcomes.Outcome.TheVariants.{Refused, Waits, Ended as HasEnded, Moved, Finished}
use Rattle.races.specs.declared.table.RaceTable.{RaceTable}
use Rattle.races.specs.Log.{Log}
use Rattle.races.specs.Table.{start}
use Rattle.races.specs.Study.{Watched, Takes}
use Rattle.bench.specs.Chains.{Settled}

-- The call that a move has ended, or none.
abbrev pub finished_call : Outcome → Option Ended
finished_call (Refused e) = None
finished_call Waits = None
finished_call (HasEnded x race) = None
finished_call Moved = None
finished_call (Finished x race) = Some x

abbrev pub else_later : Option Ended → Option Ended → Option Ended
else_later (Some x) later = Some x
else_later None later = later

-- The first call that a move has ended, or none.
abbrev pub first_finished : List Outcome → Option Ended
first_finished [] = None
first_finished (r ∷ rs) = else_later (finished_call r) (first_finished rs)

-- A core call k that is waited for, and its answer: it ended at once; or its core waited, and a settling wrote n outcomes; or neither.
pub data Awaits (M : Machine) : M.State → RaceTable → Step → List Outcome → Option Ended → M.State → RaceTable → List Outcome → Type 0 where
  at_once : {s t : M.State} {w v : RaceTable} {k : Step} {x : Ended} {race : Bool} {out : List Outcome} → Takes M s w k (HasEnded x race) t v → Awaits M s w k out (Some x) t v out
  settled : {s t u : M.State} {w v y : RaceTable} {k : Step} {o : Option Ended} {n : ℕ} {still : Bool} {out new : List Outcome} → Takes M s w k Waits u y → Settled M u y out n still t v new → o ≡ first_finished (take n new) → Awaits M s w k out o t v new
  neither : {s t : M.State} {w v : RaceTable} {k : Step} {r : Outcome} {out : List Outcome} → Takes M s w k r t v → ((x : Ended) (race : Bool) → r ≢ HasEnded x race) → (r ≢ Waits) → Awaits M s w k out None t v out

-- Core calls that are waited for, one after the other, up to the first that has not ended; the answer is the last one's.
pub data AwaitsEach (M : Machine) : M.State → RaceTable → List Step → List Outcome → Option Ended → M.State → RaceTable → List Outcome → Type 0 where
  stops : {s t : M.State} {w v : RaceTable} {k : Step} {ks : List Step} {out new : List Outcome} → Awaits M s w k out None t v new → AwaitsEach M s w (k ∷ ks) out None t v new
  ends : {s t : M.State} {w v : RaceTable} {k : Step} {x : Ended} {out new : List Outcome} → Awaits M s w k out (Some x) t v new → AwaitsEach M s w (k ∷ []) out (Some x) t v new
  goes_on : {s t u : M.State} {w v y : RaceTable} {k : Step} {ks : List Step} {x : Ended} {o : Option Ended} {out mid new : List Outcome} → Awaits M s w k out (Some x) t v mid → AwaitsEach M t v ks mid o u y new → AwaitsEach M s w (k ∷ ks) out o u y new

-- A study that a bench is in, where the calls xs have been made and have ended, the newest first, and no core waits.
pub record Quiet (M : Machine) (s : M.State) (w : RaceTable) (xs : List Ended) : Type 0 where
  pub log : Log
  pub watched : Watched M s w log
  pub ended : log.ended ≡ xs
  pub calls : log.calls ≡ length xs
  pub no_wait : (c : ℕ) → c < 8 → (M.moment s).waits c ≡ None

-- A core call k that is waited for, in such a study: it has ended, and no core waits; or it was refused, or the room was not more than the
-- calls times reach.
abbrev pub CallAwaited : (M : Machine) → M.State → RaceTable → Step → ℕ → Option Ended → M.State → RaceTable → Type 0
CallAwaited M s w k room (Some x) t v = (xs : List Ended) → Quiet M s w xs → (call_of x ≡ k) × (Quiet M t v (x ∷ xs))
CallAwaited M s w k room None t v = (xs : List Ended) → Quiet M s w xs → refused_in (M.moment s) k ≡ None → room ≤ (length xs + 1) * (M.moment t).reach

-- The calls of a hand-over, the newest first: core c stores b at a and releases, core d acquires and loads x there.
abbrev pub handover_calls : ℕ → ℕ → ℕ → ℕ → ℕ → List Ended
handover_calls c d a b x = Loaded d a x ∷ (Acquired d ∷ (Released c ∷ (Stored c a b ∷ [])))

-- A hand-over that has been made: these are the calls of the study, and the byte that was loaded is the byte that was stored.
pub record HandedOver (M : Machine) (c d a b x : ℕ) (t : M.State) (v : RaceTable) : Type 0 where
  pub made : Quiet M t v (handover_calls c d a b x)
  pub same : x ≡ b
  pub in_range : (c < 8) × (d < 8) × (a < 64)

-- A hand-over answers the byte that was loaded. It answers none only for a core or an address out of range, or in room that is not more
-- than four times reach.
abbrev pub HandsOver : (M : Machine) → ℕ → ℕ → ℕ → ℕ → ℕ → Option ℕ → M.State → RaceTable → Type 0
HandsOver M c d a b room (Some x) t v = HandedOver M c d a b x t v
HandsOver M c d a b room None t v = c < 8 → d < 8 → a < 64 → room ≤ 4 * (M.moment t).reach

-- The byte of a load, or none.
abbrev pub loaded_byte : Option Ended → Option ℕ
loaded_byte None = None
loaded_byte (Some (Loaded c a b)) = Some b
loaded_byte (Some (Stored c a b)) = None
loaded_byte (Some (Acquired c)) = None
loaded_byte (Some (Released c)) = None
loaded_byte (Some (Evicted c l)) = None

-- The trail of a hand-over, and its answer: from a clear, its four calls are waited for; the outcomes were `out` and are `new`.
pub record HandoverTrail (M : Machine) (c d a b : ℕ) (out : List Outcome) (r : Option ℕ) (t : M.State) (v : RaceTable) (new : List Outcome) : Type 0 where
  pub first : M.State
  pub begins : M.fresh first
  pub last : Option Ended
  pub calls : AwaitsEach M first start (Store c a b ∷ (Release c ∷ (Acquire d ∷ (Load d a ∷ [])))) out last t v new
  pub answer : r ≡ loaded_byte last
