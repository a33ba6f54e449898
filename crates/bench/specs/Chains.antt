-- Steps taken one after the other: runs, and settlings.
use Rattle.std.specs.Prelude.{◌≡◌, ℕ, ◌+◌, ◌*◌, ◌<◌, ◌≤◌, Bool, true, false, List, [], ◌∷◌, ◌++◌, length, drop, slice_set, is_some, Some, None, Ok, Err, Option, Result}
use Rattle.protocol.specs.declared.steps.Step.{Step}
use Rattle.protocol.specs.declared.steps.Step.TheVariants.{Move}
use Rattle.protocol.specs.declared.steps.Refusal.{Refusal}
use Rattle.protocol.specs.declared.steps.Reply.{Reply}
use Rattle.protocol.specs.Meaning.{Machine, image_of, FirstOpen}
use Rattle.races.specs.declared.outcomes.Outcome.{Outcome}
use Rattle.races.specs.declared.table.RaceTable.{RaceTable}
use Rattle.races.specs.Log.{Log, feed}
use Rattle.races.specs.Table.{reply_of, mark_of}
use Rattle.races.specs.Study.{Watched, Takes, ends_race}
use Rattle.races.specs.Guarantee.{Coherent, Counted}
use Rattle.bench.specs.declared.faults.Fault.{Fault}
use Rattle.bench.specs.Faults.{few_outcomes}
use Rattle.bench.specs.Computed.{Follows, Finds, state_after, table_after, outcomes_of, settling}

-- The steps ks, one after the other from s and w to t and v, with the outcomes rs; each is one that `Chosen` allows.
pub data Chain (M : Machine) (Chosen : M.State → Step → Type 0) : M.State → RaceTable → List Step → List Outcome → M.State → RaceTable → Type 0 where
  nothing : {s : M.State} {w : RaceTable} → Chain M Chosen s w [] [] s w
  then : {s t u : M.State} {w v x : RaceTable} {k : Step} {r : Outcome} {ks : List Step} {rs : List Outcome} → Chosen s k → Takes M s w k r t v → Chain M Chosen t v ks rs u x → Chain M Chosen s w (k ∷ ks) (r ∷ rs) u x

-- The step k was taken and its outcome written at the index i of `out`, which became `new`.
pub record Noted (M : Machine) (s : M.State) (w : RaceTable) (k : Step) (out : List Outcome) (i : ℕ) (t : M.State) (v : RaceTable) (new : List Outcome) : Type 0 where
  pub outcome : Outcome
  pub takes : Takes M s w k outcome t v
  pub written : new ≡ slice_set out i outcome

-- A run takes any step.
abbrev pub AnyStep : (M : Machine) → M.State → Step → Type 0
AnyStep M s k = Unit {0}

-- A settling moves the first open place, as the protocol answers it.
abbrev pub FirstPlace : (M : Machine) → M.State → Step → Type 0
FirstPlace M s k = (p : ℕ) × (k ≡ Move p) × (M.opens s 0 (Some p))

-- The log after some steps with their outcomes.
abbrev pub logged : Log → List Step → List Outcome → Log
logged log [] rs = log
logged log (k ∷ ks) [] = log
logged log (k ∷ ks) (r ∷ rs) = logged (feed log k (reply_of r)) ks rs

-- What holds at one point of a study: the guarantee; the bench's two numbers are the log's; an image answers home, and a next open the
-- first open place.
pub record Holds (M : Machine) (s : M.State) (w : RaceTable) (log : Log) : Type 0 where
  pub coherent : Coherent (M.moment s) log
  pub counted : Counted w log
  pub images : (a : ℕ) (r : Result ℕ Refusal) → M.images s a r → r ≡ image_of (M.moment s) a
  pub opens : (p : ℕ) (o : Option ℕ) → M.opens s p o → FirstOpen (M.moment s) p o

-- It holds at each point of a chain of steps, and each mark is the race rule's.
abbrev pub HoldsAlong : {M : Machine} {Chosen : M.State → Step → Type 0} {s t : M.State} {w v : RaceTable} {ks : List Step} {rs : List Outcome} → Log → Chain M Chosen s w ks rs t v → Type 0
HoldsAlong {M} log (nothing {s} {w}) = Holds M s w log
HoldsAlong {M} log (then {s} {t} {u} {w} {v} {x} {k} {r} c h l) = (Holds M s w log) × (mark_of r ≡ ends_race log (reply_of r)) × HoldsAlong (feed log k (reply_of r)) l

-- The steps are computed where the protocol's answers are those of a function f: the outcomes, and what is left.
abbrev pub ComesTo : (M : Machine) → M.State → RaceTable → List Step → List Outcome → M.State → RaceTable → Type 0
ComesTo M s w ks rs t v = (f : M.State → Step → Reply × M.State) → Follows M f → (rs ≡ outcomes_of f s w ks) × (t ≡ state_after f s ks) × (v ≡ table_after f s w ks)

-- A run of the steps ks that has been made, where the outcomes were `out` and are `new`: one outcome for each step, in order, and the
-- rest as it was; every study that led here is carried on by it.
pub record Ran (M : Machine) (s : M.State) (w : RaceTable) (ks : List Step) (out : List Outcome) (t : M.State) (v : RaceTable) (new : List Outcome) : Type 0 where
  pub rs : List Outcome
  pub room : length ks ≤ length out
  pub chain : Chain M (AnyStep M) s w ks rs t v
  pub written : new ≡ rs ++ drop (length ks) out
  pub computed : ComesTo M s w ks rs t v
  pub carries : (log : Log) → Watched M s w log → Watched M t v (logged log ks rs)
  pub holds : (log : Log) → Watched M s w log → HoldsAlong log chain

-- A run: fewer outcomes than steps is a fault.
abbrev pub Runs : (M : Machine) → M.State → RaceTable → List Step → List Outcome → Result (Unit {0}) Fault → M.State → RaceTable → List Outcome → Type 0
Runs M s w ks out (Ok done) t v new = Ran M s w ks out t v new
Runs M s w ks out (Err f) t v new = (f ≡ few_outcomes) × (length out < length ks) × (new ≡ out)

-- Messages run out: where the moves made before a settling and its room are more than the accepted core calls times reach, it leaves no place
-- open, and no core waits.
abbrev pub RunsOut : (M : Machine) → M.State → Log → ℕ → Bool → M.State → Type 0
RunsOut M s log room still t = log.calls * (M.moment s).reach < log.moves + room → (still ≡ false) × ((c : ℕ) → c < 8 → (M.moment t).waits c ≡ None)

-- A settling, where the outcomes were `out` and are `new`: it moves the first open place and writes the outcome, until no place is open or
-- the outcomes are full; it answers the count of moves and whether a place is still open. Every study that led here is carried on by it.
pub record Settled (M : Machine) (s : M.State) (w : RaceTable) (out : List Outcome) (count : ℕ) (still : Bool) (t : M.State) (v : RaceTable) (new : List Outcome) : Type 0 where
  pub ks : List Step
  pub rs : List Outcome
  pub chain : Chain M (FirstPlace M) s w ks rs t v
  pub counted : count ≡ length rs
  pub room : count ≤ length out
  pub written : new ≡ rs ++ drop count out
  pub next : Option ℕ
  pub asked : M.opens t 0 next
  pub still_is : still ≡ is_some next
  pub full : still ≡ true → count ≡ length out
  pub computed : ComesTo M s w ks rs t v
  pub chosen : (f : M.State → Step → Reply × M.State) (find : M.State → ℕ → Option ℕ) → Follows M f → Finds M find → ks ≡ settling f find (length out) s
  pub carries : (log : Log) → Watched M s w log → Watched M t v (logged log ks rs)
  pub holds : (log : Log) → Watched M s w log → HoldsAlong log chain
  pub left : (log : Log) → Watched M s w log → FirstOpen (M.moment t) 0 next
