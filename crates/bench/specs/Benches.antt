-- What the calls of a bench make of it. A proof sees of a bench its protocol's state and its race table; each fact here is one of
-- Rattle.races.specs.Study, Chains, Requests or Handovers, of those two.
use Rattle.std.specs.Prelude.{ℕ, Bool, List, Option, Result}
use Rattle.protocol.specs.declared.steps.Step.{Step}
use Rattle.protocol.specs.declared.steps.Ended.{Ended}
use Rattle.protocol.specs.Meaning.{Machine}
use Rattle.protocol.specs.Moment.{Moment}
use Rattle.races.specs.declared.outcomes.Outcome.{Outcome}
use Rattle.races.specs.Log.{Log}
use Rattle.races.specs.Study.{Watched, Takes}
use Rattle.bench.specs.declared.benches.Bench.{Bench}
use Rattle.bench.specs.declared.faults.Fault.{Fault}
use Rattle.bench.specs.declared.requests.Request.{Request}
use Rattle.bench.specs.declared.requests.Answer.{Answer}
use Rattle.bench.specs.Chains.{Runs, Settled}
use Rattle.bench.specs.Requests.{Answered, Studies}
use Rattle.bench.specs.Handovers.{Awaits, CallAwaited, HandoverTrail, HandsOver}

module _ {P : Type 0} (M : Machine) (state : P → M.State) where
  -- What the bench's protocol has at the moment.
  abbrev pub moment_of : Bench P → Moment
  moment_of b = M.moment (state b.protocol)

  -- The bench is in the study of that log.
  abbrev pub InStudy : Bench P → Log → Type 0
  InStudy b log = Watched M (state b.protocol) b.races log

  -- The bench takes the step k, with the outcome r.
  abbrev pub Steps : Bench P → Step → Outcome → Bench P → Type 0
  Steps old k r new = Takes M (state old.protocol) old.races k r (state new.protocol) new.races

  -- The bench runs the steps ks and answers r, where the outcomes were `out` and are `out'`.
  abbrev pub MakesRun : Bench P → List Step → List Outcome → Result (Unit {0}) Fault → Bench P → List Outcome → Type 0
  MakesRun old ks out r new out' = Runs M (state old.protocol) old.races ks out r (state new.protocol) new.races out'

  -- The bench settles and answers the count of moves and whether a place is still open.
  abbrev pub Settles : Bench P → List Outcome → ℕ × Bool → Bench P → List Outcome → Type 0
  Settles old out r new out' = Settled M (state old.protocol) old.races out r.0 r.1 (state new.protocol) new.races out'

  -- The bench answers the request q, with so many outcomes.
  abbrev pub AnswersRequest : Bench P → Request → List Outcome → Answer × ℕ → Bench P → List Outcome → Type 0
  AnswersRequest old q out r new out' = Answered M (state old.protocol) old.races q out r.0 r.1 (state new.protocol) new.races out'

  -- The bench makes the study of the requests qs and answers r, where the answers and the outcomes were `said` and `out`.
  abbrev pub MakesStudy : List Request → List Answer → List Outcome → Result ℕ Fault → Bench P → List Answer → List Outcome → Type 0
  MakesStudy qs said out r new said' out' = Studies M qs said out r (state new.protocol) new.races said' out'

  -- The bench makes the core call k, settles if its core waits, and answers r; and what that says of the call.
  abbrev pub AwaitsCall : Bench P → Step → List Outcome → Option Ended → Bench P → List Outcome → Type 0
  AwaitsCall old k out r new out' = Awaits M (state old.protocol) old.races k out r (state new.protocol) new.races out'

  abbrev pub EndsCall : Bench P → Step → ℕ → Option Ended → Bench P → Type 0
  EndsCall old k room r new = CallAwaited M (state old.protocol) old.races k room r (state new.protocol) new.races

  -- The bench hands the byte b at the address a over from core c to core d and answers r; and what that says of the byte.
  abbrev pub MakesHandover : ℕ → ℕ → ℕ → ℕ → List Outcome → Option ℕ → Bench P → List Outcome → Type 0
  MakesHandover c d a b out r new out' = HandoverTrail M c d a b out r (state new.protocol) new.races out'

  abbrev pub HandsByteOver : ℕ → ℕ → ℕ → ℕ → ℕ → Option ℕ → Bench P → Type 0
  HandsByteOver c d a b room r new = HandsOver M c d a b room r (state new.protocol) new.races
