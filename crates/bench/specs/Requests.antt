-- What a list of requests makes of a bench: a whole study, and the guarantee at every point of it.
use Rattle.std.specs.Prelude.{◌≡◌, ℕ, ◌+◌, ◌<◌, ◌≤◌, true, ◌⊎◌, List, [], ◌∷◌, ◌++◌, length, drop, is_some, Ok, Err, Option, Result}
use Rattle.std.specs.Borrow.{Bor}
use Rattle.protocol.specs.declared.steps.Step.{Step}
use Rattle.protocol.specs.declared.steps.Refusal.{Refusal}
use Rattle.protocol.specs.Meaning.{Machine, image_of, FirstOpen}
use Rattle.races.specs.declared.outcomes.Outcome.{Outcome}
use Rattle.races.specs.declared.table.RaceTable.{RaceTable}
use Rattle.races.specs.Log.{Log, empty_log, feed}
use Rattle.races.specs.Table.{reply_of, mark_of, start}
use Rattle.races.specs.Study.{Watched, Takes, ends_race}
use Rattle.bench.specs.declared.faults.Fault.{Fault}
use Rattle.bench.specs.declared.requests.Request.{Request}
use Rattle.bench.specs.declared.requests.Request.TheVariants.{Step as One, Run, Settle, Image, NextOpen}
use Rattle.bench.specs.declared.requests.Answer.{Answer}
use Rattle.bench.specs.declared.requests.Answer.TheVariants.{Stepped, Ran as RunIs, Settled as SettledIs, Imaged, Found}
use Rattle.bench.specs.Faults.{few_outcomes}
use Rattle.bench.specs.Chains.{Chain, AnyStep, FirstPlace, logged, Holds, HoldsAlong}

-- How many outcomes a request may want.
abbrev pub room_of : Request → ℕ
room_of (One k) = 0
room_of (Run ks n) = n
room_of (Settle n) = n
room_of (Image a) = 0
room_of (NextOpen p) = 0

abbrev pub rooms_of : List Request → ℕ
rooms_of [] = 0
rooms_of (q ∷ qs) = room_of q + rooms_of qs

-- Asks s w q a rs t v: in the protocol's state s, with the table w, the request q is answered a, the outcomes rs are written, and t and v
-- are left. Every answer is the protocol's.
pub data Asks (M : Machine) : M.State → RaceTable → Request → Answer → List Outcome → M.State → RaceTable → Type 0 where
  stepped : {s t : M.State} {w v : RaceTable} {k : Step} {r : Outcome} → Takes M s w k r t v → Asks M s w (One k) (Stepped r) [] t v
  ran : {s t : M.State} {w v : RaceTable} {ks : Bor (List Step)} {n : ℕ} {rs : List Outcome} → length ks.now ≤ n → Chain M (AnyStep M) s w ks.now rs t v → Asks M s w (Run ks n) (RunIs (Ok tt)) rs t v
  no_room : {s : M.State} {w : RaceTable} {ks : Bor (List Step)} {n : ℕ} → n < length ks.now → Asks M s w (Run ks n) (RunIs (Err few_outcomes)) [] s w
  settled : {s t : M.State} {w v : RaceTable} {ks : List Step} {n : ℕ} {rs : List Outcome} {o : Option ℕ} → Chain M (FirstPlace M) s w ks rs t v → length rs ≤ n → M.opens t 0 o → (is_some o ≡ true → length rs ≡ n) → Asks M s w (Settle n) (SettledIs (length rs) (is_some o)) rs t v
  imaged : {s : M.State} {w : RaceTable} {a : ℕ} {r : Result ℕ Refusal} → M.images s a r → Asks M s w (Image a) (Imaged r) [] s w
  found : {s : M.State} {w : RaceTable} {p : ℕ} {o : Option ℕ} → M.opens s p o → Asks M s w (NextOpen p) (Found o) [] s w

-- The same of a list of requests, one after the other.
pub data AsksAll (M : Machine) : M.State → RaceTable → List Request → List Answer → List Outcome → M.State → RaceTable → Type 0 where
  no_more : {s : M.State} {w : RaceTable} → AsksAll M s w [] [] [] s w
  more : {s t u : M.State} {w v x : RaceTable} {q : Request} {a : Answer} {qs : List Request} {said : List Answer} {rs more_rs : List Outcome} → Asks M s w q a rs t v → AsksAll M t v qs said more_rs u x → AsksAll M s w (q ∷ qs) (a ∷ said) (rs ++ more_rs) u x

-- The log after a request, fed with the answers that were written: a run as its steps, a settling as the moves that its outcomes show.
abbrev pub log_after : {M : Machine} {s t : M.State} {w v : RaceTable} {q : Request} {a : Answer} {rs : List Outcome} → Log → Asks M s w q a rs t v → Log
log_after log (stepped {k = k} {r = r} h) = feed log k (reply_of r)
log_after log (ran {ks = ks} {rs = rs} l c) = logged log ks.now rs
log_after log (no_room l) = log
log_after log (settled {ks = ks} {rs = rs} c l o f) = logged log ks rs
log_after log (imaged h) = log
log_after log (found h) = log

abbrev pub log_after_all : {M : Machine} {s t : M.State} {w v : RaceTable} {qs : List Request} {said : List Answer} {rs : List Outcome} → Log → AsksAll M s w qs said rs t v → Log
log_after_all log no_more = log
log_after_all log (more h l) = log_after_all (log_after log h) l

-- It holds before a request, after it and, in a run or a settling, at each point on the way. An image is home, and a next open place,
-- also the one after a settling, is the first open one.
abbrev pub HoldsDuring : {M : Machine} {s t : M.State} {w v : RaceTable} {q : Request} {a : Answer} {rs : List Outcome} → Log → Asks M s w q a rs t v → Type 0
HoldsDuring {M} log (stepped {s} {t} {w} {v} {k} {r} h) = (Holds M s w log) × (mark_of r ≡ ends_race log (reply_of r)) × (Holds M t v (feed log k (reply_of r)))
HoldsDuring log (ran l c) = HoldsAlong log c
HoldsDuring {M} log (no_room {s} {w} l) = Holds M s w log
HoldsDuring {M} log (settled {s} {t} {w} {v} {ks} {n} {rs} {o} c l h f) = (HoldsAlong log c) × (FirstOpen (M.moment t) 0 o)
HoldsDuring {M} log (imaged {s} {w} {a} {r} h) = (Holds M s w log) × (r ≡ image_of (M.moment s) a)
HoldsDuring {M} log (found {s} {w} {p} {o} h) = (Holds M s w log) × (FirstOpen (M.moment s) p o)

abbrev pub HoldsThroughout : {M : Machine} {s t : M.State} {w v : RaceTable} {qs : List Request} {said : List Answer} {rs : List Outcome} → Log → AsksAll M s w qs said rs t v → Type 0
HoldsThroughout {M} log (no_more {s} {w}) = Holds M s w log
HoldsThroughout log (more h l) = (HoldsDuring log h) × HoldsThroughout (log_after log h) l

-- One request that was answered in the room that it wants, where the outcomes there were `out` and are `new`: n of them were written, at
-- their start.
pub record Answered (M : Machine) (s : M.State) (w : RaceTable) (q : Request) (out : List Outcome) (a : Answer) (n : ℕ) (t : M.State) (v : RaceTable) (new : List Outcome) : Type 0 where
  pub rs : List Outcome
  pub asks : Asks M s w q a rs t v
  pub few : length rs ≤ room_of q
  pub counted : n ≡ length rs
  pub written : new ≡ rs ++ drop n out

-- A whole study that was made: it begins at a clear with an empty log; what was written are the answers and the outcomes, and what was
-- there past them; the guarantee holds at every point of it, of the log that the requests and the written answers make; and it can be
-- carried on.
pub record Whole (M : Machine) (qs : List Request) (answers : List Answer) (out : List Outcome) (count : ℕ) (t : M.State) (v : RaceTable) (new_answers : List Answer) (new : List Outcome) : Type 0 where
  pub first : M.State
  pub begins : M.fresh first
  pub said : List Answer
  pub rs : List Outcome
  pub asked : AsksAll M first start qs said rs t v
  pub holds : HoldsThroughout empty_log asked
  pub carries : Watched M t v (log_after_all empty_log asked)
  pub enough : length qs ≤ length answers
  pub room : rooms_of qs ≤ length out
  pub counted : count ≡ length rs
  pub told : new_answers ≡ said ++ drop (length qs) answers
  pub written : new ≡ rs ++ drop count out

-- A study is turned down where there are fewer answers than requests or fewer outcomes than room for them.
abbrev pub Studies : (M : Machine) → List Request → List Answer → List Outcome → Result ℕ Fault → M.State → RaceTable → List Answer → List Outcome → Type 0
Studies M qs answers out (Ok n) t v new_answers new = Whole M qs answers out n t v new_answers new
Studies M qs answers out (Err f) t v new_answers new = (f ≡ few_outcomes) × ((length answers < length qs) ⊎ (length out < rooms_of qs)) × (new_answers ≡ answers) × (new ≡ out)
