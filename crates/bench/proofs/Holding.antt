-- The guarantee holds at each point of a chain of steps, and a chain carries every study on.
use Rattle.protocol.specs.declared.steps.Step.{Step}
use Rattle.protocol.specs.Meaning.{Machine, Meaning}
use Rattle.std.proofs.Common.{List}
use Rattle.races.specs.declared.outcomes.Outcome.{Outcome}
use Rattle.races.specs.declared.table.RaceTable.{RaceTable}
use Rattle.races.specs.Log.{Log, feed}
use Rattle.races.specs.Table.{reply_of}
use Rattle.races.specs.Study.{Watched}
use Rattle.races.proofs.StudyLaw.{study_kept, coherent}
use Rattle.races.proofs.Watching.{counted}
use Rattle.bench.specs.Chains.{Chain, nothing, then, logged, Holds, HoldsAlong}

-- A chain carries every study on.
pub chain_carries : (M : Machine) (Chosen : M.State → Step → Type 0) {s t : M.State} {w v : RaceTable} {ks : List Step} {rs : List Outcome} → Chain M Chosen s w ks rs t v → (log : Log) → Watched M s w log → Watched M t v (logged log ks rs)
chain_carries M Chosen nothing log h = h
chain_carries M Chosen (then {k = k} {r = r} c g l) log h = chain_carries M Chosen l (feed log k (reply_of r)) (g.carries log h)

module _ (M : Machine) (means : Meaning M) where
  pub holds : (s : M.State) (w : RaceTable) (log : Log) → Watched M s w log → Holds M s w log
  holds s w log h =
      let r = (study_kept M means h.study).reached in
      record { coherent = coherent M means h.study; counted = counted M means s w log h; images = λ a x i. means.image s a x r i; opens = λ p o i. means.next s p o r i }

  pub holds_along : {Chosen : M.State → Step → Type 0} {s t : M.State} {w v : RaceTable} {ks : List Step} {rs : List Outcome} (c : Chain M Chosen s w ks rs t v) (log : Log) → Watched M s w log → HoldsAlong log c
  holds_along (nothing {s} {w}) log h = holds s w log h
  holds_along (then {s} {t} {u} {w} {v} {x} {k} {r} c g l) log h = (holds s w log h, g.mark_is log h, holds_along l (feed log k (reply_of r)) (g.carries log h))
