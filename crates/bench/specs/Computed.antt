-- A bench over a protocol whose answers are a function of its state: what its calls come to, computed.
use Rattle.std.specs.Prelude.{◌≡◌, ℕ, zero, suc, List, [], ◌∷◌, Some, None, Option}
use Rattle.protocol.specs.declared.steps.Step.{Step}
use Rattle.protocol.specs.declared.steps.Step.TheVariants.{Move}
use Rattle.protocol.specs.declared.steps.Reply.{Reply}
use Rattle.protocol.specs.Meaning.{Machine}
use Rattle.races.specs.declared.outcomes.Outcome.{Outcome}
use Rattle.races.specs.declared.table.RaceTable.{RaceTable}
use Rattle.races.specs.Table.{marked}

-- The answers of M are those of f, and its first open places those of next.
abbrev pub Follows : (M : Machine) → (M.State → Step → Reply × M.State) → Type 0
Follows M f = (s : M.State) (k : Step) (r : Reply) (t : M.State) → M.steps s k r t → (r, t) ≡ f s k

abbrev pub Finds : (M : Machine) → (M.State → ℕ → Option ℕ) → Type 0
Finds M next = (s : M.State) (p : ℕ) (o : Option ℕ) → M.opens s p o → o ≡ next s p

module _ {S : Type 0} (f : S → Step → Reply × S) where
  -- The protocol's state after some steps.
  abbrev pub state_after : S → List Step → S
  state_after s [] = s
  state_after s (k ∷ ks) = state_after (f s k).1 ks

  -- The race table after some steps.
  abbrev pub table_after : S → RaceTable → List Step → RaceTable
  table_after s w [] = w
  table_after s w (k ∷ ks) = table_after (f s k).1 (marked w (f s k).0).1 ks

  -- The outcomes of some steps, in their order.
  abbrev pub outcomes_of : S → RaceTable → List Step → List Outcome
  outcomes_of s w [] = []
  outcomes_of s w (k ∷ ks) = (marked w (f s k).0).0 ∷ outcomes_of (f s k).1 (marked w (f s k).0).1 ks

  module _ (next : S → ℕ → Option ℕ) where
    abbrev pub at_open : Option ℕ → (ℕ → List Step) → List Step
    at_open None g = []
    at_open (Some p) g = g p

    -- The moves of a settling that has room for n: each time the first open place.
    abbrev pub settling : ℕ → S → List Step
    settling zero s = []
    settling (suc n) s = at_open (next s 0) (λ p. Move p ∷ settling n (f s (Move p)).1)
