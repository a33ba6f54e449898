-- Studies of which something is known of the state that they end in.
use Rattle.std.specs.Prelude.{ℕ, Bool, true, ◌&&◌, List, [], ◌∷◌, ◌++◌}
use Rattle.protocol.specs.declared.steps.Step.{Step}
use Rattle.bench.specs.Computed.{state_after}
use Rattle.mesi_rules.specs.declared.copies.PrivateLine.{PrivateLine}
use Rattle.mesi_rules.specs.declared.copies.PrivateLine.TheVariants.{Invalid, Shared, Exclusive, Modified}
use Rattle.mesi_rules.specs.Rows.{LineRow}
use Rattle.mesi_rules.specs.Bus as bus
use Rattle.neat_rules.specs.State as neat_state
use Rattle.neat_rules.specs.Reading as neat_reading
use Rattle.protocol.specs.Moment.{Moment}
use Rattle.buffer_rules.specs.Buffered.{empty, moment_over}
use Rattle.known_studies.specs.Shown.{same}
use Rattle.known_studies.specs.Cases.{mesi_step, neat_step}

-- The steps of a study, and the numbers that are known of its end.
pub record Ending : Type 0 where
  pub steps : List Step
  pub known : List ℕ

abbrev pub ending : List Step → List ℕ → Ending
ending ks ns = record { steps = ks; known = ns }

-- Every study ends as it is known, by the numbers that f gives.
abbrev pub all_end : (List Step → List ℕ) → List Ending → Bool
all_end f [] = true
all_end f (e ∷ es) = same (f e.steps) e.known && all_end f es

-- Due after a study under Neat.
abbrev pub neat_due : List Step → List ℕ
neat_due ks = (neat_reading.moment (state_after neat_step neat_state.start ks)).due ∷ []

-- The states of copies by number: 0 is I, 1 S, 2 E, 3 M.
abbrev pub copy_number : PrivateLine → ℕ
copy_number Invalid = 0
copy_number (Shared d) = 1
copy_number (Exclusive d) = 2
copy_number (Modified d) = 3

abbrev pub copy_numbers : List PrivateLine → List ℕ
copy_numbers [] = []
copy_numbers (x ∷ xs) = copy_number x ∷ copy_numbers xs

-- The copies of all lines, line by line and core by core.
abbrev pub all_copies : List LineRow → List ℕ
all_copies [] = []
all_copies (r ∷ rs) = copy_numbers r.copies ++ all_copies rs

-- The copies after a study under bus MESI.
abbrev pub mesi_copies_after : List Step → List ℕ
mesi_copies_after ks = all_copies (state_after mesi_step bus.start ks)

-- The moment of a store buffer that was cleared over a protocol's.
abbrev pub buffer_over : Moment → Moment
buffer_over m = moment_over m (λ c. empty)

-- The reach of a buffer over bus MESI, over Neat, over a buffer over bus MESI, and over a buffer over Neat.
abbrev pub reaches_by_rules : List ℕ
reaches_by_rules =
    (buffer_over (bus.moment bus.start)).reach
    ∷ (buffer_over (neat_reading.moment neat_state.start)).reach
    ∷ (buffer_over (buffer_over (bus.moment bus.start))).reach
    ∷ (buffer_over (buffer_over (neat_reading.moment neat_state.start))).reach
    ∷ []
