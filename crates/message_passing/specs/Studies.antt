-- The message-passing study, as each protocol takes it: core 0 stores 41 at address 10; core 1 loads it too early; core 0 releases, core 1
-- acquires and loads it again.
use Rattle.std.specs.Prelude.{List, [], ◌∷◌}
use Rattle.protocol.specs.declared.steps.Step.{Step}
use Rattle.protocol.specs.declared.steps.Step.TheVariants.{Load, Store, Acquire, Release, Move}

-- Where no call waits.
abbrev pub bus_study : List Step
bus_study = Store 0 10 65 ∷ Load 1 10 ∷ Release 0 ∷ Acquire 1 ∷ Load 1 10 ∷ []

-- Under Neat each message is moved where it stands: line 1 of core 0 has place 1, its Close place 8; core 1 has 10 and 17.
abbrev pub message_study : List Step
message_study =
    Store 0 10 65 ∷ Move 1 ∷ Move 1 ∷ Load 1 10 ∷ Move 10 ∷ Move 10 ∷ Release 0 ∷ Move 8 ∷ Move 1 ∷ Move 8 ∷ Acquire 1 ∷ Move 17 ∷ Move 17 ∷ Load 1 10 ∷ Move 10 ∷ Move 10 ∷ []

-- Under buffered Neat the store ends at once, and goes below when core 0 releases.
abbrev pub buffer_study : List Step
buffer_study =
    Store 0 10 65 ∷ Load 1 10 ∷ Move 10 ∷ Move 10 ∷ Release 0 ∷ Move 1 ∷ Move 1 ∷ Move 8 ∷ Move 1 ∷ Move 8 ∷ Acquire 1 ∷ Move 17 ∷ Move 17 ∷ Load 1 10 ∷ Move 10 ∷ Move 10 ∷ []
