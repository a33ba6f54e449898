-- What a step and an ended call name.
use Rattle.std.specs.Prelude.{ℕ, ◌<◌, Option, Some, None}
use Rattle.protocol.specs.declared.steps.Step.{Step}
use Rattle.protocol.specs.declared.steps.Step.TheVariants.{Load, Store, Acquire, Release, Evict, Move}
use Rattle.protocol.specs.declared.steps.Ended.{Ended}
use Rattle.protocol.specs.declared.steps.Ended.TheVariants.{Loaded, Stored, Acquired, Released, Evicted}

-- The call that has ended.
abbrev pub call_of : Ended → Step
call_of (Loaded c a b) = Load c a
call_of (Stored c a b) = Store c a b
call_of (Acquired c) = Acquire c
call_of (Released c) = Release c
call_of (Evicted c l) = Evict c l

-- The core of an ended call.
abbrev pub core_of : Ended → ℕ
core_of (Loaded c a b) = c
core_of (Stored c a b) = c
core_of (Acquired c) = c
core_of (Released c) = c
core_of (Evicted c l) = c

-- The core of a core call. A move has none, and is given 0.
abbrev pub caller : Step → ℕ
caller (Load c a) = c
caller (Store c a b) = c
caller (Acquire c) = c
caller (Release c) = c
caller (Evict c l) = c
caller (Move p) = 0

-- The core of a core call, or none for a move.
abbrev pub core_in : Step → Option ℕ
core_in (Load c a) = Some c
core_in (Store c a b) = Some c
core_in (Acquire c) = Some c
core_in (Release c) = Some c
core_in (Evict c l) = Some c
core_in (Move p) = None

-- Every field is a byte.
abbrev pub Fit : Step → Type 0
Fit (Load c a) = (c < 256) × (a < 256)
Fit (Store c a b) = (c < 256) × (a < 256) × (b < 256)
Fit (Acquire c) = c < 256
Fit (Release c) = c < 256
Fit (Evict c l) = (c < 256) × (l < 256)
Fit (Move p) = p < 256
