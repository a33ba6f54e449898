-- All caches of the code, read as the state of the rules, and its places.
use Rattle.std.specs.Prelude.{ℕ, Bool, None, [], slice_index_or}
use Rattle.protocol.specs.declared.steps.Reply.{Reply}
use Rattle.neat_rules.specs.State.{State}
use Rattle.neat_rules.specs.Rules.{line_move, close_move}
use Rattle.neat_rules.specs.Reading.{carries, close_carries}
use Rattle.neat.specs.declared.caches.Caches.{Caches}
use Rattle.neat.specs.declared.core_part.CorePart.{CorePart}
use Rattle.neat.specs.declared.message.Closing.TheVariants.{Shut}
use Rattle.neat.specs.declared.place.Place.{Place}
use Rattle.neat.specs.declared.place.Place.TheVariants.{Line, Close}
use Rattle.neat.specs.Blocks.{as_bytes}
use Rattle.neat.specs.Parts.{as_core}

-- The part of a core that there is not.
abbrev pub no_part : CorePart
no_part = record { slots = []; closing = Shut; received = 0; activity = None }

abbrev pub as_state : Caches → State
as_state x = record { cores = λ c. as_core (slice_index_or x.cores c no_part); llc = λ l. as_bytes (slice_index_or x.llc l []) }

-- The core of a place.
abbrev pub core_at : Place → ℕ
core_at (Line c l) = c.number
core_at (Close c) = c.number

-- Whether a place carries a message.
abbrev pub open_there : State → Place → Bool
open_there s (Line c l) = carries ((s.cores c.number).slot l.number).place
open_there s (Close c) = close_carries (s.cores c.number).closing

-- The message at a place is moved.
abbrev pub moved_there : State → Place → Reply × State
moved_there s (Line c l) = line_move s c.number l.number
moved_there s (Close c) = close_move s c.number
