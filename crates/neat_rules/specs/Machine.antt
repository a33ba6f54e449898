-- Neat as a machine: its rules behind the table of refusals that all protocols share.
use Rattle.protocol.specs.Meaning.{Machine}
use Rattle.protocol.specs.Rules.{by_rules}
use Rattle.neat_rules.specs.State.{start}
use Rattle.neat_rules.specs.Rules.{act}
use Rattle.neat_rules.specs.Reading.{moment, next_open}

-- The machine Neat.
abbrev pub neat : Machine
neat = by_rules moment start act next_open
