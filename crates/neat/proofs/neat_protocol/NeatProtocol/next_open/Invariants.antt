use Rattle.std.proofs.Common.{◌≡◌, ◌-◌}
use Rattle.neat_rules.specs.Reading.{next_open}
use Rattle.neat.specs.Whole.{as_state}
use Rattle.neat.proofs.neat_protocol.NeatProtocol.next_open.Given as goal

-- what is left to search gives the answer
abbrev pub invariant-loop-number : goal.invariant-loop-number
invariant-loop-number l = next_open (as_state l.self.caches) l.place ≡ next_open (as_state l.self.caches) l.number

abbrev pub decreases-loop-number : goal.decreases-loop-number
decreases-loop-number l = 72 - l.number
