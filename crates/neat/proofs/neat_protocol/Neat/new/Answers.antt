use Rattle.neat.specs.Whole.{as_state}
use Rattle.neat.proofs.Steps.{reached_start}
use Rattle.neat.proofs.neat_protocol.Neat.new.Goals as goal

pub invariant_of-result : goal.invariant_of-result
invariant_of-result c = record { reached = reached_start (as_state c.new.result) c.new.ensures }
