use Rattle.neat.specs.Whole.{as_state}
use Rattle.neat.proofs.Steps.{reached_start}
use Rattle.neat.proofs.neat_protocol.NeatProtocol.clear.Goals as goal

pub invariant_of-self : goal.invariant_of-self
invariant_of-self c = record { reached = reached_start (as_state c.new-self.result) c.new-self.ensures }
