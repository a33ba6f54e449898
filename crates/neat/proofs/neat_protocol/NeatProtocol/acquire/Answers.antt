use Rattle.protocol.specs.declared.steps.Step.TheVariants.{Acquire}
use Rattle.neat.specs.Whole.{as_state}
use Rattle.neat.proofs.Steps.{reached_step, acquire_step}
use Rattle.neat.proofs.neat_protocol.NeatProtocol.acquire.Goals as goal

pub invariant_of-self : goal.invariant_of-self
invariant_of-self c =
    let s = as_state c.args.self.now.caches in
    record {
      reached =
          reached_step s (Acquire c.args.core) (c.acquire.result, as_state c.acquire.new.self) c.ranges.core.fits c.args.self.now.reached
          (acquire_step s c.args.core c.in-Ok.core.number c.in-Ok.ensures.called.0 c.in-Ok.ensures.refused _ c.acquire.ensures);
    }
