use Rattle.protocol.specs.declared.steps.Step.TheVariants.{Evict}
use Rattle.neat.specs.Whole.{as_state}
use Rattle.neat.proofs.Steps.{reached_step, evict_step}
use Rattle.neat.proofs.neat_protocol.NeatProtocol.evict.Goals as goal

pub invariant_of-self : goal.invariant_of-self
invariant_of-self c =
    let s = as_state c.args.self.now.caches in
    record {
      reached =
          reached_step s (Evict c.args.core c.args.line) (c.evict.result, as_state c.evict.new.self) (c.ranges.core.fits, c.ranges.line.fits) c.args.self.now.reached
          (evict_step (λ x. x.number) s c.args.core c.in-Ok.core.number c.try_from.result c.in-Ok.line c.in-Ok.ensures.refused c.in-Ok.ensures.called c.args.line _ c.try_from.ensures c.evict.ensures);
    }
