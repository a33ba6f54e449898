use Rattle.protocol.specs.declared.steps.Step.TheVariants.{Store}
use Rattle.neat.specs.Whole.{as_state}
use Rattle.neat.proofs.Steps.{reached_step, store_step}
use Rattle.neat.proofs.neat_protocol.NeatProtocol.store.Goals as goal

pub invariant_of-self : goal.invariant_of-self
invariant_of-self c =
    let s = as_state c.args.self.now.caches in
    record {
      reached =
          reached_step s (Store c.args.core c.args.address c.args.byte) (c.store.result, as_state c.store.new.self) (c.ranges.core.fits, c.ranges.address.fits, c.ranges.byte.fits) c.args.self.now.reached
          (store_step (λ x. x.number) s c.args.core c.in-Ok.core.number c.try_from.result c.in-Ok.address c.in-Ok.ensures.refused c.in-Ok.ensures.called c.args.address c.args.byte _ c.try_from.ensures c.store.ensures);
    }
