use Rattle.protocol.specs.declared.steps.Step.TheVariants.{Move}
use Rattle.neat.specs.Whole.{as_state, core_at}
use Rattle.neat.proofs.Steps.{reached_step, reached_few}
use Rattle.neat.proofs.Opening.{move_step}
use Rattle.neat.proofs.neat_protocol.NeatProtocol.move_message.Goals as goal

pub deliver-requires : goal.deliver-requires
deliver-requires c = reached_few (as_state c.args.self.now.caches) (core_at c.in-Ok.place) c.args.self.now.reached

pub invariant_of-self : goal.invariant_of-self
invariant_of-self c =
    record {
      reached =
          reached_step (as_state c.args.self.now.caches) (Move c.args.place) (c.deliver.result, as_state c.deliver.new.self) c.ranges.place.fits c.args.self.now.reached
          (move_step (as_state c.args.self.now.caches) c.in-Ok.place c.args.place (c.deliver.result, as_state c.deliver.new.self) c.in-Ok.ensures c.if-is_open.ensures c.deliver.ensures);
    }
