-- The protocol's answer, marked by the table.
use Rattle.races.proofs.Watching.{takes}
use Rattle.bench.proofs.benches.Bench.step_into.Goals as goal

pub returns : goal.returns
returns g c =
    takes g.P.Protocol.machine g.met.P.Protocol.keeps _ _ c.args.step c.ask-reply.result _ _ _ c.ask-reply.ensures.0 c.ask-reply.ensures.1 c.mark.ensures
