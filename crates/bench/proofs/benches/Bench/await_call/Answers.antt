-- The call ended at once, or was refused, or waited and the moves of a settling ended it.
use Rattle.std.proofs.Common.{length}
use Rattle.bench.specs.Handovers.{at_once, settled, neither}
use Rattle.bench.proofs.Awaiting.{awaited_at_once, awaited_refused, awaited_settled}
use Rattle.bench.proofs.benches.Bench.await_call.Goals as goal

pub returns-in-Ended : goal.returns-in-Ended
returns-in-Ended g c =
    record {
      made = at_once c.in-Ended.ensures;
      right = awaited_at_once g.P.Protocol.machine g.met.P.Protocol.keeps c.args.step c.in-Ended.call c.in-Ended.race (length c.args.outcomes.now) c.requires c.in-Ended.ensures;
    }

pub returns-in-Waits : goal.returns-in-Waits
returns-in-Waits g c =
    record {
      made = settled c.in-Waits.ensures c.settle-moves.ensures c.finished.ensures;
      right = awaited_settled g.P.Protocol.machine g.met.P.Protocol.keeps c.args.step c.finished.result c.requires c.in-Waits.ensures c.settle-moves.ensures c.finished.ensures;
    }

pub returns-in_default : goal.returns-in_default
returns-in_default g c =
    record {
      made = neither c.step.ensures c.in_default.not-Ended c.in_default.not-Waits;
      right = awaited_refused g.P.Protocol.machine g.met.P.Protocol.keeps c.args.step c.step.result (length c.args.outcomes.now) c.requires c.in_default.not-Ended c.in_default.not-Waits c.step.ensures;
    }
