-- Each turn adds its step and its outcome.
use Rattle.std.proofs.Common.{refl, arith}
use Rattle.bench.specs.Chains.{AnyStep}
use Rattle.bench.proofs.Chaining.{far_none, run_more, run_done}
use Rattle.bench.proofs.benches.Bench.run.Goals as goal

pub loop-index-init : goal.loop-index-init
loop-index-init g c = far_none g.P.Protocol.machine (AnyStep g.P.Protocol.machine) (g.P.Protocol.state c.args.self.now.protocol) c.args.self.now.races c.args.outcomes.now

pub loop-index-preserved : goal.loop-index-preserved
loop-index-preserved g c =
    run_more g.P.Protocol.machine _ _ _ _ _ _ c.args.steps.now _ c.loop-index.outcomes _ c.loop-index.index _ c.loop-index-test.true (omega arith) c.loop-index.invariant (record { outcome = c.step_into.new.outcome; takes = c.step_into.ensures; written = refl })

pub returns-clause-made : goal.returns-clause-made
returns-clause-made g c = run_done g.P.Protocol.machine g.met.P.Protocol.keeps _ _ _ _ c.args.steps.now c.args.outcomes.now c.loop-index.outcomes c.loop-index.index c.loop-index.invariant (omega arith) (omega arith)
