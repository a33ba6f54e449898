-- The steps so far are a chain with the outcomes written so far.
use Rattle.std.proofs.Common.{take}
use Rattle.bench.specs.Chains.{AnyStep}
use Rattle.bench.proofs.Chaining.{SoFar}
use Rattle.bench.proofs.benches.Bench.run.Given as goal

abbrev pub invariant-loop-index : goal.invariant-loop-index
invariant-loop-index g l =
    SoFar g.P.Protocol.machine (AnyStep g.P.Protocol.machine) (g.P.Protocol.state l.initial.self.protocol) l.initial.self.races (take l.index l.steps) l.initial.outcomes l.index
    (g.P.Protocol.state l.self.protocol) l.self.races l.outcomes
