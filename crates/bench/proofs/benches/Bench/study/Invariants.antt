-- The requests so far are answered, and their outcomes written one after the other.
use Rattle.bench.proofs.StudyLoop.{SoFar}
use Rattle.bench.proofs.benches.Bench.study.Given as goal

abbrev pub invariant-loop-index : goal.invariant-loop-index
invariant-loop-index g l =
    SoFar g.P.Protocol.machine (g.P.Protocol.state l.initial.self.protocol) l.initial.self.races l.requests l.initial.answers l.initial.outcomes l.index l.at (g.P.Protocol.state l.self.protocol) l.self.races l.answers l.outcomes
