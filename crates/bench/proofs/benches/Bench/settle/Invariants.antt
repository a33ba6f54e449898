-- The moves so far are a settling with the outcomes written so far.
use Rattle.bench.proofs.Chaining.{Settling}
use Rattle.bench.proofs.benches.Bench.settle.Given as goal

abbrev pub invariant-loop-moves : goal.invariant-loop-moves
invariant-loop-moves g l =
    Settling g.P.Protocol.machine (g.P.Protocol.state l.initial.self.protocol) l.initial.self.races l.initial.outcomes l.moves (g.P.Protocol.state l.self.protocol) l.self.races l.outcomes
