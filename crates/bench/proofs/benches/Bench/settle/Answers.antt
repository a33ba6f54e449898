-- Each turn moves the first open place; the end says whether one is left.
use Rattle.std.proofs.Common.{[], None, refl, arith}
use Rattle.std.proofs.lemmas.Bool.{false≢true}
use Rattle.std.proofs.lemmas.List.{set-get_or}
use Rattle.bench.specs.Chains.{FirstPlace}
use Rattle.bench.proofs.Chaining.{far_none, settle_more, settle_done}
use Rattle.bench.proofs.benches.Bench.settle.Goals as goal

pub loop-moves-init : goal.loop-moves-init
loop-moves-init g c = ([], far_none g.P.Protocol.machine (FirstPlace g.P.Protocol.machine) (g.P.Protocol.state c.args.self.now.protocol) c.args.self.now.races c.args.outcomes.now)

pub returns-in_default : goal.returns-in_default
returns-in_default g c =
    rw (set-get_or)
    (settle_done g.P.Protocol.machine g.met.P.Protocol.keeps _ _ _ _ c.args.outcomes.now c.loop-moves.outcomes c.loop-moves.moves _ None _ c.loop-moves.invariant refl refl (omega arith) c.in_default.ensures.answers (λ e. absurd (false≢true e)))

pub loop-moves-preserved : goal.loop-moves-preserved
loop-moves-preserved g c =
    settle_more g.P.Protocol.machine _ _ _ _ _ _ _ c.loop-moves.outcomes _ c.loop-moves.moves c.in-Some.place (omega arith) c.loop-moves.invariant c.in-Some.ensures.answers (record { outcome = c.step_into.new.outcome; takes = c.step_into.ensures; written = refl })

pub returns : goal.returns
returns g c =
    settle_done g.P.Protocol.machine g.met.P.Protocol.keeps _ _ _ _ c.args.outcomes.now c.loop-moves.outcomes c.loop-moves.moves _ c.next_open-2.result _ c.loop-moves.invariant (omega arith) c.is_some.ensures (omega arith) c.next_open-2.ensures.answers (λ e. omega arith)
