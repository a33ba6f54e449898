-- There is room for each request, and each turn answers one.
use Rattle.std.proofs.Common.{◌+◌, ◌-◌, sym, refl, ◌∙◌, arith}
use Rattle.std.proofs.lemmas.Bool.{leb-true, true≢false}
use Rattle.bench.proofs.StudyLoop.{far_none, far_more, study_done}
use Rattle.bench.proofs.benches.Bench.study.Goals as goal

pub loop-index-init : goal.loop-index-init
loop-index-init g c =
    far_none g.P.Protocol.machine (g.P.Protocol.state c.set_up.new.self.protocol) c.set_up.new.self.races c.args.requests.now c.args.answers.now c.args.outcomes.now (leb-true _ _ (sym c.fit.ensures ∙ c.if-not-fit.false))

pub loop-index-preserved : goal.loop-index-preserved
loop-index-preserved g c =
    far_more g.P.Protocol.machine c.args.requests.now c.loop-index.outcomes _ c.answer-answer.new.outcomes c.loop-index.index c.loop-index.at (c.loop-index.at + c.room.result - c.loop-index.at) c.answer-answer.result.1 _ c.answer-answer.result.0 c.loop-index.invariant c.loop-index-test.true (omega arith) (omega arith) refl c.answer-answer.ensures

pub returns : goal.returns
returns g c =
    record {
      made = study_done g.P.Protocol.machine g.met.P.Protocol.keeps _ _ _ _ c.args.requests.now c.args.answers.now c.loop-index.answers c.args.outcomes.now c.loop-index.outcomes c.loop-index.index c.loop-index.at c.set_up.ensures.fresh c.set_up.ensures.table c.loop-index.invariant (omega arith) (omega arith) (leb-true _ _ (sym c.fit.ensures ∙ c.if-not-fit.false));
      untouched = λ e. absurd (true≢false e);
    }
