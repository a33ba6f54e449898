use Rattle.study_file.proofs.Filling.{filled_none, filled_room, filled_more, filled_all}
use Rattle.study_file.proofs.writer.put_steps.Goals as goal

pub loop-step-init : goal.loop-step-init
loop-step-init c = filled_none c.args.buffer.now c.args.start c.args.steps.now c.requires

pub put_step-at-requires : goal.put_step-at-requires
put_step-at-requires c =
    filled_room c.args.buffer.now c.args.start c.args.steps.now c.requires c.loop-step.step-index c.loop-step.buffer c.loop-step.at c.loop-step.invariant _ c.loop-step-test.true

pub loop-step-preserved : goal.loop-step-preserved
loop-step-preserved c =
    filled_more c.args.buffer.now c.args.start c.args.steps.now c.requires c.loop-step.step-index c.loop-step.buffer c.loop-step.at c.loop-step.invariant _ c.put_step-at.new.buffer c.put_step-at.result c.loop-step-test.true c.put_step-at.ensures.place c.put_step-at.ensures.buffer

pub returns : goal.returns
returns c =
    let all = filled_all c.args.buffer.now c.args.start c.args.steps.now c.requires c.loop-step.step-index c.loop-step.buffer c.loop-step.at c.loop-step.invariant c.loop-step-test.false in
    record { place = all.0; buffer = all.1 }
