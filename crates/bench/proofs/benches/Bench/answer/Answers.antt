-- Each kind of request is answered by its call.
use Rattle.std.proofs.Common.{refl, ap}
use Rattle.bench.specs.declared.benches.Bench.{Bench}
use Rattle.bench.proofs.Answering.{step_answered, run_answered, fault_answered, settle_answered, image_answered, open_answered}
use Rattle.bench.proofs.benches.Bench.answer.Goals as goal

pub returns-in-Step : goal.returns-in-Step
returns-in-Step g c = step_answered g.P.Protocol.machine c.args.outcomes.now c.in-Step.is c.step.ensures

pub returns-in-Ok : goal.returns-in-Ok
returns-in-Ok g c = run_answered g.P.Protocol.machine c.in-Run.is c.requires c.in-Ok.ensures.made

pub returns-in-Err : goal.returns-in-Err
returns-in-Err g c =
    let h = c.in-Err.ensures.made in
    let same = c.in-Err.ensures.untouched refl in
    fault_answered g.P.Protocol.machine c.in-Run.is c.requires h.0 h.1 h.2 (ap (λ (b : Bench g.row.P.Denot). g.P.Protocol.state b.protocol) same) (ap (λ (b : Bench g.row.P.Denot). b.races) same)

pub returns-in-Settle : goal.returns-in-Settle
returns-in-Settle g c = settle_answered g.P.Protocol.machine c.in-Settle.is c.requires c.settle-moves.ensures

pub returns-in-Image : goal.returns-in-Image
returns-in-Image g c = image_answered g.P.Protocol.machine c.args.outcomes.now c.in-Image.is c.image.ensures.answers

pub returns-in-NextOpen : goal.returns-in-NextOpen
returns-in-NextOpen g c = open_answered g.P.Protocol.machine c.args.outcomes.now c.in-NextOpen.is c.next_open.ensures.answers
