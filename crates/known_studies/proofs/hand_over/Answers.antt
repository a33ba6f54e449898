-- The answer is the guarantee's; what is left is computed by the rules.
use Rattle.mesi_rules.proofs.Law.{keeps}
use Rattle.known_studies.proofs.HandOver.{handed_over, handover_leaves}
use Rattle.known_studies.proofs.hand_over.Goals as goal

pub returns : goal.returns
returns c =
    let left = handover_leaves c.set_up.ensures.fresh c.set_up.ensures.table c.store.ensures c.release.ensures c.acquire.ensures c.load.ensures in
    record { answer = handed_over keeps c.set_up.ensures.begins c.store.ensures c.release.ensures c.acquire.ensures c.load.ensures; protocol = left.0; races = left.1 }
