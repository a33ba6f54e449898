-- With no entry the release has ended; else the oldest has left, and the rest is released.
use Rattle.std.proofs.Common.{None as Nothing, ap, refl, ◌∙◌}
use Rattle.arrayvec.specs.ArrayVec.{ArrayVec}
use Rattle.buffer_rules.specs.declared.entries.Entry.{Entry}
use Rattle.buffer_rules.proofs.Sentences.{release_ended, release_further}
use Rattle.store_buffer.proofs.Answered.{answered, entries_shown}
use Rattle.store_buffer.proofs.Places.{oldest, none_left}
use Rattle.store_buffer.proofs.core_buffer.CoreBuffer.release_on.Goals as goal

pub returns-in-None : goal.returns-in-None
returns-in-None g c =
    let e = ap (λ (v : ArrayVec Entry). v.items) c.in-None.ensures.absent ∙ entries_shown c.self.view_is in
    release_ended g.P.Protocol.machine.steps _ _ _ _ _ (none_left _ _ _ refl (entries_shown c.self.view_is) c.in-None.ensures.value)
    (answered c.stop.ensures.answer (c.stop.ensures.left ∙ (λ i. record { entries = e i; pending = Nothing })))

pub returns-in-Some : goal.returns-in-Some
returns-in-Some g c =
    release_further g.P.Protocol.machine.steps _ _ _ _ _ _ _ _ _ _ (oldest _ _ _ _ _ refl (entries_shown c.self.view_is) c.in-Some.ensures.value c.in-Some.ensures.items) c.release.ensures (answered c.in_move.ensures refl)
