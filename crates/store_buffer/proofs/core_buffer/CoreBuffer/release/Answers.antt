-- The oldest entry's store ends and the loop goes on with the rest, or it stops the release; with no entry left, the release below.
use Rattle.std.proofs.Common.{refl, ◌∙◌}
use Rattle.buffer_rules.proofs.Sentences.{not_ended_from, release_oldest, release_stops, release_last}
use Rattle.store_buffer.proofs.Answered.{answered, entries_shown}
use Rattle.store_buffer.proofs.Places.{oldest, none_left}
use Rattle.store_buffer.proofs.core_buffer.CoreBuffer.release.Goals as goal

pub loop-oldest-preserved : goal.loop-oldest-preserved
loop-oldest-preserved g c =
    let o = oldest _ _ _ _ _ c.deref.ensures.0 (entries_shown c.self.view_is) (c.in-Some.ensures ∙ c.first.ensures.value) c.remove.ensures.items in
    λ x t h. c.loop-oldest.invariant x t (release_oldest g.P.Protocol.machine.steps _ _ _ _ _ _ _ _ _ o c.in-Ended.ensures h)

pub returns-in_default-store : goal.returns-in_default-store
returns-in_default-store g c =
    let o = oldest _ _ _ _ _ c.deref.ensures.0 (entries_shown c.self.view_is) (c.in-Some.ensures ∙ c.first.ensures.value) refl in
    c.loop-oldest.invariant _ _
    (release_stops g.P.Protocol.machine.steps _ _ _ _ _ _ _ _ o c.store.ensures (not_ended_from _ c.in_default-store.not-Ended) (answered c.stop.ensures.answer c.stop.ensures.left))

pub returns : goal.returns
returns g c =
    let n = none_left _ _ _ c.deref.ensures.0 (entries_shown c.self.view_is) (c.in_default.ensures ∙ c.first.ensures.value) in
    c.loop-oldest.invariant _ _ (release_last g.P.Protocol.machine.steps _ _ _ _ _ _ n c.release.ensures (answered c.stop-2.ensures.answer c.stop-2.ensures.left))
