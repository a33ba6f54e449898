-- A free entry is taken; or all four are taken, and the oldest is stored below.
use Rattle.std.proofs.Common.{◌<◌, ◌≤◌, length, refl, arith}
use Rattle.std.proofs.lemmas.Grind.{common_steps}
use Rattle.buffer_rules.specs.Entries.{capacity}
use Rattle.buffer_rules.proofs.Sentences.{store_free, store_full, store_stops, not_ended_from}
use Rattle.store_buffer.proofs.Answered.{answered, entries_shown}
use Rattle.store_buffer.proofs.Places.{oldest_of_all}
use Rattle.store_buffer.proofs.core_buffer.CoreBuffer.store_new.Goals as goal

pub returns-then-not-is_full : goal.returns-then-not-is_full
returns-then-not-is_full g c =
    let l : length c.args.self.now.entries < capacity = grind (arith, common_steps) in
    store_free g.P.Protocol.machine.steps c.args.core c.args.entry.address c.args.entry.byte _ _ _ l (answered c.enter.ensures.answer c.enter.ensures.left)

pub returns-in-Ended : goal.returns-in-Ended
returns-in-Ended g c =
    let l : capacity ≤ length c.args.self.now.entries = grind (arith, common_steps) in
    let o = oldest_of_all _ _ _ _ _ c.deref.ensures.0 (entries_shown c.self.view_is) l c.remove.ensures.items in
    store_full g.P.Protocol.machine.steps c.args.core c.args.entry.address c.args.entry.byte _ _ _ _ _ _ _ o l c.in-Ended.ensures (answered c.enter-in-Ended.ensures.answer c.enter-in-Ended.ensures.left)

pub returns-in_default : goal.returns-in_default
returns-in_default g c =
    let l : capacity ≤ length c.args.self.now.entries = grind (arith, common_steps) in
    let o = oldest_of_all _ _ _ _ _ c.deref.ensures.0 (entries_shown c.self.view_is) l refl in
    store_stops g.P.Protocol.machine.steps c.args.core c.args.entry.address c.args.entry.byte _ _ _ _ _ _ _ o l c.store.ensures (not_ended_from _ c.in_default.not-Ended) (answered c.stop.ensures.answer c.stop.ensures.left)
