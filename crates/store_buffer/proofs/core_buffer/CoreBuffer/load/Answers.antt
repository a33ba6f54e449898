-- A load that an entry answers, and one that goes below.
use Rattle.std.proofs.Common.{◌∙◌}
use Rattle.buffer_rules.proofs.Sentences.{load_entry, load_below}
use Rattle.store_buffer.proofs.Answered.{answered, entries_shown}
use Rattle.store_buffer.proofs.Places.{found_at, found_none}
use Rattle.store_buffer.proofs.core_buffer.CoreBuffer.load.Goals as goal

pub returns-in-Some : goal.returns-in-Some
returns-in-Some g c =
    load_entry g.P.Protocol.machine.steps _ _ _ _ _ _
    (found_at c.args.address c.in-Some.index _ c.args.self.now.entries _ (c.deref.ensures.0 ∙ entries_shown c.self.view_is) c.in-Some.ensures.value)
    (answered c.stop.ensures.answer c.stop.ensures.left)

pub returns-in-None : goal.returns-in-None
returns-in-None g c =
    load_below g.P.Protocol.machine.steps _ _ _ _ _ _ _ (found_none c.args.address c.args.self.now.entries c.in-None.ensures.value) c.load.ensures
    (answered c.stop-in-None.ensures.answer c.stop-in-None.ensures.left)
