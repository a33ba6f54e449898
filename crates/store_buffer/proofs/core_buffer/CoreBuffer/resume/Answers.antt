-- A store enters its byte; another call ends as the same call below.
use Rattle.std.proofs.Common.{None as Nothing, ap, ◌∙◌}
use Rattle.buffer_rules.specs.Entries.{added}
use Rattle.buffer_rules.specs.Rules.{moved}
use Rattle.buffer_rules.proofs.Sentences.{is_done, goes_straight}
use Rattle.store_buffer.proofs.Answered.{answered, entries_shown}
use Rattle.store_buffer.proofs.Places.{popped}
use Rattle.store_buffer.proofs.core_buffer.CoreBuffer.resume.Goals as goal

pub returns-in-Store : goal.returns-in-Store
returns-in-Store g c =
    let e = popped _ _ _ _ (entries_shown c.self.view_is) c.pop_at.ensures.value c.pop_at.ensures.items c.pop_at.ensures.absent in
    rw c.in-Store.is (is_done g.P.Protocol.machine.steps _ _ (answered (c.in_move.ensures ∙ ap moved c.enter.ensures.answer) (c.enter.ensures.left ∙ (λ i. record { entries = added c.in-Store.address c.in-Store.byte (e i); pending = Nothing }))))

pub returns-in_default : goal.returns-in_default
returns-in_default g c = goes_straight g.P.Protocol.machine.steps _ _ c.args.call _ _ c.in_default.not-Store c.in_default.not-Release (answered c.stop.ensures.answer c.stop.ensures.left)
