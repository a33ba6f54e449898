-- No call waits, or one that goes on.
use Rattle.std.proofs.Common.{refl, sym, ◌∙◌}
use Rattle.buffer_rules.proofs.Sentences.{none_waits}
use Rattle.store_buffer.proofs.Answered.{pending_shown}
use Rattle.store_buffer.proofs.core_buffer.CoreBuffer.go_on.Goals as goal

pub returns-in-None : goal.returns-in-None
returns-in-None g c = none_waits g.P.Protocol.machine.steps _ _ _ _ _ (sym (pending_shown c.self.view_is) ∙ c.in-None.is) refl
