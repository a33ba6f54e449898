-- Each is made by its default: no entry, and no call.
use Rattle.std.proofs.Common.{sym, ◌∙◌}
use Rattle.store_buffer.proofs.Cores.{all_empty}
use Rattle.store_buffer.proofs.buffer.empty_buffers.Goals as goal

pub returns : goal.returns
returns c = all_empty _ c.default.ensures (λ b h. sym h.1 ∙ (λ i. record { entries = h.2.0 i; pending = h.2.1 i }))
