use Rattle.std.proofs.Common.{rules}
use Rattle.buffer_rules.specs.Rules.{release}
use Rattle.store_buffer.proofs.buffer.StoreBufferProtocol.release.Goals as goal

pub returns : goal.returns
returns g c = c.call.ensures (release c.args.core) (λ b b' s s' r h. search rules)
