use Rattle.std.proofs.Common.{rules}
use Rattle.buffer_rules.specs.Rules.{store}
use Rattle.store_buffer.specs.Held.{buffers_of}
use Rattle.store_buffer.proofs.Cores.{at_address}
use Rattle.store_buffer.proofs.buffer.StoreBufferProtocol.store.Goals as goal

pub returns : goal.returns
returns g c =
    at_address g.P.Protocol.machine.steps (buffers_of c.args.self.now.buffers) c.args.core (store c.args.core c.args.address c.args.byte) c.args.address c.try_from.result c.try_from.ensures
    (c.call.ensures (store c.args.core c.args.address c.args.byte) (λ b b' s s' r h. search rules))
