use Rattle.std.proofs.Common.{rules}
use Rattle.buffer_rules.specs.Rules.{load}
use Rattle.store_buffer.specs.Held.{buffers_of}
use Rattle.store_buffer.proofs.Cores.{at_address}
use Rattle.store_buffer.proofs.buffer.StoreBufferProtocol.load.Goals as goal

pub returns : goal.returns
returns g c =
    at_address g.P.Protocol.machine.steps (buffers_of c.args.self.now.buffers) c.args.core (load c.args.core c.args.address) c.args.address c.try_from.result c.try_from.ensures
    (c.call.ensures (load c.args.core c.args.address) (λ b b' s s' r h. search rules))
