use Rattle.std.proofs.Common.{rules}
use Rattle.protocol.specs.declared.steps.Step.TheVariants.{Evict}
use Rattle.buffer_rules.specs.Rules.{straight}
use Rattle.buffer_rules.proofs.Sentences.{straight_below}
use Rattle.store_buffer.specs.Held.{buffers_of}
use Rattle.store_buffer.proofs.Answered.{answered}
use Rattle.store_buffer.proofs.Cores.{at_line}
use Rattle.store_buffer.proofs.buffer.StoreBufferProtocol.evict.Goals as goal

pub returns : goal.returns
returns g c =
    at_line g.P.Protocol.machine.steps (buffers_of c.args.self.now.buffers) c.args.core (straight (Evict c.args.core c.args.line)) c.args.line c.try_from.result c.try_from.ensures
    (c.call.ensures (straight (Evict c.args.core c.args.line)) (λ b b' s s' r h. search (rules, straight_below g.P.Protocol.machine.steps, answered)))
