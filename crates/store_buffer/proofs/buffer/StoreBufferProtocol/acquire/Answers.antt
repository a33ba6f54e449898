use Rattle.std.proofs.Common.{rules}
use Rattle.protocol.specs.declared.steps.Step.TheVariants.{Acquire}
use Rattle.buffer_rules.specs.Rules.{straight}
use Rattle.buffer_rules.proofs.Sentences.{straight_below}
use Rattle.store_buffer.proofs.Answered.{answered}
use Rattle.store_buffer.proofs.buffer.StoreBufferProtocol.acquire.Goals as goal

pub returns : goal.returns
returns g c = c.call.ensures (straight (Acquire c.args.core)) (λ b b' s s' r h. search (rules, straight_below g.P.Protocol.machine.steps, answered))
