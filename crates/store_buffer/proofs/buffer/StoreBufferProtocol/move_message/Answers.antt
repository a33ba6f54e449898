-- A move that ended no call, one that ended a call of no core, and one after which the core's call goes on.
use Rattle.std.proofs.Common.{◌≡◌, ℕ, ◌<◌, ◌≤◌, length, ◌∙◌, subst, arith}
use Rattle.protocol.specs.declared.steps.Refusal.TheVariants.{NoSuchCore}
use Rattle.protocol.specs.Steps.{core_of}
use Rattle.protocol.proofs.InRange.{accepted_number, refused_number}
use Rattle.buffer_rules.proofs.Sentences.{move_passes, move_strays}
use Rattle.store_buffer.proofs.Cores.{move_in}
use Rattle.store_buffer.proofs.buffer.StoreBufferProtocol.move_message.Goals as goal

pub returns-in_default : goal.returns-in_default
returns-in_default g c = move_passes g.P.Protocol.machine.steps _ _ _ _ _ c.move_message-reply.ensures c.in_default.not-Finished

pub returns-in_default-try_from : goal.returns-in_default-try_from
returns-in_default-try_from g c =
    move_strays g.P.Protocol.machine.steps _ _ _ _ _ c.in-Finished.ensures (subst (λ (n : ℕ). 8 ≤ n) c.core.ensures (refused_number 8 c.core.result _ _ c.in_default-try_from.ensures).1)

pub returns : goal.returns
returns g c =
    let l : c.index.result < length c.args.self.now.buffers = omega arith in
    let l8 : c.in-Ok.caller.number < 8 = omega arith in
    let a : c.in-Ok.caller.number ≡ core_of c.in-Finished.ended = (accepted_number 8 c.core.result c.in-Ok.caller.number NoSuchCore c.in-Ok.ensures).0 ∙ c.core.ensures in
    move_in g.P.Protocol.machine.steps c.args.self.now.buffers c.index.result c.in-Ok.caller.number _ _ c.args.place _ _ _ c.in-Finished.ended _ c.in-Finished.ensures c.index.ensures a l8 l c.go_on.ensures
