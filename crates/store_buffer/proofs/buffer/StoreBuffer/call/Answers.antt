-- Refused as tabled, or the core's work.
use Rattle.std.proofs.Common.{◌<◌, length, arith}
use Rattle.buffer_rules.proofs.Sentences.{call_refused}
use Rattle.store_buffer.specs.Held.{buffers_of}
use Rattle.store_buffer.proofs.Cores.{call_in}
use Rattle.store_buffer.proofs.buffer.StoreBuffer.call.Goals as goal

pub returns-in-Ok : goal.returns-in-Ok
returns-in-Ok g c =
    let l : c.index.result < length c.args.self.now.buffers = omega arith in
    λ rule f. call_in g.P.Protocol.machine.steps c.args.self.now.buffers c.index.result c.in-Ok.caller.number _ _ _ c.args.core rule _ _ _ c.in-Ok.ensures.ok.0 c.index.ensures c.in-Ok.ensures.ok.1 l (f _ _ _ _ _ c.work.ensures)

pub returns-in-Err : goal.returns-in-Err
returns-in-Err g c = λ rule f. call_refused g.P.Protocol.machine.steps (buffers_of c.args.self.now.buffers) _ c.args.core rule _ _ c.in-Err.ensures.err
