use Rattle.std.proofs.Common.{length}
use Rattle.protocol.specs.declared.steps.Reply.{Reply}
use Rattle.buffer_rules.specs.Scripts.{Runs}
use Rattle.buffer_rules.specs.Rules.{Buffer, release}
use Rattle.store_buffer.proofs.core_buffer.CoreBuffer.release.Given as goal

-- What is left of the release is the release: however it ends from here, so does the whole.
abbrev pub invariant-loop-oldest : goal.invariant-loop-oldest
invariant-loop-oldest g l =
    (x : Reply × Buffer) (t : g.P.Protocol.machine.State) → Runs g.P.Protocol.machine.steps (release l.core l.self.entries) (g.P.Protocol.state l.below) x t
    → Runs g.P.Protocol.machine.steps (release l.initial.core l.initial.self.entries) (g.P.Protocol.state l.initial.below) x t

abbrev pub decreases-loop-oldest : goal.decreases-loop-oldest
decreases-loop-oldest g l = length l.self.entries
