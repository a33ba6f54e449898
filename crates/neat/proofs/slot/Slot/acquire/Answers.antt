use Rattle.std.proofs.Common.{ap, ◌∙◌, rules}
use Rattle.neat_rules.specs.State.{Slot, I, Commit}
use Rattle.neat.proofs.Sent.{sent_emptied}
use Rattle.neat.proofs.slot.Slot.acquire.Goals as goal

pub returns-clause-slot : goal.returns-clause-slot
returns-clause-slot c = ap (λ (u : Slot). record { line = I; place = u.place }) (c.send-sent.ensures.slot Commit (λ b m e. search rules)) ∙ sent_emptied Commit _ _
