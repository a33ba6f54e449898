use Rattle.std.proofs.Common.{ap, ◌∙◌, rules}
use Rattle.neat_rules.specs.State.{Slot, I, Put}
use Rattle.neat.proofs.Sent.{sent_emptied}
use Rattle.neat.proofs.slot.Slot.evict.Goals as goal

pub returns : goal.returns
returns c = ap (λ (u : Slot). record { line = I; place = u.place }) (c.send.ensures.slot Put (λ b m e. search rules)) ∙ sent_emptied Put _ _
