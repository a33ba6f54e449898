use Rattle.std.proofs.Common.{◌∙◌, rules}
use Rattle.neat_rules.specs.State.{Commit}
use Rattle.neat.specs.Parts.{as_slot}
use Rattle.neat.proofs.Sent.{sent_released}
use Rattle.neat.proofs.slot.Slot.release.Goals as goal

pub returns-clause-slot : goal.returns-clause-slot
returns-clause-slot c = c.send.ensures.slot Commit (λ b m e. search rules) ∙ sent_released (as_slot c.args.self.now).line (as_slot c.args.self.now).place
