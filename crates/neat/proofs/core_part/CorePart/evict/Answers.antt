use Rattle.std.proofs.Common.{ℕ, ap₂, arith}
use Rattle.protocol.specs.declared.steps.Ended.TheVariants.{Evicted}
use Rattle.protocol.specs.declared.steps.Reply.TheVariants.{Ended as AtOnce}
use Rattle.neat_rules.specs.State.{Slot, Put}
use Rattle.neat_rules.specs.Rules.{emptied}
use Rattle.neat.proofs.Parts.{part_changed, both}
use Rattle.neat.proofs.core_part.CorePart.evict.Goals as goal

pub returns : goal.returns
returns c = both (ap₂ (λ (n l : ℕ). AtOnce (Evicted n l)) c.into.ensures c.into-2.ensures) (part_changed (λ (u : Slot). emptied Put u.line u.place) c.args.self.now c.index.result c.args.line.number c.evict.new.self (omega arith) c.args.line.in_range c.index.ensures c.evict.ensures)
