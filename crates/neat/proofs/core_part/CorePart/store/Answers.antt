use Rattle.std.proofs.Common.{◌≡◌, ℕ, sym, ap, ◌∙◌, ap₂, arith}
use Rattle.protocol.specs.Cells.{line_of, offset_of}
use Rattle.protocol.specs.declared.steps.Ended.TheVariants.{Stored}
use Rattle.protocol.specs.declared.steps.Reply.TheVariants.{Ended as AtOnce}
use Rattle.neat_rules.specs.State.{Block, Line, V, Slot, stored}
use Rattle.neat_rules.specs.Rules.{store_with}
use Rattle.neat.specs.Blocks.{as_block}
use Rattle.neat.specs.Lines.{as_line}
use Rattle.neat.specs.Parts.{as_core, as_slots}
use Rattle.neat.proofs.Parts.{both, part_changed}
use Rattle.neat.proofs.core_part.CorePart.store.Goals as goal

pub returns-in-Some : goal.returns-in-Some
returns-in-Some c =
    let x = as_core c.args.self.now in
    let there : c.index.result ≡ line_of c.args.address.number = c.index.ensures ∙ c.line.ensures in
    let valid : (x.slot (line_of c.args.address.number)).line ≡ V (as_block c.in-Some.block) = ap (λ (i : ℕ). (x.slot i).line) (sym there) ∙ ap as_line c.in-Some.is in
    let written : as_block c.write.new.self ≡ stored (as_block c.in-Some.block) (offset_of c.args.address.number) c.args.byte = c.write.ensures ∙ ap (λ (o : ℕ). stored (as_block c.in-Some.block) o c.args.byte) c.offset.ensures in
    both (ap₂ (λ (n a : ℕ). AtOnce (Stored n a c.args.byte)) c.into.ensures c.into-in-Some.ensures)
    (part_changed (λ (u : Slot). record { line = V (stored (as_block c.in-Some.block) (offset_of c.args.address.number) c.args.byte); place = u.place }) c.args.self.now c.index.result (line_of c.args.address.number) _ (omega arith) (omega arith) there (ap (λ (b : Block). record { line = V b; place = (as_slots c.args.self.now.slots c.index.result).place }) written))
    ∙ sym (ap (λ (k : Line). store_with k c.args.core.number c.args.address.number c.args.byte x) valid)
