use Rattle.std.proofs.Common.{◌≡◌, ap, ◌∙◌, rules, arith}
use Rattle.std.proofs.lemmas.Iterator.{YieldsList-from_slice}
use Rattle.std.proofs.lemmas.Iterator.Search.{any_from_yields_List}
use Rattle.neat.specs.declared.message.Closing.TheVariants.{Shut}
use Rattle.neat.specs.Parts.{as_core, as_slot, as_closing}
use Rattle.neat.proofs.Settling.{is_left, some_slot, none_left, left_there}
use Rattle.neat.proofs.core_part.CorePart.is_settled.Goals as goal

pub returns-then-eq : goal.returns-then-eq
returns-then-eq c =
    let over : c.args.self.now.closing ≡ Shut = search rules in
    none_left (as_core c.args.self.now) c.any.result (ap as_closing over)
    (any_from_yields_List (λ v. is_left (as_slot v)) _ _ c.any.result c.any.ensures.ran (YieldsList-from_slice c.args.self.now.slots cc) (λ x b q k. search (rules, left_there)) ∙ some_slot is_left c.args.self.now.slots (omega arith))
