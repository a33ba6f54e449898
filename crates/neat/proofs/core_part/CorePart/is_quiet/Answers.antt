-- The fold adds the place of each slot.
use Rattle.std.proofs.Common.{◌≡◌, ◌∙◌, not, ◌&&◌, sym, ap, refl, subst, arith, rules}
use Rattle.std.specs.List.{list_any}
use Rattle.std.proofs.lemmas.Fn.{fold_over, slice_gives, fronts}
use Rattle.neat_rules.specs.State.{some_below}
use Rattle.neat_rules.specs.Reading.{carries, close_carries}
use Rattle.neat.specs.Parts.{as_slot, as_slots, as_closing}
use Rattle.neat.proofs.Settling.{some_slot, any_push}
use Rattle.neat.proofs.core_part.CorePart.is_quiet.Goals as goal
use Rattle.neat.proofs.core_part.CorePart.is_quiet.Goals.{After-fold-open}

some_open : (c : After-fold-open) → c.fold-open.result ≡ some_below 8 (λ l. carries (as_slots c.args.self.now.slots l).place)
some_open c =
    subst (λ l. c.fold-open.result ≡ list_any (λ v. carries (as_slot v).place) l) c.iter.ensures.rest
    (fold_over fronts (λ y. y.now) _ (λ ys a. a ≡ list_any (λ v. carries (as_slot v).place) ys) _ (λ ys a x b f' j k. search (rules, any_push (λ v. carries (as_slot v).place) ys x.now a b j))
    _ _ _ _ (slice_gives c.iter.result) refl c.fold-open.ensures.ran)
    ∙ some_slot (λ v. carries v.place) c.args.self.now.slots (omega arith)

pub returns-then-not-open : goal.returns-then-not-open
returns-then-not-open c =
    ap not c.close_carries.ensures ∙ sym (ap (λ t. not t && not (close_carries (as_closing c.args.self.now.closing))) (sym (some_open (goal.at.returns-then-not-open c).After-fold-open) ∙ c.if-not-open.true))

pub returns-else-not-open : goal.returns-else-not-open
returns-else-not-open c =
    ap not c.if-not-open.false ∙ sym (ap (λ t. not t && not (close_carries (as_closing c.args.self.now.closing))) (sym (some_open (goal.at.returns-else-not-open c).After-fold-open) ∙ c.if-not-open.false))
