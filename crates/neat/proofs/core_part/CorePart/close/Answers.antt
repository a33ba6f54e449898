use Rattle.std.proofs.Common.{◌≡◌, ℕ, ◌+◌, ◌≤◌, Bool, true, false, Some, refl, ap, ◌∙◌, subst, if◌then◌else◌, arith}
use Rattle.std.specs.Int.{from_bool}
use Rattle.neat_rules.specs.State.{Slot, Close, total}
use Rattle.neat_rules.specs.Rules.{commits_of}
use Rattle.neat.specs.Parts.{as_slots, as_activity}
use Rattle.neat.proofs.Parts.{both}
use Rattle.neat.proofs.Sending.{none_sent, sent_more, all_sent}
use Rattle.neat.proofs.core_part.CorePart.close.Goals as goal

one_if : (r : Bool) (n : ℕ) → n ≡ from_bool r → (n ≡ (if r then 1 else 0)) × (n ≤ 1)
one_if true n e = (e, omega arith)
one_if false n e = (e, omega arith)

pub loop-slot-init : goal.loop-slot-init
loop-slot-init g c = (λ rule h. none_sent rule c.args.self.now.slots, omega arith)

pub loop-slot-preserved : goal.loop-slot-preserved
loop-slot-preserved g c =
    let one = one_if c.send.result c.from-commits.result c.from-commits.ensures in
    (λ rule h. sent_more rule c.args.self.now.slots c.loop-slot.slot-items c.loop-slot.slot-index c.loop-slot.commits (c.loop-slot.commits + c.from-commits.result) c.from-commits.result _ _ (c.loop-slot.invariant.0 rule h) c.loop-slot-test.true (omega (arith, (c.loop-slot.invariant.0 rule h).same)) (h.slot _ _ _ c.send.ensures) (one.0 ∙ h.commit _ _ _ c.send.ensures) refl, omega arith)

pub returns : goal.returns
returns g c rule h =
    let sent = c.loop-slot.invariant.0 rule h in
    let eight : c.loop-slot.slot-index ≡ 8 = omega arith in
    both refl
    (ap (λ (f : ℕ → Slot). record { slot = f; closing = Close c.loop-slot.commits; received = c.args.self.now.received; activity = as_activity (Some c.args.activity) }) (all_sent rule c.args.self.now.slots c.loop-slot.slot-items c.loop-slot.slot-index c.loop-slot.commits h.nothing sent c.loop-slot-test.false)
    ∙ ap (λ (n : ℕ). record { slot = λ (j : ℕ). rule (as_slots c.args.self.now.slots j).line (as_slots c.args.self.now.slots j).place; closing = Close n; received = c.args.self.now.received; activity = as_activity (Some c.args.activity) })
    (subst (λ (i : ℕ). c.loop-slot.commits ≡ total i (λ j. commits_of (as_slots c.args.self.now.slots j).line)) eight sent.count))
