use Rattle.std.proofs.Common.{◌≡◌, ℕ, Some, sym, ap, ◌∙◌, ap₂}
use Rattle.protocol.specs.Cells.{offset_of}
use Rattle.protocol.specs.declared.steps.Ended.TheVariants.{Stored}
use Rattle.protocol.specs.declared.steps.Reply.TheVariants.{Finished}
use Rattle.neat_rules.specs.State.{Core, Slot, Activity, Idle, Storing, V, Empty, clean, stored, with_slot, with_activity}
use Rattle.neat_rules.specs.Rules.{done, data_moved}
use Rattle.neat_rules.proofs.Tables.{with_at_here}
use Rattle.neat.specs.declared.core_part.Activity.TheVariants as code
use Rattle.neat.specs.Blocks.{as_bytes}
use Rattle.neat.specs.Lines.{written_in}
use Rattle.neat.specs.Parts.{as_activity, as_core, stored_in, filled}
use Rattle.neat.proofs.Parts.{both}
use Rattle.neat.proofs.core_part.CorePart.data_moved.Goals as goal

-- The rule at a part y that is filled and does w.
by_activity : (w : Activity) (x y : Core) (d : ℕ → ℕ) (c l : ℕ) → y ≡ filled x l d → y.activity ≡ w → done w d c l y ≡ data_moved d c l x
by_activity w x y d c l e f = ap (λ (v : Activity). done v d c l y) (sym f) ∙ ap (λ (z : Core). done z.activity d c l z) e

-- A byte stored in a filled line.
filled_stored : (x y : Core) (d : ℕ → ℕ) (l o b : ℕ) → y ≡ filled x l d → stored_in y l o b ≡ with_slot y l (record { line = V (stored (clean d) o b); place = Empty })
filled_stored x y d l o b e = ap (λ (u : Slot). with_slot y l (record { line = written_in u.line o b; place = u.place })) (ap (λ (z : Core). z.slot l) e ∙ with_at_here x.slot l (record { line = V (clean d); place = Empty }))

pub returns-in-Some-Storing : goal.returns-in-Some-Storing
returns-in-Some-Storing c =
    let waits : c.fill.new.self.activity ≡ Some c.in-Some-Storing.field-0 = c.in-Some-Storing.is in
    let stores : c.in-Some-Storing.field-0 ≡ code.Storing c.in-Some-Storing.address c.in-Some-Storing.byte = rw c.in-Some-Storing.is at c.in-Some-Storing.field-0-is in
    both (c.finish-in-Some-Storing.ensures.reply ∙ ap₂ (λ (n a : ℕ). Finished (Stored n a c.in-Some-Storing.byte)) c.into-in-Some-Storing.ensures c.into-in-Some-Storing-2.ensures)
    (c.finish-in-Some-Storing.ensures.core ∙ ap (λ (z : Core). with_activity z Idle) (c.write.ensures ∙ ap (λ (o : ℕ). stored_in (as_core c.fill.new.self) c.args.line.number o c.in-Some-Storing.byte) c.offset-in-Some-Storing.ensures ∙ filled_stored (as_core c.args.self.now) (as_core c.fill.new.self) (as_bytes c.args.bytes) c.args.line.number (offset_of c.in-Some-Storing.address.number) c.in-Some-Storing.byte c.fill.ensures))
    ∙ by_activity (Storing c.in-Some-Storing.address.number c.in-Some-Storing.byte) (as_core c.args.self.now) (as_core c.fill.new.self) (as_bytes c.args.bytes) c.args.core.number c.args.line.number c.fill.ensures (ap as_activity waits ∙ ap (λ w. as_activity (Some w)) stores)
