-- A write into a core's table of slots, read as the rules' change of one slot.
use Rattle.std.proofs.Common.{◌≡◌, ℕ, ◌<◌, List, length, set, ap, ◌∙◌, ap₂, arith}
use Rattle.protocol.specs.declared.steps.Reply.{Reply}
use Rattle.neat_rules.specs.State.{with_at, with_slot, Slot, Core}
use Rattle.neat.specs.declared.slot.Slot.{Slot as CodeSlot}
use Rattle.neat.specs.declared.core_part.CorePart.{CorePart}
use Rattle.neat.specs.Parts.{as_slot, as_slots, no_slot, as_closing, as_activity, as_core}
use Rattle.neat.proofs.Arrays.{array_set}

-- The slot of line l becomes U of what it was.
pub slot_changed : (U : Slot → Slot) (vs : List CodeSlot) (i l : ℕ) (v : CodeSlot) → length vs ≡ 8 → l < 8 → i ≡ l → as_slot v ≡ U (as_slots vs i) → as_slots (set vs i v) ≡ with_at (as_slots vs) l (U (as_slots vs l))
slot_changed U vs i l v h lt e u =
    array_set as_slot no_slot vs i v (omega arith)
    ∙ ap (with_at (as_slots vs) i) u
    ∙ ap (λ (k : ℕ). with_at (as_slots vs) k (U (as_slots vs k))) e

-- The same in a core's part.
pub part_changed : (U : Slot → Slot) (x : CorePart) (i l : ℕ) (v : CodeSlot) → length x.slots ≡ 8 → l < 8 → i ≡ l → as_slot v ≡ U (as_slots x.slots i) → as_core (record { slots = set x.slots i v; closing = x.closing; received = x.received; activity = x.activity }) ≡ with_slot (as_core x) l (U ((as_core x).slot l))
part_changed U x i l v h lt e u = ap (λ (f : ℕ → Slot). record { slot = f; closing = as_closing x.closing; received = x.received; activity = as_activity x.activity }) (slot_changed U x.slots i l v h lt e u)

-- An answer and a core's part, one after the other.
pub both : {r q : Reply} {x y : Core} → r ≡ q → x ≡ y → ◌≡◌ {A = Reply × Core} (r, x) (q, y)
both e f = ap₂ (λ (a : Reply) (b : Core). pair a b) e f
  where
    pair : Reply → Core → Reply × Core
    pair a b = (a, b)
