-- What a slot sends, as the rules of an evict, a release and an acquire say it.
use Rattle.std.proofs.Common.{◌≡◌, Bool, true, false, cond, refl}
use Rattle.neat_rules.specs.State.{Block, Line, I, V, clean, dirty, Place, Commit, Slot}
use Rattle.neat_rules.specs.Rules.{emptied, released}
use Rattle.neat.specs.Lines.{sent_as}

pub sent_released : (k : Line) (p : Place) → sent_as Commit k p ≡ released k p
sent_released I p = refl
sent_released (V b) p = refl

-- A line that is sent and then made I.
pub sent_emptied : (rule : Block → Place) (k : Line) (p : Place) → ◌≡◌ {A = Slot} (record { line = I; place = (sent_as rule k p).place }) (emptied rule k p)
sent_emptied rule I p = refl
sent_emptied rule (V b) p = go (dirty b)
  where
    go : (t : Bool) → ◌≡◌ {A = Slot} (record { line = I; place = (cond {A = Slot} t (record { line = V (clean b.bytes); place = rule b }) (record { line = V b; place = p })).place }) (record { line = I; place = cond t (rule b) p })
    go true = refl
    go false = refl
