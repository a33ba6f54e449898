use Rattle.std.proofs.Common.{ℕ, [], replicate, refl, ap₂}
use mathlib.Core.Path.{fun_ext}
use Rattle.neat_rules.specs.State.{Core}
use Rattle.neat.specs.Blocks.{as_bytes}
use Rattle.neat.specs.Parts.{as_core, no_core}
use Rattle.neat.specs.Whole.{no_part}
use Rattle.neat.proofs.Whole.{all_same}
use Rattle.neat.proofs.caches.Caches.new.Goals as goal

pub returns : goal.returns
returns c =
    ap₂ (λ (f : ℕ → Core) (g : ℕ → ℕ → ℕ). record { cores = f; llc = g }) (fun_ext (all_same as_core c.new.result no_part no_core c.new.ensures refl 8))
    (fun_ext (all_same as_bytes (replicate 8 0) [] (λ (o : ℕ). 0) (fun_ext (all_same (λ (y : ℕ). y) 0 0 0 refl refl 8)) refl 8))
