use Rattle.std.proofs.Common.{◌≡◌, ℕ, ◌*◌, ◌%◌, ◌^◌, ◌<◌, Bool, List, length, set, ap, ◌∙◌, ap₂, arith}
use lib.Bits.{bit_or}
use Rattle.std.proofs.lemmas.Nat.{one_shl}
use Rattle.neat_rules.specs.State.{stored}
use Rattle.neat.specs.Blocks.{block_of}
use Rattle.neat.proofs.Arrays.{array_set}
use Rattle.neat.proofs.Bits.{bits_set}
use Rattle.neat.proofs.block.Block.write.Goals as goal

-- A byte is written, and bit o of the mask is set.
block_written : (xs : List ℕ) (m i o y : ℕ) → i ≡ o → o < 8 → length xs ≡ 8 → block_of (set xs i y) (bit_or m (1 * 2 ^ i % 256)) ≡ stored (block_of xs m) o y
block_written xs m i o y e h l =
    ap (λ (a : ℕ). block_of (set xs a y) (bit_or m (1 * 2 ^ a % 256))) e
    ∙ ap (λ (n : ℕ). block_of (set xs o y) (bit_or m n)) (one_shl o 8 h)
    ∙ ap₂ (λ (d : ℕ → ℕ) (w : ℕ → Bool). record { bytes = d; written = w }) (array_set (λ (x : ℕ). x) 0 xs o y (omega arith)) (bits_set m o)

pub returns : goal.returns
returns c = block_written c.args.self.now.bytes c.args.self.now.written c.index-at.result c.args.offset.number c.args.byte c.index-at.ensures c.args.offset.in_range (omega arith)
