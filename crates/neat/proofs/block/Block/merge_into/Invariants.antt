use Rattle.std.proofs.Common.{◌≡◌, ℕ, length}
use Rattle.neat.specs.Blocks.{as_bytes, as_block}
use Rattle.neat.proofs.Merging.{merged_below}
use Rattle.neat.proofs.block.Block.merge_into.Given as goal

abbrev pub invariant-loop-offset : goal.invariant-loop-offset
invariant-loop-offset l = (length l.line ≡ 8) × ((o : ℕ) → as_bytes l.line o ≡ merged_below l.offset (as_block l.self) (as_bytes l.initial.line) o)
