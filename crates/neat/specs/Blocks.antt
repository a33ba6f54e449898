-- How bytes and write bits of the code are read as those of the rules.
use Rattle.std.specs.Prelude.{ℕ, ◌/◌, ◌%◌, ◌^◌, Bool, List, ◌==◌, slice_index}
use Rattle.neat_rules.specs.State.{Block}
use Rattle.neat.specs.declared.block.Block.{Block as CodeBlock}

-- The byte at each offset.
abbrev pub as_bytes : List ℕ → ℕ → ℕ
as_bytes xs o = slice_index xs o

-- The write bit at each offset: bit o of the mask.
abbrev pub as_bits : ℕ → ℕ → Bool
as_bits m o = m / 2 ^ o % 2 == 1

-- Bytes and a mask.
abbrev pub block_of : List ℕ → ℕ → Block
block_of xs m = record { bytes = as_bytes xs; written = as_bits m }

abbrev pub as_block : CodeBlock → Block
as_block b = block_of b.bytes b.written
