-- Private lines of the code, read as those of the rules.
use Rattle.std.specs.Prelude.{ℕ, cond, Some, None, Option}
use Rattle.neat_rules.specs.State.{Block, dirty, clean, stored, Line, I, V, Place, Slot}
use Rattle.neat.specs.declared.block.Block.{Block as CodeBlock}
use Rattle.neat.specs.Blocks.{as_block}

-- A private line is nothing, or its block.
abbrev pub as_line : Option CodeBlock → Line
as_line None = I
as_line (Some b) = V (as_block b)

-- A V line with a byte stored at offset o.
abbrev pub written_in : Line → ℕ → ℕ → Line
written_in I o y = I
written_in (V b) o y = V (stored b o y)

-- A dirty line goes out in a message; its write bits are cleared and it is kept V.
abbrev pub sent_as : (Block → Place) → Line → Place → Slot
sent_as rule I p = record { line = I; place = p }
sent_as rule (V b) p = cond (dirty b) (record { line = V (clean b.bytes); place = rule b }) (record { line = V b; place = p })
