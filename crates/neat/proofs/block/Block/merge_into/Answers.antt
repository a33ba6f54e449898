use Rattle.std.proofs.Common.{◌≡◌, ℕ, ◌+◌, List, get_or, sym, refl, subst, arith}
use Rattle.neat.specs.Blocks.{as_bytes, block_of}
use Rattle.neat.proofs.Merging.{merged_below, written_more, left_more, none_merged, all_merged}
use Rattle.neat.proofs.block.Block.merge_into.Goals as goal
use Rattle.neat.proofs.block.Block.merge_into.Goals.{then-is_written, else-is_written}

pub returns : goal.returns
returns c = all_merged c.loop-offset.offset c.args.self.now.bytes c.args.self.now.written c.args.line.now c.loop-offset.line c.loop-offset-test.false (omega arith) c.told-line c.loop-offset.invariant.1

pub loop-offset-init : goal.loop-offset-init
loop-offset-init c = (c.told-line, none_merged (block_of c.args.self.now.bytes c.args.self.now.written) (as_bytes c.args.line.now))

pub loop-offset-preserved : goal.loop-offset-preserved
loop-offset-preserved c =
    elim c.if-is_written.branch [
      | then-is_written w ↦ (omega arith, subst (λ (xs : List ℕ). (o : ℕ) → as_bytes xs o ≡ merged_below (c.loop-offset.offset + 1) (block_of c.args.self.now.bytes c.args.self.now.written) (as_bytes c.args.line.now) o) (sym w.line-is) (written_more c.loop-offset.offset (block_of c.args.self.now.bytes c.args.self.now.written) (as_bytes c.args.line.now) c.loop-offset.line (get_or c.args.self.now.bytes c.loop-offset.offset 0) (omega arith) (sym w.if-is_written.ensures) refl c.loop-offset.invariant.1))
      | else-is_written w ↦ (omega arith, subst (λ (xs : List ℕ). (o : ℕ) → as_bytes xs o ≡ merged_below (c.loop-offset.offset + 1) (block_of c.args.self.now.bytes c.args.self.now.written) (as_bytes c.args.line.now) o) (sym w.line-is) (left_more c.loop-offset.offset (block_of c.args.self.now.bytes c.args.self.now.written) (as_bytes c.args.line.now) c.loop-offset.line (sym w.if-is_written.ensures) c.loop-offset.invariant.1))
    ]
