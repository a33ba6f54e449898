-- The search goes on past a quiet core or a place that is not open, and ends at one that is.
use Rattle.std.proofs.Common.{sym, ◌∙◌, arith}
use Rattle.neat.specs.Whole.{as_state}
use Rattle.neat.proofs.Opening.{search_more, search_found}
use Rattle.neat.proofs.neat_protocol.NeatProtocol.next_open.Goals as goal

pub returns-then-is_open : goal.returns-then-is_open
returns-then-is_open c = search_found (as_state c.args.self.now.caches) c.loop-number.number (omega arith) (sym c.if-is_open.ensures) ∙ sym c.loop-number.invariant

pub loop-number-preserved : goal.loop-number-preserved
loop-number-preserved c = c.loop-number.invariant ∙ search_more (as_state c.args.self.now.caches) c.loop-number.number (omega arith) (sym c.if-is_open.ensures)
