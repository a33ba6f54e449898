use Rattle.std.proofs.Common.{sym, ap, ◌∙◌, arith}
use Rattle.neat_rules.specs.State.{Core}
use Rattle.neat_rules.specs.Rules.{close_place_moved}
use Rattle.neat.specs.Whole.{as_state, moved_there}
use Rattle.neat.proofs.Whole.{core_changed, line_changed}
use Rattle.neat.proofs.caches.Caches.deliver.Goals as goal

pub returns-in-Line : goal.returns-in-Line
returns-in-Line c =
    line_changed c.args.self.now.cores c.args.self.now.llc c.index.result c.in-Line.core.number c.index-in-Line.result c.in-Line.line.number c.move_message.new.self c.index-self-index.result c.move_message.new.shared c.move_message.result (omega arith) (omega arith) c.in-Line.core.in_range c.in-Line.line.in_range c.index.ensures c.index-in-Line.ensures c.move_message.ensures.answer c.move_message.ensures.taken
    ∙ sym (ap (moved_there (as_state c.args.self.now)) c.in-Line.is)

pub returns-in-Close : goal.returns-in-Close
returns-in-Close c =
    core_changed (λ (x : Core). close_place_moved x.closing c.in-Close.core.number x) c.args.self.now c.index-in-Close.result c.in-Close.core.number c.move_close.new.self c.index-self-index-in-Close.result c.move_close.result (omega arith) c.in-Close.core.in_range c.index-in-Close.ensures c.move_close.ensures
    ∙ sym (ap (moved_there (as_state c.args.self.now)) c.in-Close.is)
