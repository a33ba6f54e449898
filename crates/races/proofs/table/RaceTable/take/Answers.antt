-- Each store is changed as the definition says.
use Rattle.std.proofs.Common.{rules, arith}
use Rattle.races.specs.Table.{acquired_by, released_by}
use Rattle.races.proofs.table.RaceTable.take.Goals as goal

pub returns-in-Ok : goal.returns-in-Ok
returns-in-Ok c = let h = c.change_each.ensures (acquired_by c.in-Ok.core.number) (λ e n r p. search rules) in grind arith

pub returns-in-Released : goal.returns-in-Released
returns-in-Released c = let h = c.change_each-in-Released.ensures (released_by c.in-Released.core) (λ e n r p. search rules) in grind arith
