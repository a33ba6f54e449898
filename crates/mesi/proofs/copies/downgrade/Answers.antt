-- A map in place, one copy a turn.
use Rattle.std.proofs.Common.{rules}
use Rattle.std.proofs.lemmas.List.Edits.{map_over_more}
use Rattle.mesi_rules.specs.Copies.{downgraded}
use Rattle.mesi.proofs.copies.downgrade.Goals as goal

pub loop-copy-preserved : goal.loop-copy-preserved
loop-copy-preserved c = search (rules, map_over_more downgraded)
