-- The copies before this one are done.
use Rattle.std.proofs.Common.{◌≡◌, ◌++◌, map, take, drop}
use Rattle.mesi_rules.specs.Copies.{downgraded}
use Rattle.mesi.proofs.copies.downgrade.Given as goal

abbrev pub invariant-loop-copy : goal.invariant-loop-copy
invariant-loop-copy l = l.copies ≡ map downgraded (take l.copy-index l.initial.copies) ++ drop l.copy-index l.initial.copies
