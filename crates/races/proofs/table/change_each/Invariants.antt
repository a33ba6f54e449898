-- Each entry before the index has been changed, and the rest is as it was.
use Rattle.std.proofs.Common.{◌≡◌, ◌++◌, map, take, drop, option_map}
use Rattle.races.specs.Table.{ChangesBy}
use Rattle.races.specs.declared.table.Newest.{Newest}
use Rattle.races.proofs.table.change_each.Given as goal

abbrev pub invariant-loop-entry : goal.invariant-loop-entry
invariant-loop-entry g l =
    (f : Newest → Newest) → ChangesBy (goal.F-post g l.change) f → l.newest ≡ map (option_map f) (take l.entry-index l.initial.newest) ++ drop l.entry-index l.initial.newest
