-- One more entry is changed at each turn, as each change is f, and all of them in the end.
use Rattle.std.proofs.Common.{◌≡◌, ℕ, zero, suc, ◌+◌, ◌<◌, List, [], ◌∷◌, ◌++◌, None, Some, Option, option_map, map, take, drop, length, set, get_or, sym, refl, ap, ◌∙◌, arith, rules}
use Rattle.std.proofs.lemmas.List.{take_all, drop_all, append-nil}
use Rattle.std.proofs.lemmas.List.Edits.{map_over_more}
use Rattle.races.specs.declared.table.Newest.{Newest}
use Rattle.races.proofs.table.change_each.Goals as goal
use Rattle.races.proofs.table.change_each.Goals.{in-Some, in_default}

read_again : (xs : List (Option Newest)) (i : ℕ) (d : Option Newest) → get_or xs i d ≡ get_or xs i (get_or xs i d)
read_again [] i d = refl
read_again (x ∷ xs) zero d = refl
read_again (x ∷ xs) (suc i) d = read_again xs i d

-- The entry o, read at i, is written as f changes it.
changed_more : (f : Newest → Newest) (xs ys : List (Option Newest)) (i : ℕ) (o n : Option Newest) → i < length xs → ys ≡ map (option_map f) (take i xs) ++ drop i xs → get_or ys i None ≡ o → n ≡ option_map f o → set ys i n ≡ map (option_map f) (take (i + 1) xs) ++ drop (i + 1) xs
changed_more f xs ys i o n l h e q = ap (set ys i) (q ∙ ap (option_map f) (sym e)) ∙ map_over_more (option_map f) xs ys i (get_or ys i None) l h (read_again ys i None)

pub loop-entry-preserved : goal.loop-entry-preserved
loop-entry-preserved g c = λ f h.
    let i = c.loop-entry.entry-index in
    let more = changed_more f c.args.newest.now c.loop-entry.newest i in
    let so_far = c.loop-entry.invariant f h in
    elim c.match-entry.branch [
      | in-Some w ↦ w.newest-is ∙ more _ _ (omega arith) so_far w.in-Some.is (ap {B = Option Newest} Some (h _ _ _ w.change.ensures))
      | in_default w ↦ w.newest-is ∙ more _ _ (omega arith) so_far w.in_default.is w.in_default.is
    ]

pub returns : goal.returns
returns g c = λ f h. let e = c.loop-entry.invariant f h in search (rules, take_all, drop_all, append-nil)
