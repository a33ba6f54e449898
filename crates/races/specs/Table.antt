-- The race table: of each address the newest store's core, and once that core has released since, which cores have acquired after that;
-- with the count of ended calls and the number of the first race. It is a summary of the ended calls.
use Rattle.std.specs.Prelude.{◌≡◌, ℕ, ◌+◌, min, Bool, true, false, cond, not, ◌&&◌, List, [], ◌∷◌, map, replicate, Some, None, Option, unwrap_or, option_map, ◌==◌, nat_lt, slice_index_or, slice_set}
use Rattle.std.specs.Borrow.{MutBor}
use Rattle.protocol.specs.declared.steps.Ended.{Ended}
use Rattle.protocol.specs.declared.steps.Ended.TheVariants.{Loaded, Stored, Acquired, Released, Evicted}
use Rattle.protocol.specs.declared.steps.Reply.{Reply}
use Rattle.protocol.specs.declared.steps.Reply.TheVariants.{Refused as TurnedDown, Waits as IsWaiting, Ended as AtOnce, Moved as WasMoved, Finished as WithMove}
use Rattle.races.specs.declared.outcomes.Outcome.{Outcome}
use Rattle.races.specs.declared.outcomes.Outcome.TheVariants.{Refused, Waits, Ended as HasEnded, Moved, Finished}
use Rattle.races.specs.declared.table.Newest.{Newest}
use Rattle.races.specs.declared.table.RaceTable.{RaceTable}
use Rattle.races.specs.Races.{first_number}

-- No store yet.
abbrev pub none_yet : Option Newest
none_yet = None

-- A store by core c has just ended.
abbrev pub stored_by : ℕ → Newest
stored_by c = record { storer = c; acquired = None }

-- A release by core c has ended: it counts if it is the storer's, and from the first on acquires do.
abbrev pub released_by : ℕ → Newest → Newest
released_by c e = cond (e.storer == c) (record { storer = e.storer; acquired = Some (unwrap_or e.acquired (replicate 8 false)) }) e

-- An acquire of core c has ended: it counts after a release by the storer.
abbrev pub acquired_by : ℕ → Newest → Newest
acquired_by c e = record { storer = e.storer; acquired = option_map (λ acquired. slice_set acquired c true) e.acquired }

-- Core c has acquired after a release by the storer.
abbrev pub has_acquired : ℕ → Option (List Bool) → Bool
has_acquired c None = false
has_acquired c (Some acquired) = slice_index_or acquired c false

-- A load or store of core c races with that store.
abbrev pub store_races : ℕ → Newest → Bool
store_races c e = not (e.storer == c) && not (has_acquired c e.acquired)

-- The same of the newest store to an address, if there is one.
abbrev pub entry_races : ℕ → Option Newest → Bool
entry_races c None = false
entry_races c (Some e) = store_races c e

-- A call that is given a store leaves f of it.
abbrev pub ChangesBy : (MutBor Newest → Unit {0} → MutBor Newest → Type 0) → (Newest → Newest) → Type 0
ChangesBy leaves f = (old new : MutBor Newest) (r : Unit {0}) → leaves old r new → new.now ≡ f old.now

-- The newest stores after one more ended call. (No call of a core above 7 or an address above 63 ends.)
abbrev pub stores_after : Ended → List (Option Newest) → List (Option Newest)
stores_after (Loaded c a b) t = t
stores_after (Stored c a b) t = cond (nat_lt a 64) (slice_set t a (Some (stored_by c))) t
stores_after (Acquired c) t = cond (nat_lt c 8) (map (option_map (acquired_by c)) t) t
stores_after (Released c) t = map (option_map (released_by c)) t
stores_after (Evicted c l) t = t

-- Whether a call races, by the newest stores before it.
abbrev pub table_races : Ended → List (Option Newest) → Bool
table_races (Loaded c a b) t = nat_lt c 8 && entry_races c (slice_index_or t a none_yet)
table_races (Stored c a b) t = nat_lt c 8 && entry_races c (slice_index_or t a none_yet)
table_races (Acquired c) t = false
table_races (Released c) t = false
table_races (Evicted c l) t = false

-- The number of the first race, where the call of number n has just ended.
abbrev pub first_after : ℕ → Bool → ℕ → ℕ
first_after first race n = cond (first == 0) (first_number race n) first

-- The table after one more ended call.
abbrev pub noted : RaceTable → Ended → RaceTable
noted w x =
    record {
      newest = stores_after x w.newest;
      ended = min (w.ended + 1) 65535;
      first_race = first_after w.first_race (table_races x w.newest) (min (w.ended + 1) 65535);
    }

-- The table of a study that has just been set up.
abbrev pub start : RaceTable
start = record { newest = replicate 64 none_yet; ended = 0; first_race = 0 }

-- The table that the ended calls make.
abbrev pub table_of : List Ended → RaceTable
table_of [] = start
table_of (x ∷ xs) = noted (table_of xs) x

-- What the bench answers for a reply, and its table after it.
abbrev pub marked : RaceTable → Reply → Outcome × RaceTable
marked w (TurnedDown e) = (Refused e, w)
marked w IsWaiting = (Waits, w)
marked w (AtOnce x) = (HasEnded x (table_races x w.newest), noted w x)
marked w WasMoved = (Moved, w)
marked w (WithMove x) = (Finished x (table_races x w.newest), noted w x)

-- An outcome, the mark apart.
abbrev pub reply_of : Outcome → Reply
reply_of (Refused e) = TurnedDown e
reply_of Waits = IsWaiting
reply_of (HasEnded x race) = AtOnce x
reply_of Moved = WasMoved
reply_of (Finished x race) = WithMove x

-- The race mark of an outcome.
abbrev pub mark_of : Outcome → Bool
mark_of (Refused e) = false
mark_of Waits = false
mark_of (HasEnded x race) = race
mark_of Moved = false
mark_of (Finished x race) = race
