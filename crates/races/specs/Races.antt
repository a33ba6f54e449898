-- Data races, which go by the ended calls of the log, the newest first.
use Rattle.std.specs.Prelude.{ℕ, min, Bool, true, false, cond, not, ◌&&◌, ◌||◌, List, [], ◌∷◌, length, is_some, Some, None, Option, ◌==◌}
use Rattle.protocol.specs.declared.steps.Ended.{Ended}
use Rattle.protocol.specs.declared.steps.Ended.TheVariants.{Loaded, Stored, Acquired, Released, Evicted}

-- A store: the core that made it, and its byte.
pub record Written : Type 0 where
  pub core : ℕ
  pub byte : ℕ

-- The store to a that a call is, or none.
abbrev pub store_at : ℕ → Ended → Option Written
store_at a (Loaded c e b) = None
store_at a (Stored c e b) = cond (e == a) (Some (record { core = c; byte = b })) None
store_at a (Acquired c) = None
store_at a (Released c) = None
store_at a (Evicted c l) = None

abbrev pub else_earlier : Option Written → Option Written → Option Written
else_earlier (Some w) earlier = Some w
else_earlier None earlier = earlier

-- The newest store to a.
abbrev pub newest : ℕ → List Ended → Option Written
newest a [] = None
newest a (x ∷ xs) = else_earlier (store_at a x) (newest a xs)

-- The calls that ended after the newest store to a, all of them if there is none.
abbrev pub since : ℕ → List Ended → List Ended
since a [] = []
since a (x ∷ xs) = cond (is_some (store_at a x)) [] (x ∷ since a xs)

-- The call is a release by d.
abbrev pub releases : ℕ → Ended → Bool
releases d (Loaded c a b) = false
releases d (Stored c a b) = false
releases d (Acquired c) = false
releases d (Released c) = d == c
releases d (Evicted c l) = false

-- The call is an acquire of c.
abbrev pub acquires : ℕ → Ended → Bool
acquires c (Loaded d a b) = false
acquires c (Stored d a b) = false
acquires c (Acquired d) = d == c
acquires c (Released d) = false
acquires c (Evicted d l) = false

-- Some of the calls is a release by d.
abbrev pub released : ℕ → List Ended → Bool
released d [] = false
released d (x ∷ xs) = releases d x || released d xs

-- Among the calls is a release by d, followed by an acquire of c.
abbrev pub handed_over : ℕ → ℕ → List Ended → Bool
handed_over d c [] = false
handed_over d c (x ∷ xs) = (acquires c x && released d xs) || handed_over d c xs

-- Core c races with a store by another core d if no release by d, followed by an acquire of c, ended in between.
abbrev pub races_with : ℕ → Option Written → List Ended → Bool
races_with c None between = false
races_with c (Some w) between = not (w.core == c) && not (handed_over w.core c between)

-- A load or store races, the earlier ended calls given, exactly if it races with the newest earlier store to its address.
abbrev pub races : Ended → List Ended → Bool
races (Loaded c a b) earlier = races_with c (newest a earlier) (since a earlier)
races (Stored c a b) earlier = races_with c (newest a earlier) (since a earlier)
races (Acquired c) earlier = false
races (Released c) earlier = false
races (Evicted c l) earlier = false

abbrev pub any_race : List Ended → Bool
any_race [] = false
any_race (x ∷ xs) = races x xs || any_race xs

-- The number of the newest call: calls are numbered from 1 as they end, and any past 65,535 has that number.
abbrev pub number : List Ended → ℕ
number xs = min (length xs) 65535

abbrev pub first_number : Bool → ℕ → ℕ
first_number true n = n
first_number false n = 0

-- The number of the first race, or 0 if there is none.
abbrev pub first_race : List Ended → ℕ
first_race [] = 0
first_race (x ∷ xs) = cond (any_race xs) (first_race xs) (first_number (races x xs) (number (x ∷ xs)))
