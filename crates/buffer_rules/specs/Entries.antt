-- A core's entries, oldest first.
use Rattle.std.specs.Prelude.{ℕ, cond, List, [], ◌∷◌, ◌++◌, Some, None, Option, ◌==◌}
use Rattle.buffer_rules.specs.declared.entries.Entry.{Entry}

-- Each core has four entries.
abbrev pub capacity : ℕ
capacity = 4

-- An entry is an address and a byte.
abbrev pub entry : ℕ → ℕ → Entry
entry a b = record { address = a; byte = b }

-- The byte of the entry for address a, or none.
abbrev pub found : ℕ → List Entry → Option ℕ
found a [] = None
found a (e ∷ es) = cond (e.address == a) (Some e.byte) (found a es)

-- The entry for address a has byte b now, in its position.
abbrev pub replaced : ℕ → ℕ → List Entry → List Entry
replaced a b [] = []
replaced a b (e ∷ es) = cond (e.address == a) (entry a b ∷ es) (e ∷ replaced a b es)

-- One more entry, the youngest.
abbrev pub added : ℕ → ℕ → List Entry → List Entry
added a b es = es ++ (entry a b ∷ [])

-- The entries without the oldest.
abbrev pub rest : List Entry → List Entry
rest [] = []
rest (e ∷ es) = es
