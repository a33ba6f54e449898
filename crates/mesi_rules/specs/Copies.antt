-- The copies of one line at the eight cores.
use Rattle.std.specs.Prelude.{ℕ, Bool, true, false, not, List, [], ◌∷◌, Some, None, Option, unwrap_or, slice_set}
use Rattle.std.specs.List.{list_any}
use Rattle.mesi_rules.specs.declared.copies.PrivateLine.{PrivateLine}
use Rattle.mesi_rules.specs.declared.copies.PrivateLine.TheVariants.{Invalid, Shared, Exclusive, Modified}

-- A core holds a line in S, E or M.
abbrev pub holds : PrivateLine → Bool
holds Invalid = false
holds (Shared d) = true
holds (Exclusive d) = true
holds (Modified d) = true

-- A core owns a line in E or M.
abbrev pub owns : PrivateLine → Bool
owns Invalid = false
owns (Shared d) = false
owns (Exclusive d) = true
owns (Modified d) = true

-- A core has a line in M.
abbrev pub is_modified : PrivateLine → Bool
is_modified Invalid = false
is_modified (Shared d) = false
is_modified (Exclusive d) = false
is_modified (Modified d) = true

-- An M copy with byte b written at offset o.
abbrev pub written : ℕ → ℕ → PrivateLine → PrivateLine
written o b Invalid = Invalid
written o b (Shared d) = Shared d
written o b (Exclusive d) = Exclusive d
written o b (Modified d) = Modified (slice_set d o b)

-- Another core's load leaves S where M or E was.
abbrev pub downgraded : PrivateLine → PrivateLine
downgraded Invalid = Invalid
downgraded (Shared d) = Shared d
downgraded (Exclusive d) = Shared d
downgraded (Modified d) = Shared d

-- The line of a copy, for a core that holds it.
abbrev pub held_line : PrivateLine → Option (List ℕ)
held_line Invalid = None
held_line (Shared d) = Some d
held_line (Exclusive d) = Some d
held_line (Modified d) = Some d

-- The line of a copy, or the given line for a core that holds none.
abbrev pub held_or : List ℕ → PrivateLine → List ℕ
held_or line x = unwrap_or (held_line x) line

-- The line of an M copy.
abbrev pub modified_line : PrivateLine → Option (List ℕ)
modified_line Invalid = None
modified_line (Shared d) = None
modified_line (Exclusive d) = None
modified_line (Modified d) = Some d

-- A loader's new copy is S if another core holds the line, else E.
abbrev pub fetched : Bool → List ℕ → PrivateLine
fetched true line = Shared line
fetched false line = Exclusive line

-- The line of an M copy, or the given line where there is none.
abbrev pub modified_or : List ℕ → List PrivateLine → List ℕ
modified_or line [] = line
modified_or line (x ∷ xs) = unwrap_or (modified_line x) (modified_or line xs)

-- Never M or E at one core and anything but I at another: beside S no core owns the line, beside E or M no core holds it.
abbrev pub owner_alone : List PrivateLine → Bool
owner_alone [] = true
owner_alone (Invalid ∷ xs) = owner_alone xs
owner_alone (Shared d ∷ xs) = not (list_any owns xs)
owner_alone (Exclusive d ∷ xs) = not (list_any holds xs)
owner_alone (Modified d ∷ xs) = not (list_any holds xs)
