-- The number of each protocol code and of each kind of record.
use Rattle.std.specs.Prelude.{ℕ, cond, List, [], ◌∷◌, Some, None, Option, ◌==◌}
use Rattle.study_file.specs.declared.codes.Code.{Code}
use Rattle.study_file.specs.declared.codes.Code.TheVariants.{Neat, Mesi, BufferedNeat, BufferedMesi}
use Rattle.study_file.specs.declared.codes.Kind.{Kind}
use Rattle.study_file.specs.declared.codes.Kind.TheVariants.{Protocol, Load, Store, Acquire, Release, Evict, Move}

-- 1 is Neat, 2 MESI, 3 a store buffer over Neat, 4 a store buffer over MESI.
abbrev pub code_number : Code → ℕ
code_number Neat = 1
code_number Mesi = 2
code_number BufferedNeat = 3
code_number BufferedMesi = 4

-- 1 names the protocol, 2 is a load, 3 a store, 4 an acquire, 5 a release, 6 an evict, 7 a move.
abbrev pub kind_number : Kind → ℕ
kind_number Protocol = 1
kind_number Load = 2
kind_number Store = 3
kind_number Acquire = 4
kind_number Release = 5
kind_number Evict = 6
kind_number Move = 7

-- How many fields a record has, one byte each: a protocol its code; a load core and address; a store core, address and byte; an acquire
-- and a release a core; an evict core and line; a move a place.
abbrev pub fields_of : Kind → ℕ
fields_of Protocol = 1
fields_of Load = 2
fields_of Store = 3
fields_of Acquire = 1
fields_of Release = 1
fields_of Evict = 2
fields_of Move = 1

-- The first of some things that has a number, or none.
abbrev pub numbered_among : {X : Type 0} → (X → ℕ) → List X → ℕ → Option X
numbered_among number [] n = None
numbered_among number (x ∷ xs) n = cond (n == number x) (Some x) (numbered_among number xs n)

-- The codes that there are.
abbrev pub every_code : List Code
every_code = Neat ∷ (Mesi ∷ (BufferedNeat ∷ (BufferedMesi ∷ [])))

-- The kinds that there are.
abbrev pub every_kind : List Kind
every_kind = Protocol ∷ (Load ∷ (Store ∷ (Acquire ∷ (Release ∷ (Evict ∷ (Move ∷ []))))))

-- The code of a number: known are the numbers of the four codes.
abbrev pub code_named : ℕ → Option Code
code_named n = numbered_among code_number every_code n

-- The kind of a number: known are the numbers of the seven kinds.
abbrev pub kind_named : ℕ → Option Kind
kind_named n = numbered_among kind_number every_kind n
