-- The bytes of a file, record by record.
use Rattle.std.specs.Prelude.{ℕ, ◌+◌, ◌/◌, ◌%◌, List, [], ◌∷◌, ◌++◌, length}
use Rattle.std.specs.List.{flat_map}
use Rattle.protocol.specs.declared.steps.Step.{Step}
use Rattle.protocol.specs.declared.steps.Step.TheVariants.{Load, Store, Acquire, Release, Evict, Move}
use Rattle.study_file.specs.declared.codes.Code.{Code}
use Rattle.study_file.specs.declared.codes.Kind.{Kind}
use Rattle.study_file.specs.declared.codes.Kind.TheVariants.{Protocol, Load as ALoad, Store as AStore, Acquire as AnAcquire, Release as ARelease, Evict as AnEvict, Move as AMove}
use Rattle.study_file.specs.Codes.{code_number, kind_number}

-- A number as two bytes, the low one first.
abbrev pub bytes_of : ℕ → List ℕ
bytes_of n = (n % 256) ∷ ((n / 256) ∷ [])

-- A record: its length, which counts what follows it, its kind, and its body.
abbrev pub record_of : Kind → List ℕ → List ℕ
record_of k body = bytes_of (2 + length body) ++ (bytes_of (kind_number k) ++ body)

-- The kind of the record of a step.
abbrev pub kind_of : Step → Kind
kind_of (Load c a) = ALoad
kind_of (Store c a b) = AStore
kind_of (Acquire c) = AnAcquire
kind_of (Release c) = ARelease
kind_of (Evict c l) = AnEvict
kind_of (Move p) = AMove

-- The fields of a step in order: core, then address or line, then byte; the place of a move.
abbrev pub fields : Step → List ℕ
fields (Load c a) = c ∷ (a ∷ [])
fields (Store c a b) = c ∷ (a ∷ (b ∷ []))
fields (Acquire c) = c ∷ []
fields (Release c) = c ∷ []
fields (Evict c l) = c ∷ (l ∷ [])
fields (Move p) = p ∷ []

-- The record of a step.
abbrev pub step_record : Step → List ℕ
step_record k = record_of (kind_of k) (fields k)

-- The record that names a protocol: its one field is the code's number.
abbrev pub code_record : Code → List ℕ
code_record c = record_of Protocol (code_number c ∷ [])

-- The file of a code and steps: the record that names the protocol, then a record for each step.
abbrev pub file_of : Code → List Step → List ℕ
file_of c ks = code_record c ++ flat_map step_record ks
