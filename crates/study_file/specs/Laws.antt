-- Which files are accepted, and what a fault says of a file, without its reader.
use Rattle.std.specs.Prelude.{◌≡◌, ℕ, ◌+◌, ◌<◌, ◌≤◌, ◌⊎◌, ◌↔◌, List, [], ◌∷◌, ◌++◌, length, take, drop, Some, None, Ok, Err, Option, Result, ◌≢◌, slice_index}
use Rattle.protocol.specs.declared.steps.Step.{Step}
use Rattle.bench.specs.declared.faults.Cause.{Cause}
use Rattle.bench.specs.declared.faults.Cause.TheVariants.{CutShort, UnknownKind, WrongLength, ProtocolNotFirst, UnknownCode, TooLong}
use Rattle.bench.specs.declared.faults.Layer.{Layer}
use Rattle.bench.specs.declared.faults.Layer.TheVariants.{Reader, Plan as PlanLayer}
use Rattle.bench.specs.declared.faults.Fault.{Fault}
use Rattle.study_file.specs.declared.codes.Code.{Code}
use Rattle.study_file.specs.declared.codes.Kind.{Kind}
use Rattle.study_file.specs.declared.codes.Kind.TheVariants.{Protocol}
use Rattle.study_file.specs.declared.plans.Plan.{Plan}
use Rattle.study_file.specs.declared.plans.Failure.{Failure}
use Rattle.study_file.specs.Codes.{code_number, kind_number, fields_of}
use Rattle.study_file.specs.Records.{most_bytes, two_bytes, reader_fault}
use Rattle.study_file.specs.Plans.{Asked, asked, most_steps, plan_fault, read_file}
use Rattle.study_file.specs.Files.{file_of}
use Rattle.study_file.specs.Writer.{write_file}

-- A sound file has at most 32,768 bytes, and is the record that names a protocol by its code, followed by the records of at most 4,096
-- steps.
pub record SoundFile (file : List ℕ) (x : Asked) : Type 0 where
  pub short : length file ≤ most_bytes
  pub few : length x.steps ≤ most_steps
  pub bytes : file ≡ file_of x.code x.steps

-- The checks of a record.
pub data Check : Type 0 where
  Whole LengthOfTwo KnownKind LengthOfKind ProtocolFirst KnownCode RoomForStep : Check

-- Their order.
abbrev pub every_check : List Check
every_check = Whole ∷ (LengthOfTwo ∷ (KnownKind ∷ (LengthOfKind ∷ (ProtocolFirst ∷ (KnownCode ∷ (RoomForStep ∷ []))))))

-- The cause of the fault where a check fails.
abbrev pub cause_of : Check → Cause
cause_of Whole = CutShort
cause_of LengthOfTwo = WrongLength
cause_of KnownKind = UnknownKind
cause_of LengthOfKind = WrongLength
cause_of ProtocolFirst = ProtocolNotFirst
cause_of KnownCode = UnknownCode
cause_of RoomForStep = TooLong

-- The layer that finds it.
abbrev pub layer_of : Check → Layer
layer_of Whole = Reader
layer_of LengthOfTwo = Reader
layer_of KnownKind = Reader
layer_of LengthOfKind = Reader
layer_of ProtocolFirst = PlanLayer
layer_of KnownCode = PlanLayer
layer_of RoomForStep = Reader

-- The length that the record at the start of some bytes says it has.
abbrev pub length_at : List ℕ → ℕ
length_at rest = two_bytes (slice_index rest 0) (slice_index rest 1)

-- The number of the kind that it says it is.
abbrev pub kind_at : List ℕ → ℕ
kind_at rest = two_bytes (slice_index rest 2) (slice_index rest 3)

-- The bytes before a place where sound records stand: no record, or those of a code and steps.
abbrev pub bytes_before : Option Asked → List ℕ
bytes_before None = []
bytes_before (Some x) = file_of x.code x.steps

-- How many of those are steps.
abbrev pub steps_before : Option Asked → ℕ
steps_before None = 0
steps_before (Some x) = length x.steps

-- The record names the protocol exactly if it is the first.
abbrev pub NamedFirst : Option Asked → List ℕ → Type 0
NamedFirst None rest = kind_at rest ≡ kind_number Protocol
NamedFirst (Some x) rest = kind_at rest ≡ kind_number Protocol → ⊥

-- When the record at the start of some bytes passes a check: its two length bytes and as many bytes as they say are there; that is at least
-- two; it is of a known kind; it has that kind's fields; it names the protocol exactly if it is the first; if it names it, by a known
-- code; if it is a step, at most 4,095 are before it.
abbrev pub Passes : Option Asked → List ℕ → Check → Type 0
Passes b rest Whole = (2 ≤ length rest) × (2 + length_at rest ≤ length rest)
Passes b rest LengthOfTwo = 2 ≤ length_at rest
Passes b rest KnownKind = (k : Kind) × (kind_number k ≡ kind_at rest)
Passes b rest LengthOfKind = (k : Kind) × (kind_number k ≡ kind_at rest) × (2 + fields_of k ≡ length_at rest)
Passes b rest ProtocolFirst = NamedFirst b rest
Passes b rest KnownCode = kind_at rest ≡ kind_number Protocol → (c : Code) × (code_number c ≡ slice_index rest 4)
Passes b rest RoomForStep = (kind_at rest ≢ kind_number Protocol) → steps_before b < most_steps

-- A check is the first of a list that fails.
abbrev pub FirstFailed : (Check → Type 0) → List Check → Check → Type 0
FirstFailed P [] why = ⊥
FirstFailed P (c ∷ cs) why = ((c ≡ why) × (P c → ⊥)) ⊎ (P c × FirstFailed P cs why)

-- What a fault says of a file: it has more than 32,768 bytes; or it has none; or everything before the fault's place is sound records, and
-- the check of the fault's cause is the first that the record at that place fails.
pub data Faulty (file : List ℕ) : Fault → Type 0 where
  more_bytes : most_bytes < length file → Faulty file (reader_fault TooLong most_bytes)
  no_record : length file ≡ 0 → Faulty file (plan_fault ProtocolNotFirst 0)
  bad_record : (before : Option Asked) (rest : List ℕ) (why : Check) → length file ≤ most_bytes → steps_before before ≤ most_steps → file ≡ bytes_before before ++ rest → 0 < length rest → FirstFailed (Passes before rest) every_check why → Faulty file (record { cause = cause_of why; place = length (bytes_before before); layer = layer_of why })

-- A file is accepted, as what it asks for, exactly if it is sound, and has a fault exactly if it is faulty so.
pub record Exact (file : List ℕ) : Type 0 where
  pub accepted : (x : Asked) → read_file file ≡ Ok x ↔ SoundFile file x
  pub turned_down : (e : Fault) → read_file file ≡ Err e ↔ Faulty file e

-- Writing an accepted file's plan gives the file back.
abbrev pub WritesBack : List ℕ → Result Plan Failure → Type 0
WritesBack file (Ok plan) = (buffer : List ℕ) → length file ≤ length buffer → write_file (code_number plan.code) (asked plan).steps buffer ≡ (Ok (length file), file ++ drop (length file) buffer)
WritesBack file (Err e) = Unit {0}

-- What is written reads back as the same code and steps.
abbrev pub ReadsBack : ℕ → List Step → Result ℕ Fault → List ℕ → Type 0
ReadsBack n ks (Ok size) buffer = (c : Code) × (code_number c ≡ n) × (read_file (take size buffer) ≡ Ok (record { code = c; steps = ks }))
ReadsBack n ks (Err e) buffer = Unit {0}
