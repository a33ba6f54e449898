-- The records of a file and the checks of each, in their order.
use Rattle.std.specs.Prelude.{ℕ, ◌+◌, ◌*◌, cond, List, [], ◌∷◌, length, take, drop, Some, None, Ok, Err, Option, Result, ◌==◌, nat_lt}
use Rattle.bench.specs.declared.faults.Cause.{Cause}
use Rattle.bench.specs.declared.faults.Cause.TheVariants.{CutShort, UnknownKind, WrongLength, TooLong}
use Rattle.bench.specs.declared.faults.Layer.TheVariants.{Reader}
use Rattle.bench.specs.declared.faults.Fault.{Fault}
use Rattle.study_file.specs.declared.codes.Kind.{Kind}
use Rattle.study_file.specs.declared.record.Record.{Record}
use Rattle.study_file.specs.Codes.{kind_named, fields_of}

-- A file has at most 32,768 bytes.
abbrev pub most_bytes : ℕ
most_bytes = 32768

-- Lengths and kinds are two bytes, the low one first.
abbrev pub two_bytes : ℕ → ℕ → ℕ
two_bytes low high = low + high * 256

-- A fault that the reader finds in the record at a place.
abbrev pub reader_fault : Cause → ℕ → Fault
reader_fault why p = record { cause = why; place = p; layer = Reader }

-- A sound record: its kind, its body and the place of its first byte.
pub record Found : Type 0 where
  pub kind : Kind
  pub body : List ℕ
  pub place : ℕ

-- A record of known kind is of wrong length if it has not the kind's fields.
abbrev pub by_kind : ℕ → Option Kind → List ℕ → Result Found Fault
by_kind p None bytes = Err (reader_fault UnknownKind p)
by_kind p (Some k) bytes = cond (length bytes == fields_of k) (Ok (record { kind = k; body = bytes; place = p })) (Err (reader_fault WrongLength p))

-- What follows a record's length: a kind, two bytes, and the body. Fewer than two bytes are a wrong length.
abbrev pub content_at : ℕ → List ℕ → Result Found Fault
content_at p [] = Err (reader_fault WrongLength p)
content_at p (x ∷ []) = Err (reader_fault WrongLength p)
content_at p (low ∷ (high ∷ bytes)) = by_kind p (kind_named (two_bytes low high)) bytes

-- The record at place p, where `rest` is the file from there on. It is cut short if one of its two length bytes is missing, or if fewer
-- bytes follow than the length says.
abbrev pub record_at : ℕ → List ℕ → Result Found Fault
record_at p [] = Err (reader_fault CutShort p)
record_at p (x ∷ []) = Err (reader_fault CutShort p)
record_at p (low ∷ (high ∷ rest)) =
    cond (nat_lt (length rest) (two_bytes low high)) (Err (reader_fault CutShort p)) (content_at p (take (two_bytes low high) rest))

-- A record that is there, as the next one.
abbrev pub or_none : Result Found Fault → Result (Option Found) Fault
or_none (Ok r) = Ok (Some r)
or_none (Err e) = Err e

-- The record at place p, or none at the end of the file.
abbrev pub next_at : ℕ → List ℕ → Result (Option Found) Fault
next_at p [] = Ok None
next_at p (x ∷ rest) = or_none (record_at p (x ∷ rest))

-- The next record of a file from place p on. A file that is too long is turned down before all else, and the fault's place is the first
-- byte too many.
abbrev pub next_record : ℕ → List ℕ → Result (Option Found) Fault
next_record p file = cond (nat_lt most_bytes (length file)) (Err (reader_fault TooLong most_bytes)) (next_at p (drop p file))

-- Behind a record the reader's place is that of the byte after it. At the end and at a fault it stays.
abbrev pub place_after : ℕ → Result (Option Found) Fault → ℕ
place_after p (Ok (Some r)) = p + (4 + length r.body)
place_after p (Ok None) = p
place_after p (Err e) = p

-- A record as the reader hands it on, by its kind, the bytes of its body and its place.
abbrev pub held : Record → Found
held r = record { kind = r.kind; body = r.body.now; place = r.place }

-- The same of an answer that has a record, or a fault.
abbrev pub found : Result Record Fault → Result Found Fault
found (Ok r) = Ok (held r)
found (Err e) = Err e

-- The same of an answer that has a record, none, or a fault.
abbrev pub found_next : Result (Option Record) Fault → Result (Option Found) Fault
found_next (Ok (Some r)) = Ok (Some (held r))
found_next (Ok None) = Ok None
found_next (Err e) = Err e
