-- What the writer answers, and what its buffer holds after it.
use Rattle.std.specs.Prelude.{ℕ, ◌+◌, cond, List, ◌++◌, length, take, drop, Some, None, Ok, Err, Option, Result, nat_lt}
use Rattle.protocol.specs.declared.steps.Step.{Step}
use Rattle.bench.specs.declared.faults.Cause.{Cause}
use Rattle.bench.specs.declared.faults.Cause.TheVariants.{UnknownCode, TooLong, OutputTooShort}
use Rattle.bench.specs.declared.faults.Layer.TheVariants.{Caller}
use Rattle.bench.specs.declared.faults.Fault.{Fault}
use Rattle.study_file.specs.declared.codes.Code.{Code}
use Rattle.study_file.specs.Codes.{code_named}
use Rattle.study_file.specs.Plans.{most_steps}
use Rattle.study_file.specs.Files.{file_of}

-- A fault of the caller: place 0.
abbrev pub caller_fault : Cause → Fault
caller_fault why = record { cause = why; place = 0; layer = Caller }

-- A buffer with some bytes written into it from a place on.
abbrev pub with_bytes : List ℕ → ℕ → List ℕ → List ℕ
with_bytes buffer at bytes = take at buffer ++ (bytes ++ drop (at + length bytes) buffer)

-- A file goes to the start of a buffer that has room for it, and the rest stays.
abbrev pub put_file : List ℕ → List ℕ → Result ℕ Fault × List ℕ
put_file file buffer =
    cond (nat_lt (length buffer) (length file)) (Err (caller_fault OutputTooShort), buffer) (Ok (length file), file ++ drop (length file) buffer)

-- An unknown code is turned down first, then too many steps, then a buffer that is too short. A buffer that is turned down is untouched.
abbrev pub write_as : Option Code → List Step → List ℕ → Result ℕ Fault × List ℕ
write_as None ks buffer = (Err (caller_fault UnknownCode), buffer)
write_as (Some c) ks buffer = cond (nat_lt most_steps (length ks)) (Err (caller_fault TooLong), buffer) (put_file (file_of c ks) buffer)

-- The answer, a length or a fault, and the buffer after it.
abbrev pub write_file : ℕ → List Step → List ℕ → Result ℕ Fault × List ℕ
write_file n ks buffer = write_as (code_named n) ks buffer
