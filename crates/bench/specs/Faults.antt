-- The number of each cause and of each layer, and the fault of a run that lacks room.
use Rattle.std.specs.Prelude.{ℕ}
use Rattle.bench.specs.declared.faults.Cause.{Cause}
use Rattle.bench.specs.declared.faults.Cause.TheVariants.{CutShort, UnknownKind, WrongLength, ProtocolNotFirst, UnknownCode, TooLong, OutputTooShort, TooFewOutcomes}
use Rattle.bench.specs.declared.faults.Layer.{Layer}
use Rattle.bench.specs.declared.faults.Layer.TheVariants.{Reader, Plan, Caller}
use Rattle.bench.specs.declared.faults.Fault.{Fault}

abbrev pub cause_number : Cause → ℕ
cause_number CutShort = 5
cause_number UnknownKind = 6
cause_number WrongLength = 7
cause_number ProtocolNotFirst = 8
cause_number UnknownCode = 9
cause_number TooLong = 10
cause_number OutputTooShort = 11
cause_number TooFewOutcomes = 12

abbrev pub layer_number : Layer → ℕ
layer_number Reader = 1
layer_number Plan = 2
layer_number Caller = 3

-- The fault that a layer finds at a place.
abbrev pub fault_of : Layer → Cause → ℕ → Fault
fault_of l e p = record { cause = e; place = p; layer = l }

-- Fewer outcomes than steps: cause 12, place 0, layer 3.
abbrev pub few_outcomes : Fault
few_outcomes = record { cause = TooFewOutcomes; place = 0; layer = Caller }
