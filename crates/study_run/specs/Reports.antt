-- The report of a study file, by the rules of the protocol that it names.
use Rattle.std.specs.Prelude.{◌≡◌, ℕ, ◌+◌, cond, List, ◌∷◌, ◌++◌, length, drop, Ok, Err, codes, Result, nat_lt}
use Rattle.protocol.specs.declared.steps.Step.{Step}
use Rattle.protocol.specs.declared.steps.Reply.{Reply}
use Rattle.protocol.specs.Meaning.{Machine}
use Rattle.protocol.specs.Rules.{guarded}
use Rattle.races.specs.Table.{start}
use Rattle.bench.specs.declared.faults.Fault.{Fault}
use Rattle.bench.specs.Computed.{state_after, table_after, outcomes_of}
use Rattle.report.specs.Lines.{line_end}
use Rattle.printing.specs.Page.{report_of, report_length, short_output, Printed}
use Rattle.mesi_rules.specs.Bus as bus
use Rattle.neat_rules.specs.State as neat_state
use Rattle.neat_rules.specs.Rules as neat_rules
use Rattle.neat_rules.specs.Reading as neat_reading
use Rattle.neat_rules.specs.Machine.{neat}
use Rattle.buffer_rules.specs.Buffered.{Pile, empty, buffered, buffer_step}
use Rattle.study_file.specs.declared.codes.Code.{Code}
use Rattle.study_file.specs.declared.codes.Code.TheVariants.{Neat, Mesi, BufferedNeat, BufferedMesi}
use Rattle.study_file.specs.declared.plans.Failure.{Failure}
use Rattle.study_file.specs.declared.plans.Failure.TheVariants.{Fault as HasFault, OutOfMemory}
use Rattle.study_file.specs.Codes.{code_number}
use Rattle.study_file.specs.Plans.{Asked, read_file}

-- The line of the protocol's code.
abbrev pub heading_of : Code → List ℕ
heading_of c = codes "protocol " ++ ((48 + code_number c) ∷ line_end)

-- The report of some steps under the rules f, from the state s on, where `home` is what the image shows in a state.
abbrev pub report_under : {S : Type 0} → (S → Step → Reply × S) → S → (S → ℕ → ℕ) → List ℕ → List Step → List ℕ
report_under f s home heading ks = report_of heading ks (outcomes_of f s start ks) (table_after f s start ks) (home (state_after f s ks))

-- The rules of each protocol, behind the table of refusals.
abbrev pub neat_step : neat_state.State → Step → Reply × neat_state.State
neat_step = guarded neat_reading.moment neat_rules.act

abbrev pub mesi_step : bus.State → Step → Reply × bus.State
mesi_step = guarded bus.moment bus.act

-- A store buffer over a protocol that was cleared.
abbrev pub over : {S : Type 0} → S → Pile S
over s = record { below = s; buffers = λ c. empty }

abbrev pub neat_home : neat_state.State → ℕ → ℕ
neat_home s = (neat_reading.moment s).view.home

abbrev pub mesi_home : bus.State → ℕ → ℕ
mesi_home s = (bus.moment s).view.home

-- The report of some steps under the protocol of a code, from a clear on.
abbrev pub report_by : Code → List Step → List ℕ
report_by Neat ks = report_under neat_step neat_state.start neat_home (heading_of Neat) ks
report_by Mesi ks = report_under mesi_step bus.start mesi_home (heading_of Mesi) ks
report_by BufferedNeat ks = report_under (buffer_step neat_step) (over neat_state.start) (λ p. neat_home p.below) (heading_of BufferedNeat) ks
report_by BufferedMesi ks = report_under (buffer_step mesi_step) (over bus.start) (λ p. mesi_home p.below) (heading_of BufferedMesi) ks

-- A report of n bytes in the start of a buffer, or the fault where the buffer is too short, and the buffer after it.
abbrev pub placed : List ℕ → ℕ → List ℕ → Result ℕ Fault × List ℕ
placed page n out = cond (nat_lt (length out) n) (Err short_output, out) (Ok n, page ++ drop n out)

-- What a plan comes to: its report, or a fault with the buffer as it was.
abbrev pub plan_comes_to : Code → List Step → List ℕ → Result ℕ Fault × List ℕ
plan_comes_to c ks out = placed (report_by c ks) (report_length (length ks)) out

-- What a file comes to: the file's own fault first.
abbrev pub read_comes_to : Result Asked Fault → List ℕ → Result ℕ Fault × List ℕ
read_comes_to (Err f) out = (Err f, out)
read_comes_to (Ok a) out = plan_comes_to a.code a.steps out

abbrev pub file_comes_to : List ℕ → List ℕ → Result ℕ Fault × List ℕ
file_comes_to file out = read_comes_to (read_file file) out

-- The answer and the buffer are the defined ones; want of memory leaves the buffer as it was.
abbrev pub ComesOut : Result ℕ Fault × List ℕ → List ℕ → Result ℕ Failure → List ℕ → Type 0
ComesOut x out (Ok n) new = (Ok n, new) ≡ x
ComesOut x out (Err (HasFault f)) new = (Err f, new) ≡ x
ComesOut x out (Err OutOfMemory) new = new ≡ out

-- The machine of each code.
abbrev pub machine_of : Code → Machine
machine_of Neat = neat
machine_of Mesi = bus.mesi_machine
machine_of BufferedNeat = buffered neat
machine_of BufferedMesi = buffered bus.mesi_machine

-- What was printed is a study of the file's steps under its protocol, with the guarantee at each point of it.
abbrev pub IsStudy : List ℕ → List ℕ → Result ℕ Failure → List ℕ → Type 0
IsStudy file out (Ok n) new = (a : Asked) × (read_file file ≡ Ok a) × (Printed (machine_of a.code) (heading_of a.code) a.steps out new n)
IsStudy file out (Err f) new = new ≡ out
