-- What the program prints for a file: the report, or the one line of its fault.
use Rattle.std.specs.Prelude.{◌≡◌, ℕ, List, Result, Ok, Err}
use Rattle.bench.specs.declared.faults.Fault.{Fault}
use Rattle.printing.specs.Page.{fault_line}
use Rattle.study_file.specs.declared.plans.Failure.{Failure}
use Rattle.study_file.specs.declared.plans.Failure.TheVariants.{Fault as HasFault, OutOfMemory as NoMemory}
use Rattle.study_run.specs.Reports.{file_comes_to}
use Rattle.kuvormagy.specs.declared.NoReport.{NoReport}
use Rattle.kuvormagy.specs.declared.NoReport.TheVariants.{FaultLine, OutOfMemory}

-- Why there is no report where no study was run.
abbrev pub no_report : Failure → NoReport
no_report (HasFault f) = FaultLine (fault_line f)
no_report NoMemory = OutOfMemory

-- What is to be printed: the start of the buffer, or a fault's line.
abbrev pub Says : List ℕ → List ℕ → Result ℕ NoReport → List ℕ → Type 0
Says file out (Ok n) new = (Ok n, new) ≡ file_comes_to file out
Says file out (Err (FaultLine line)) new = (f : Fault) × (line ≡ fault_line f) × ((Err f, new) ≡ file_comes_to file out)
Says file out (Err OutOfMemory) new = new ≡ out
