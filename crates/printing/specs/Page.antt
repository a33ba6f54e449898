-- A whole report, and the line of a fault, byte by byte.
use Rattle.std.specs.Prelude.{◌≡◌, ℕ, zero, suc, ◌+◌, ◌*◌, ◌/◌, ◌%◌, ◌<◌, ◌≤◌, List, [], ◌∷◌, ◌++◌, length, drop, Ok, Err, codes, Result}
use Rattle.protocol.specs.declared.steps.Step.{Step}
use Rattle.protocol.specs.Meaning.{Machine}
use Rattle.races.specs.declared.outcomes.Outcome.{Outcome}
use Rattle.races.specs.declared.table.RaceTable.{RaceTable}
use Rattle.races.specs.Log.{empty_log}
use Rattle.races.specs.Table.{start}
use Rattle.bench.specs.declared.faults.Fault.{Fault}
use Rattle.bench.specs.declared.faults.Cause.TheVariants.{OutputTooShort}
use Rattle.bench.specs.declared.faults.Layer.TheVariants.{Caller}
use Rattle.bench.specs.Faults.{cause_number, layer_number}
use Rattle.bench.specs.Chains.{Chain, AnyStep, ComesTo, HoldsAlong}
use Rattle.report.specs.declared.page.Page.{Page}
use Rattle.report.specs.Page.{Puts}
use Rattle.report.specs.Digits.{byte_digits, decimal_digits}
use Rattle.report.specs.Lines.{step_line, ended_line, line_end}

-- A line for each step.
abbrev pub step_lines : List Step → List Outcome → List ℕ
step_lines [] rs = []
step_lines (k ∷ ks) [] = []
step_lines (k ∷ ks) (r ∷ rs) = step_line k r ++ step_lines ks rs

-- The digits of the first n addresses of an image, by rising address.
abbrev pub image_digits : (ℕ → ℕ) → ℕ → List ℕ
image_digits home zero = []
image_digits home (suc n) = image_digits home n ++ byte_digits (home n)

-- The line of the image: two digits for each of the 64 addresses.
abbrev pub image_line : (ℕ → ℕ) → List ℕ
image_line home = image_digits home 64 ++ line_end

-- The report: the protocol's line, a line for each step, the counts, and the image.
abbrev pub report_of : List ℕ → List Step → List Outcome → RaceTable → (ℕ → ℕ) → List ℕ
report_of heading ks rs w home = heading ++ (step_lines ks rs ++ (ended_line w.ended w.first_race ++ image_line home))

-- A report of n steps has so many bytes: 11 for the protocol's line, 14 a step, 23 for the counts, and 129 for the image.
abbrev pub report_length : ℕ → ℕ
report_length n = 163 + 14 * n

-- Two digits to base ten.
abbrev pub two_digits : ℕ → List ℕ
two_digits n = (48 + n / 10 % 10) ∷ (48 + n % 10) ∷ []

-- The line of a fault: its cause, its place and its layer.
abbrev pub fault_line : Fault → List ℕ
fault_line f = codes "fault " ++ (two_digits (cause_number f.cause) ++ (codes " place " ++ (decimal_digits f.place ++ (codes " layer " ++ ((48 + layer_number f.layer) ∷ line_end)))))

-- Some steps that were taken, and whose lines were put into a page.
pub record StepsPrinted (M : Machine) (s : M.State) (w : RaceTable) (ks : List Step) (old new : Page) (t : M.State) (v : RaceTable) : Type 0 where
  pub rs : List Outcome
  pub chain : Chain M (AnyStep M) s w ks rs t v
  pub puts : Puts old new (step_lines ks rs)

-- A study that was printed into the start of a buffer that held `out` and holds `new`. From a clear on, the outcomes are the protocol's, and
-- the guarantee holds at each point of the study, of the log that the steps and the printed answers make.
pub record Printed (M : Machine) (heading : List ℕ) (ks : List Step) (out new : List ℕ) (n : ℕ) : Type 0 where
  pub first : M.State
  pub last : M.State
  pub table : RaceTable
  pub rs : List Outcome
  pub begins : M.fresh first
  pub chain : Chain M (AnyStep M) first start ks rs last table
  pub computed : ComesTo M first start ks rs last table
  pub holds : HoldsAlong empty_log chain
  pub written : new ≡ report_of heading ks rs table (M.moment last).view.home ++ drop n out
  pub counted : n ≡ report_length (length ks)
  pub room : n ≤ length out

-- The output is too short for the report: cause 11, place 0, layer 3.
abbrev pub short_output : Fault
short_output = record { cause = OutputTooShort; place = 0; layer = Caller }

-- A study that is printed, or turned down where the report does not fit.
abbrev pub Prints : (M : Machine) → List ℕ → List Step → List ℕ → Result ℕ Fault → List ℕ → Type 0
Prints M heading ks out (Ok n) new = Printed M heading ks out new n
Prints M heading ks out (Err f) new = (f ≡ short_output) × (length out < report_length (length ks)) × (new ≡ out)
