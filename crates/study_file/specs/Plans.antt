-- The plan that the records of a file make: the code of a protocol, then steps.
use Rattle.std.specs.Prelude.{◌≡◌, ℕ, zero, suc, ◌+◌, cond, List, [], ◌∷◌, length, drop, Some, None, Ok, Err, vec_items, Option, Result, nat_lt, slice_index, ◌==◌}
use Rattle.std.specs.Option.{ok_or}
use Rattle.protocol.specs.declared.steps.Step.{Step}
use Rattle.protocol.specs.declared.steps.Step.TheVariants.{Load, Store, Acquire, Release, Evict, Move}
use Rattle.bench.specs.declared.faults.Cause.{Cause}
use Rattle.bench.specs.declared.faults.Cause.TheVariants.{ProtocolNotFirst, UnknownCode, TooLong}
use Rattle.bench.specs.declared.faults.Layer.TheVariants.{Plan as PlanLayer}
use Rattle.bench.specs.declared.faults.Fault.{Fault}
use Rattle.study_file.specs.declared.codes.Code.{Code}
use Rattle.study_file.specs.declared.codes.Kind.{Kind}
use Rattle.study_file.specs.declared.codes.Kind.TheVariants.{Protocol, Load as ALoad, Store as AStore, Acquire as AnAcquire, Release as ARelease, Evict as AnEvict, Move as AMove}
use Rattle.study_file.specs.declared.plans.Item.{Item}
use Rattle.study_file.specs.declared.plans.Item.TheVariants.{Code as Names, Step as Asks}
use Rattle.study_file.specs.declared.plans.Plan.{Plan}
use Rattle.study_file.specs.declared.plans.Failure.{Failure}
use Rattle.study_file.specs.declared.plans.Failure.TheVariants.{Fault as HasFault, OutOfMemory}
use Rattle.study_file.specs.Codes.{code_named, fields_of}
use Rattle.study_file.specs.Records.{Found, most_bytes, reader_fault, next_at}

-- A plan has at most 4,096 steps.
abbrev pub most_steps : ℕ
most_steps = 4096

-- A fault that the plan finds in the record at a place.
abbrev pub plan_fault : Cause → ℕ → Fault
plan_fault why p = record { cause = why; place = p; layer = PlanLayer }

-- What a record says: the number of a code, or a step with its fields in order.
abbrev pub item_of : Kind → List ℕ → Item
item_of Protocol b = Names (slice_index b 0)
item_of ALoad b = Asks (Load (slice_index b 0) (slice_index b 1))
item_of AStore b = Asks (Store (slice_index b 0) (slice_index b 1) (slice_index b 2))
item_of AnAcquire b = Asks (Acquire (slice_index b 0))
item_of ARelease b = Asks (Release (slice_index b 0))
item_of AnEvict b = Asks (Evict (slice_index b 0) (slice_index b 1))
item_of AMove b = Asks (Move (slice_index b 0))

-- The step that a record says, or none where it says a code.
abbrev pub step_said : Item → Option Step
step_said (Names n) = None
step_said (Asks k) = Some k

-- The step of a kind and its fields: none where the kind has not so many fields, or is the protocol's.
abbrev pub step_of_fields : Kind → List ℕ → Option Step
step_of_fields k b = cond (length b == fields_of k) (step_said (item_of k b)) None

-- The first record names the protocol, by a known code.
abbrev pub as_code : ℕ → Item → Result Code Fault
as_code p (Names n) = ok_or (code_named n) (plan_fault UnknownCode p)
as_code p (Asks k) = Err (plan_fault ProtocolNotFirst p)

-- Every later record is a step.
abbrev pub as_step : ℕ → Item → Result Step Fault
as_step p (Names n) = Err (plan_fault ProtocolNotFirst p)
as_step p (Asks k) = Ok k

-- The code in the first record.
abbrev pub code_in : Found → Result Code Fault
code_in r = as_code r.place (item_of r.kind r.body)

-- The step in a later record.
abbrev pub step_in : Found → Result Step Fault
step_in r = as_step r.place (item_of r.kind r.body)

-- How many bytes a record has: two of its length, two of its kind, and its body.
abbrev pub size_of : Found → ℕ
size_of r = 4 + length r.body

-- What is asked for: a protocol by its code, and steps.
pub record Asked : Type 0 where
  pub code : Code
  pub steps : List Step

-- A step in front of others, if those have no fault.
abbrev pub with_step : Step → Result (List Step) Fault → Result (List Step) Fault
with_step k (Ok ks) = Ok (k ∷ ks)
with_step k (Err e) = Err e

-- A code in front of steps, if those have no fault.
abbrev pub with_code : Code → Result (List Step) Fault → Result Asked Fault
with_code c (Ok ks) = Ok (record { code = c; steps = ks })
with_code c (Err e) = Err e

-- A record that is no step is a fault, and behind a step come `more`.
abbrev pub then_step : Result Step Fault → (Step → Result (List Step) Fault) → Result (List Step) Fault
then_step (Ok k) more = more k
then_step (Err e) more = Err e

-- What comes of the next record: a fault ends the reading, the end of the file ends the steps, and behind a step come `more`.
abbrev pub then_steps : Result (Option Found) Fault → (Found → Step → Result (List Step) Fault) → Result (List Step) Fault
then_steps (Err e) more = Err e
then_steps (Ok None) more = Ok []
then_steps (Ok (Some r)) more = then_step (step_in r) (more r)

-- The steps from place p on, where `rest` is the file from there on and there is room for n steps. A step past that is too many.
unfoldable pub steps_from : ℕ → ℕ → List ℕ → Result (List Step) Fault
steps_from zero p rest = then_steps (next_at p rest) (λ r k. Err (reader_fault TooLong p))
steps_from (suc n) p rest = then_steps (next_at p rest) (λ r k. with_step k (steps_from n (p + size_of r) (drop (size_of r) rest)))

-- A record that names no known code is a fault, and behind a code come `more`.
abbrev pub then_code : Result Code Fault → (Code → Result Asked Fault) → Result Asked Fault
then_code (Ok c) more = more c
then_code (Err e) more = Err e

-- What comes of the first record, which has to be there.
abbrev pub plan_of : Result (Option Found) Fault → List ℕ → Result Asked Fault
plan_of (Err e) file = Err e
plan_of (Ok None) file = Err (plan_fault ProtocolNotFirst 0)
plan_of (Ok (Some r)) file = then_code (code_in r) (λ c. with_code c (steps_from most_steps (size_of r) (drop (size_of r) file)))

-- What a file asks for, or its first fault. Its length is looked at before all else.
unfoldable pub read_file : List ℕ → Result Asked Fault
read_file file = cond (nat_lt most_bytes (length file)) (Err (reader_fault TooLong most_bytes)) (plan_of (next_at 0 file) file)

-- A plan by what it asks for.
abbrev pub asked : Plan → Asked
asked plan = record { code = plan.code; steps = vec_items plan.steps }

-- What is answered is the defined result, want of memory apart.
abbrev pub Answers : {X Y : Type 0} → (X → Y) → Result Y Fault → Result X Failure → Type 0
Answers by result (Ok x) = result ≡ Ok (by x)
Answers by result (Err (HasFault e)) = result ≡ Err e
Answers by result (Err OutOfMemory) = Unit {0}
