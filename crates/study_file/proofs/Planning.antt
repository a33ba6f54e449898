-- Reading one record after the other makes the plan of the rules.
use Rattle.std.proofs.Common.{◌≡◌, ℕ, zero, suc, ◌+◌, ◌-◌, ◌<◌, ◌≤◌, Bool, true, false, cond, ltb, List, [], ◌∷◌, ◌++◌, length, drop, IsErrAnd, Some, None, Ok, Err, Option, Result, sym, refl, ap, ◌∙◌, subst, arith}
use mathlib.Core.Path.{transport}
use Rattle.std.proofs.lemmas.Result.{err_from_is_err_and}
use Rattle.std.proofs.lemmas.List.{append-nil, append_assoc, length-append, drop-drop}
use Rattle.std.proofs.lemmas.Bool.{cond-false, le-ltb}
use Rattle.protocol.specs.declared.steps.Step.{Step}
use Rattle.bench.specs.declared.faults.Cause.TheVariants.{TooLong}
use Rattle.bench.specs.declared.faults.Fault.{Fault}
use Rattle.study_file.specs.declared.codes.Code.{Code}
use Rattle.study_file.specs.declared.record.Record.{Record}
use Rattle.study_file.specs.Codes.{fields_of}
use Rattle.study_file.specs.declared.plans.Failure.{Failure}
use Rattle.study_file.specs.declared.plans.Failure.TheVariants.{Fault as HasFault, OutOfMemory}
use Rattle.study_file.specs.Records.{Found, most_bytes, reader_fault, record_at, or_none, next_at, next_record, place_after, found_next}
use Rattle.study_file.specs.Plans.{Answers, Asked, asked, most_steps, size_of, code_in, step_in, with_step, then_step, then_steps, steps_from, with_code, then_code, plan_of, read_file}
use Rattle.study_file.proofs.Soundness.{Sound, record_inv}

-- What the reader hands on is a sound record.
or_none_inv : (x : Result Found Fault) (r : Found) → or_none x ≡ Ok (Some r) → x ≡ Ok r
or_none_inv (Ok y) r e = ap Ok (cc)
or_none_inv (Err y) r e = absurd (let z : ◌≡◌ {A = ℕ} 0 1 = cc in omega arith)

pub next_sound : (p : ℕ) (rest : List ℕ) (r : Found) → next_at p rest ≡ Ok (Some r) → Sound p rest r
next_sound p [] r e = absurd (let z : ◌≡◌ {A = ℕ} 0 1 = cc in omega arith)
next_sound p (x ∷ xs) r e = record_inv p (x ∷ xs) r (or_none_inv (record_at p (x ∷ xs)) r e)

pub next_within : (p : ℕ) (file : List ℕ) (x : Result (Option Found) Fault) → length file ≤ most_bytes → x ≡ next_record p file → next_at p (drop p file) ≡ x
next_within p file x l e = sym (e ∙ cond-false (ltb most_bytes (length file)) _ _ (le-ltb most_bytes (length file) l))

-- The steps go on from the next record.
abbrev pub onward : ℕ → ℕ → List ℕ → Found → Step → Result (List Step) Fault
onward zero p rest r k = Err (reader_fault TooLong p)
onward (suc n) p rest r k = with_step k (steps_from n (p + size_of r) (drop (size_of r) rest))

pub steps_next : (n p : ℕ) (rest : List ℕ) (x : Result (Option Found) Fault) → next_at p rest ≡ x → steps_from n p rest ≡ then_steps x (onward n p rest)
unfolding steps_from
steps_next zero p rest x e = ap (λ (y : Result (Option Found) Fault). then_steps y (onward zero p rest)) e
steps_next (suc n) p rest x e = ap (λ (y : Result (Option Found) Fault). then_steps y (onward (suc n) p rest)) e

pub steps_step : (n p : ℕ) (rest : List ℕ) (r : Found) (y : Result Step Fault) → next_at p rest ≡ Ok (Some r) → step_in r ≡ y → steps_from n p rest ≡ then_step y (onward n p rest r)
steps_step n p rest r y e f = steps_next n p rest (Ok (Some r)) e ∙ ap (λ (z : Result Step Fault). then_step z (onward n p rest r)) f

-- Some steps before others.
abbrev pub before : List Step → Result (List Step) Fault → Result (List Step) Fault
before ks (Ok more) = Ok (ks ++ more)
before ks (Err e) = Err e

before_step : (ks : List Step) (k : Step) (x : Result (List Step) Fault) → before ks (with_step k x) ≡ before (ks ++ (k ∷ [])) x
before_step ks k (Ok more) = ap Ok (sym (append_assoc ks (k ∷ []) more))
before_step ks k (Err e) = refl

-- The steps ks are read, and what is left from place p on makes the wanted result.
abbrev pub Going : Result (List Step) Fault → List ℕ → ℕ → List Step → Type 0
Going want file p ks = (length file ≤ most_bytes) × (length ks ≤ most_steps) × (before ks (steps_from (most_steps - length ks) p (drop p file)) ≡ want)

module _ (want : Result (List Step) Fault) (file : List ℕ) (p : ℕ) (ks : List Step) (g : Going want file p ks) where
  pub going_end : Ok None ≡ next_record p file → want ≡ Ok ks
  going_end e =
      sym g.2 ∙ (ap (before ks) (steps_next (most_steps - length ks) p (drop p file) (Ok None) (next_within p file (Ok None) g.0 e)) ∙ ap Ok (append-nil ks))

  pub going_fault : (x : Fault) → Err x ≡ next_record p file → want ≡ Err x
  going_fault x e =
      sym g.2 ∙ ap (before ks) (steps_next (most_steps - length ks) p (drop p file) (Err x) (next_within p file (Err x) g.0 e))

  pub going_sound : (r : Found) → Ok (Some r) ≡ next_record p file → Sound p (drop p file) r
  going_sound r e = next_sound p (drop p file) r (next_within p file (Ok (Some r)) g.0 e)

  going_step : (r : Found) (y : Result Step Fault) → Ok (Some r) ≡ next_record p file → y ≡ step_in r → want ≡ before ks (then_step y (onward (most_steps - length ks) p (drop p file) r))
  going_step r y e f =
      sym g.2 ∙ ap (before ks) (steps_step (most_steps - length ks) p (drop p file) r y (next_within p file (Ok (Some r)) g.0 e) (sym f))

  pub going_bad : (r : Found) (x : Fault) → Ok (Some r) ≡ next_record p file → Err x ≡ step_in r → want ≡ Err x
  going_bad r x e f = going_step r (Err x) e f

  pub going_full : (r : Found) (k : Step) → Ok (Some r) ≡ next_record p file → Ok k ≡ step_in r → length ks ≡ most_steps → want ≡ Err (reader_fault TooLong r.place)
  going_full r k e f full =
      let none : most_steps - length ks ≡ 0 = omega arith in
      going_step r (Ok k) e f ∙ (ap (λ n. before ks (onward n p (drop p file) r k)) none ∙ ap (λ q. Err (reader_fault TooLong q)) (sym (going_sound r e).at_place))

  pub going_on : (r : Found) (k : Step) → Ok (Some r) ≡ next_record p file → Ok k ≡ step_in r → length ks < most_steps → Going want file (p + size_of r) (ks ++ (k ∷ []))
  going_on r k e f few =
      let more = length-append ks (k ∷ []) in
      let left : most_steps - length ks ≡ suc (most_steps - length (ks ++ (k ∷ []))) = omega (arith, more) in
      let on : List ℕ → Result (List Step) Fault = steps_from (most_steps - length (ks ++ (k ∷ []))) (p + size_of r) in (
        g.0,
        omega (arith, more),
        sym (going_step r (Ok k) e f
            ∙ (ap (λ n. before ks (onward n p (drop p file) r k)) left
            ∙ (before_step ks k (on (drop (size_of r) (drop p file)))
            ∙ ap (λ (xs : List ℕ). before (ks ++ (k ∷ [])) (on xs)) (drop-drop (size_of r) p file)))),
      )

  pub going_again : (r : Found) (k : Step) (file' : List ℕ) (p' : ℕ) (ks' : List Step) → Ok (Some r) ≡ next_record p file → Ok k ≡ step_in r → length ks < most_steps → file' ≡ file → p' ≡ p + size_of r → ks' ≡ ks ++ (k ∷ []) → Going want file' p' ks'
  going_again r k file' p' ks' e f few file_is p_is ks_is = transport (λ i. Going want (sym file_is i) (sym p_is i) (sym ks_is i)) (going_on r k e f few)

-- What the reader handed on in an arm.
pub handed : (o o' : Option Record) (x : Result (Option Found) Fault) → o ≡ o' → found_next (Ok o) ≡ x → found_next (Ok o') ≡ x
handed o o' x e f = ap (λ (y : Option Record). found_next (Ok y)) (sym e) ∙ f

pub handed_place : (o o' : Option Record) (p q : ℕ) → o ≡ o' → q ≡ place_after p (found_next (Ok o)) → q ≡ place_after p (found_next (Ok o'))
handed_place o o' p q e f = f ∙ ap (λ (y : Option Record). place_after p (found_next (Ok y))) e

-- The exits of a reading by `?`.
pub fault_exit : {X Y : Type 0} (by : X → Y) (want : Result Y Fault) (r : Result X Failure) (e : Fault) → IsErrAnd r (λ y. y ≡ HasFault e) → want ≡ Err e → Answers by want r
fault_exit by want r e h w =
    let x = err_from_is_err_and r h in
    subst (Answers by want) (sym (x.1 ∙ ap Err x.2)) w

pub same_exit : {X Y : Type 0} (by : X → Y) (want : Result Y Fault) (r : Result X Failure) (y : Failure) → IsErrAnd r (λ z. z ≡ y) → Answers by want (Err y) → Answers by want r
same_exit by want r y h w =
    let x = err_from_is_err_and r h in
    subst (Answers by want) (sym (x.1 ∙ ap Err x.2)) w

-- The whole file, from its first record on.
read_is : (file : List ℕ) → read_file file ≡ plan_of (next_record 0 file) file
unfolding read_file
read_is file = go (ltb most_bytes (length file))
  where
    go : (b : Bool) → cond b (Err (reader_fault TooLong most_bytes)) (plan_of (next_at 0 file) file) ≡ plan_of (cond b (Err (reader_fault TooLong most_bytes)) (next_at 0 file)) file
    go true = refl
    go false = refl

module _ (file f : List ℕ) (p : ℕ) (f_is : f ≡ file) (p_is : p ≡ 0) where
  pub read_next : (x : Result (Option Found) Fault) → x ≡ next_record p f → read_file file ≡ plan_of x file
  read_next x e = read_is file ∙ (λ i. plan_of (sym (e ∙ (λ j. next_record (p_is j) (f_is j))) i) file)

  pub first_sound : (r : Found) → Ok (Some r) ≡ next_record p f → length r.body ≡ fields_of r.kind
  first_sound r e = go (ltb most_bytes (length f)) e
    where
      go : (b : Bool) → Ok (Some r) ≡ cond b (Err (reader_fault TooLong most_bytes)) (next_at p (drop p f)) → length r.body ≡ fields_of r.kind
      go true q = absurd cc
      go false q = (next_sound p (drop p f) r (sym q)).fit

  pub read_code : (r : Found) (y : Result Code Fault) → Ok (Some r) ≡ next_record p f → y ≡ code_in r → read_file file ≡ then_code y (λ c. with_code c (steps_from most_steps (size_of r) (drop (size_of r) file)))
  read_code r y e h = read_next (Ok (Some r)) e ∙ ap (λ (z : Result Code Fault). then_code z (λ c. with_code c (steps_from most_steps (size_of r) (drop (size_of r) file)))) (sym h)

  pub read_all : (r : Found) (c : Code) (f' : List ℕ) (q : ℕ) → Ok (Some r) ≡ next_record p f → Ok c ≡ code_in r → f' ≡ f → q ≡ p + size_of r → read_file file ≡ with_code c (steps_from most_steps q (drop q f'))
  read_all r c f' q e h f'_is q_is =
      let size : size_of r ≡ q = omega arith in
      let same : file ≡ f' = sym (f'_is ∙ f_is) in
      read_code r (Ok c) e h ∙ (λ i. with_code c (steps_from most_steps (size i) (drop (size i) (same i))))

-- What the steps answer, the whole answers.
pub answers_all : {Z : Type 0} (items : Z → List Step) (c : Code) (s : Result (List Step) Fault) (want : Result Asked Fault) (y : Failure) → want ≡ with_code c s → Answers items s (Err y) → Answers asked want (Err y)
answers_all items c s want (HasFault e) w h = w ∙ ap (with_code c) h
answers_all items c s want OutOfMemory w h = tt
