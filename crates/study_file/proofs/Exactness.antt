-- A file is accepted exactly if it is sound, and has exactly the fault of the first check that fails.
use Rattle.std.proofs.Common.{◌≡◌, ℕ, zero, suc, ◌+◌, ◌-◌, ◌<◌, ◌≤◌, Bool, true, false, cond, ltb, ◌⊎◌, List, [], ◌∷◌, ◌++◌, length, get_or, drop, Some, None, Ok, Err, Option, Result, sym, refl, ap, ◌∙◌, subst, inl, inr, arith}
use Rattle.std.specs.Option.{ok_or}
use Rattle.std.specs.List.{flat_map}
use Rattle.std.proofs.lemmas.List.{append-nil, append_assoc, length-append, drop_at, flat_map_more, nil_from_length}
use Rattle.std.proofs.lemmas.Bool.{cond-true, cond-false, lt-ltb, le-ltb, ltb-true, ltb-false}
use Rattle.protocol.specs.declared.steps.Step.{Step}
use Rattle.bench.specs.declared.faults.Cause.TheVariants.{ProtocolNotFirst, UnknownCode, TooLong}
use Rattle.bench.specs.declared.faults.Fault.{Fault}
use Rattle.study_file.specs.declared.codes.Code.{Code}
use Rattle.study_file.specs.declared.codes.Code.TheVariants.{Neat, Mesi, BufferedNeat, BufferedMesi}
use Rattle.study_file.specs.declared.codes.Kind.TheVariants.{Protocol}
use Rattle.study_file.specs.Codes.{code_number, code_named, every_code, kind_number}
use Rattle.study_file.specs.Records.{Found, most_bytes, reader_fault, record_at, or_none, next_at}
use Rattle.study_file.specs.Plans.{Asked, most_steps, plan_fault, as_step, as_code, size_of, step_in, code_in, with_step, steps_from, with_code, then_code, plan_of, read_file}
use Rattle.study_file.specs.Files.{record_of, kind_of, fields, step_record, code_record, file_of}
use Rattle.study_file.specs.Laws.{Check, ProtocolFirst, KnownCode, RoomForStep, every_check, kind_at, Passes, FirstFailed, SoundFile, Faulty, more_bytes, no_record, bad_record, Exact}
use Rattle.study_file.proofs.Soundness.{named_has, record_inv, record_reads, next_more}
use Rattle.study_file.proofs.Planning.{steps_next, steps_step, before}
use Rattle.study_file.proofs.Items.{Which, names, asks, which, no_protocol, step_item, step_size, step_bytes}
use Rattle.study_file.proofs.Filling.{step_fields}
use Rattle.study_file.proofs.Judging.{check_fault, judge, sound_says, plan_fails, none_fails, same_check}

-- At a place behind other records: a check fails, or the record of a step is there and the steps go on behind it.
abbrev On : Asked → ℕ → ℕ → List ℕ → Step → Type 0
On x zero p rest k = ⊥
On x (suc n) p rest k = (rest ≡ step_record k ++ drop (length (step_record k)) rest) × (steps_from (suc n) p rest ≡ with_step k (steps_from n (p + length (step_record k)) (drop (length (step_record k)) rest))) × ((why : Check) → FirstFailed (Passes (Some x) rest) every_check why → ⊥)

-- A check fails first, and the result is its fault.
abbrev Fails : Option Asked → List ℕ → ℕ → {X : Type 0} → Result X Fault → Type 0
Fails b rest p x = (why : Check) × (FirstFailed (Passes b rest) every_check why) × (x ≡ Err (check_fault why p))

module _ (x : Asked) (p : ℕ) (rest : List ℕ) (h : 0 < length rest) where
  later_step : (n : ℕ) (r : Found) (k : Step) → length x.steps + n ≡ most_steps → record_at p rest ≡ Ok r → step_in r ≡ Ok k → kind_of k ≡ r.kind → fields k ≡ r.body → Fails (Some x) rest p (steps_from n p rest) ⊎ On x n p rest k
  later_step zero r k room e it kk ff =
      let s = record_inv p rest r e in
      let number : kind_at rest ≡ kind_number (kind_of k) = (sound_says p rest r s).number ∙ ap kind_number (sym kk) in
      let no : kind_at rest ≡ kind_number Protocol → ⊥ = λ q. no_protocol k (sym number ∙ q) in
      inl (
        RoomForStep,
        plan_fails (Some x) p rest r RoomForStep s (inr (no, inr ((λ q. absurd (no q)), inl (refl, λ few. omega (arith, few no))))),
        steps_step zero p rest r (Ok k) (next_more p rest h ∙ ap or_none e) it,
      )
  later_step (suc n) r k room e it kk ff =
      let s = record_inv p rest r e in
      let number : kind_at rest ≡ kind_number (kind_of k) = (sound_says p rest r s).number ∙ ap kind_number (sym kk) in
      let no : kind_at rest ≡ kind_number Protocol → ⊥ = λ q. no_protocol k (sym number ∙ q) in
      let size = step_size r k ff in
      inr (
        step_bytes p rest r k s kk ff,
        steps_step (suc n) p rest r (Ok k) (next_more p rest h ∙ ap or_none e) it ∙ (λ i. with_step k (steps_from n (p + size i) (drop (size i) rest))),
        λ why. none_fails (Some x) p rest r why s no (λ q. absurd (no q)) (λ q. omega arith),
      )

  later_item : (n : ℕ) (r : Found) → length x.steps + n ≡ most_steps → record_at p rest ≡ Ok r → Which r.kind r.body → Fails (Some x) rest p (steps_from n p rest) ⊎ ((k : Step) × On x n p rest k)
  later_item n r room e (names m it kk bb) =
      let s = record_inv p rest r e in
      inl (
        ProtocolFirst,
        plan_fails (Some x) p rest r ProtocolFirst s (inl (refl, λ no. no ((sound_says p rest r s).number ∙ ap kind_number kk))),
        steps_step n p rest r (Err (plan_fault ProtocolNotFirst r.place)) (next_more p rest h ∙ ap or_none e) (ap (as_step r.place) it) ∙ ap (λ q. Err (plan_fault ProtocolNotFirst q)) s.at_place,
      )
  later_item n r room e (asks k it kk ff) = go (later_step n r k room e (ap (as_step r.place) it) kk ff)
    where
      go : Fails (Some x) rest p (steps_from n p rest) ⊎ On x n p rest k → Fails (Some x) rest p (steps_from n p rest) ⊎ ((k' : Step) × On x n p rest k')
      go (inl f) = inl f
      go (inr o) = inr (k, o)

  pub later : (n : ℕ) → length x.steps + n ≡ most_steps → Fails (Some x) rest p (steps_from n p rest) ⊎ ((k : Step) × On x n p rest k)
  later n room = go (judge (Some x) p rest h)
    where
      go : Fails (Some x) rest p (record_at p rest) ⊎ ((r : Found) × (record_at p rest ≡ Ok r)) → Fails (Some x) rest p (steps_from n p rest) ⊎ ((k : Step) × On x n p rest k)
      go (inl f) = inl (f.0, f.1, steps_next n p rest (Err (check_fault f.0 p)) (next_more p rest h ∙ ap or_none f.2))
      go (inr g) = later_item n g.0 room g.1 (which g.0.kind g.0.body (record_inv p rest g.0 g.1).fit)

-- At the start of a file: a check fails, or the record of a code is there and the steps go on behind it.
abbrev Begins : List ℕ → Code → Type 0
Begins file c = (file ≡ code_record c ++ drop 5 file) × (plan_of (next_at 0 file) file ≡ with_code c (steps_from most_steps 5 (drop 5 file))) × ((why : Check) → FirstFailed (Passes None file) every_check why → ⊥)

-- A code is known by its number.
pub code_is : (c : Code) → code_named (code_number c) ≡ Some c
code_is Neat = refl
code_is Mesi = refl
code_is BufferedNeat = refl
code_is BufferedMesi = refl

module _ (file : List ℕ) (h : 0 < length file) where
  first_next : (x : Result (Option Found) Fault) → next_at 0 file ≡ x → plan_of (next_at 0 file) file ≡ plan_of x file
  first_next x e = ap (λ (y : Result (Option Found) Fault). plan_of y file) e

  first_code : (r : Found) (y : Result Code Fault) → record_at 0 file ≡ Ok r → code_in r ≡ y → plan_of (next_at 0 file) file ≡ then_code y (λ c. with_code c (steps_from most_steps (size_of r) (drop (size_of r) file)))
  first_code r y e f =
      first_next (Ok (Some r)) (next_more 0 file h ∙ ap or_none e) ∙ ap (λ (z : Result Code Fault). then_code z (λ c. with_code c (steps_from most_steps (size_of r) (drop (size_of r) file)))) f

  first_named : (r : Found) (n : ℕ) → record_at 0 file ≡ Ok r → code_in r ≡ ok_or (code_named n) (plan_fault UnknownCode r.place) → r.kind ≡ Protocol → n ∷ [] ≡ r.body → (o : Option Code) → code_named n ≡ o → Fails None file 0 (plan_of (next_at 0 file) file) ⊎ ((c : Code) × Begins file c)
  first_named r n e it kk bb None q =
      let s = record_inv 0 file r e in
      let says = sound_says 0 file r s in
      let named : kind_at file ≡ kind_number Protocol = says.number ∙ ap kind_number kk in
      let field : get_or file 4 0 ≡ n = says.field (omega (arith, ap length bb)) ∙ sym (ap (λ (l : List ℕ). get_or l 0 0) bb) in
      inl (
        KnownCode,
        plan_fails None 0 file r KnownCode s (inr (
          named,
          inl (
            refl,
            λ known. absurd (
                let c = known named in
                let e₂ : None ≡ Some c.0 = sym q ∙ (ap code_named (sym (c.1 ∙ field)) ∙ code_is c.0) in
                let z : ◌≡◌ {A = ℕ} 0 1 = cc in
                omega arith),
          ),
        )),
        first_code r (Err (plan_fault UnknownCode r.place)) e (it ∙ ap (λ (o : Option Code). ok_or o (plan_fault UnknownCode r.place)) q) ∙ ap (λ p. Err (plan_fault UnknownCode p)) s.at_place,
      )
  first_named r n e it kk bb (Some c) q =
      let s = record_inv 0 file r e in
      let says = sound_says 0 file r s in
      let named : kind_at file ≡ kind_number Protocol = says.number ∙ ap kind_number kk in
      let field : get_or file 4 0 ≡ n = says.field (omega (arith, ap length bb)) ∙ sym (ap (λ (l : List ℕ). get_or l 0 0) bb) in
      let number : n ≡ code_number c = named_has code_number every_code n c q in
      let size : size_of r ≡ 5 = omega (arith, ap length bb) in
      let body : r.body ≡ code_number c ∷ [] = sym bb ∙ ap (λ m. m ∷ []) number in
      inr (
        c,
        (
          s.bytes ∙ (λ i. record_of (kk i) (body i) ++ drop (size i) file),
          first_code r (Ok c) e (it ∙ ap (λ (o : Option Code). ok_or o (plan_fault UnknownCode r.place)) q) ∙ (λ i. with_code c (steps_from most_steps (size i) (drop (size i) file))),
          λ why. none_fails None 0 file r why s named (λ _. (c, sym (field ∙ number))) (λ no. absurd (no named)),
        ),
      )

  first_item : (r : Found) → record_at 0 file ≡ Ok r → Which r.kind r.body → Fails None file 0 (plan_of (next_at 0 file) file) ⊎ ((c : Code) × Begins file c)
  first_item r e (names n it kk bb) = first_named r n e (ap (as_code r.place) it) kk bb (code_named n) refl
  first_item r e (asks k it kk ff) =
      let s = record_inv 0 file r e in
      inl (
        ProtocolFirst,
        plan_fails None 0 file r ProtocolFirst s (inl (refl, λ named. no_protocol k (ap kind_number kk ∙ (sym (sound_says 0 file r s).number ∙ named)))),
        first_code r (Err (plan_fault ProtocolNotFirst r.place)) e (ap (as_code r.place) it) ∙ ap (λ p. Err (plan_fault ProtocolNotFirst p)) s.at_place,
      )

  pub first : Fails None file 0 (plan_of (next_at 0 file) file) ⊎ ((c : Code) × Begins file c)
  first = go (judge None 0 file h)
    where
      go : Fails None file 0 (record_at 0 file) ⊎ ((r : Found) × (record_at 0 file ≡ Ok r)) → Fails None file 0 (plan_of (next_at 0 file) file) ⊎ ((c : Code) × Begins file c)
      go (inl f) = inl (f.0, f.1, first_next (Err (check_fault f.0 0)) (next_more 0 file h ∙ ap or_none f.2))
      go (inr g) = first_item g.0 g.1 (which g.0.kind g.0.body (record_inv 0 file g.0 g.1).fit)

-- The file of one step more.
file_push : (c : Code) (ks : List Step) (k : Step) → file_of c (ks ++ (k ∷ [])) ≡ file_of c ks ++ step_record k
file_push c ks k = ap (λ (xs : List ℕ). code_record c ++ xs) (sym (flat_map_more step_record [] ks k)) ∙ sym (append_assoc (code_record c) (flat_map step_record ks) (step_record k))

-- What the steps from a place on say of the file.
abbrev Told : List ℕ → List ℕ → ℕ → Result (List Step) Fault → Type 0
Told file rest n (Ok more) = (rest ≡ flat_map step_record more) × (length more ≤ n)
Told file rest n (Err e) = Faulty file e

told_step : (file rest after : List ℕ) (n : ℕ) (k : Step) → rest ≡ step_record k ++ after → (y : Result (List Step) Fault) → Told file after n y → Told file rest (suc n) (with_step k y)
told_step file rest after n k e (Ok more) t = (e ∙ ap (λ (xs : List ℕ). step_record k ++ xs) t.0, omega (arith, t.1))
told_step file rest after n k e (Err y) t = t

module _ (c : Code) (file : List ℕ) (short : length file ≤ most_bytes) where
  told_fault : (ks : List Step) (rest : List ℕ) (n : ℕ) (y : Result (List Step) Fault) → length ks ≤ most_steps → file ≡ file_of c ks ++ rest → 0 < length rest → Fails (Some (record { code = c; steps = ks })) rest (length (file_of c ks)) y → Told file rest n y
  told_fault ks rest n y few e h f = subst (Told file rest n) (sym f.2) (bad_record (Some (record { code = c; steps = ks })) rest f.0 short few e h f.1)

  steps_told : (n : ℕ) (ks : List Step) (rest : List ℕ) → length ks + n ≡ most_steps → file ≡ file_of c ks ++ rest → Told file rest n (steps_from n (length (file_of c ks)) rest)
  steps_told n ks [] room e = subst (Told file [] n) (sym (steps_next n (length (file_of c ks)) [] (Ok None) refl)) (refl, omega arith)
  steps_told zero ks (y ∷ ys) room e = go (later (record { code = c; steps = ks }) (length (file_of c ks)) (y ∷ ys) (omega arith) zero room)
    where
      go : Fails (Some (record { code = c; steps = ks })) (y ∷ ys) (length (file_of c ks)) (steps_from zero (length (file_of c ks)) (y ∷ ys)) ⊎ ((k : Step) × On (record { code = c; steps = ks }) zero (length (file_of c ks)) (y ∷ ys) k) → Told file (y ∷ ys) zero (steps_from zero (length (file_of c ks)) (y ∷ ys))
      go (inl f) = told_fault ks (y ∷ ys) zero _ (omega arith) e (omega arith) f
      go (inr o) = absurd o.1
  steps_told (suc n) ks (y ∷ ys) room e = go (λ k after. steps_told n (ks ++ (k ∷ [])) after) (later (record { code = c; steps = ks }) (length (file_of c ks)) (y ∷ ys) (omega arith) (suc n) room)
    where
      go : ((k : Step) (after : List ℕ) → length (ks ++ (k ∷ [])) + n ≡ most_steps → file ≡ file_of c (ks ++ (k ∷ [])) ++ after → Told file after n (steps_from n (length (file_of c (ks ++ (k ∷ [])))) after)) → Fails (Some (record { code = c; steps = ks })) (y ∷ ys) (length (file_of c ks)) (steps_from (suc n) (length (file_of c ks)) (y ∷ ys)) ⊎ ((k : Step) × On (record { code = c; steps = ks }) (suc n) (length (file_of c ks)) (y ∷ ys) k) → Told file (y ∷ ys) (suc n) (steps_from (suc n) (length (file_of c ks)) (y ∷ ys))
      go more (inl f) = told_fault ks (y ∷ ys) (suc n) _ (omega arith) e (omega arith) f
      go more (inr o) =
          let k = o.0 in
          let after : List ℕ = drop (length (step_record k)) (y ∷ ys) in
          let push = file_push c ks k in
          let at : length (file_of c (ks ++ (k ∷ []))) ≡ length (file_of c ks) + length (step_record k) = ap length push ∙ length-append (file_of c ks) (step_record k) in
          let bytes : file ≡ file_of c (ks ++ (k ∷ [])) ++ after = e ∙ (ap (λ (xs : List ℕ). file_of c ks ++ xs) o.1.0 ∙ (sym (append_assoc (file_of c ks) (step_record k) after) ∙ ap (λ (xs : List ℕ). xs ++ after) (sym push))) in
          let next = subst (λ p. Told file after n (steps_from n p after)) at (more k after (omega (arith, length-append ks (k ∷ []))) bytes) in
          subst (Told file (y ∷ ys) (suc n)) (sym o.1.1) (told_step file (y ∷ ys) after n k o.1.0 (steps_from n (length (file_of c ks) + length (step_record k)) after) next)

-- What the whole reading says of the file.
abbrev Tells : List ℕ → Result Asked Fault → Type 0
Tells file (Ok x) = SoundFile file x
Tells file (Err e) = Faulty file e

tells_steps : (file rest : List ℕ) (c : Code) → length file ≤ most_bytes → file ≡ code_record c ++ rest → (y : Result (List Step) Fault) → Told file rest most_steps y → Tells file (with_code c y)
tells_steps file rest c short e (Ok ks) t = record { short = short; few = t.1; bytes = e ∙ ap (λ (xs : List ℕ). code_record c ++ xs) t.0 }
tells_steps file rest c short e (Err y) t = t

tells_plan : (file : List ℕ) → length file ≤ most_bytes → Tells file (plan_of (next_at 0 file) file)
tells_plan [] short = no_record refl
tells_plan (y ∷ ys) short = go (first (y ∷ ys) (omega arith))
  where
    go : Fails None (y ∷ ys) 0 (plan_of (next_at 0 (y ∷ ys)) (y ∷ ys)) ⊎ ((c : Code) × Begins (y ∷ ys) c) → Tells (y ∷ ys) (plan_of (next_at 0 (y ∷ ys)) (y ∷ ys))
    go (inl f) = subst (Tells (y ∷ ys)) (sym f.2) (bad_record None (y ∷ ys) f.0 short (omega arith) refl (omega arith) f.1)
    go (inr b) =
        let after : List ℕ = drop 5 (y ∷ ys) in
        subst (Tells (y ∷ ys)) (sym b.1.1) (tells_steps (y ∷ ys) after b.0 short b.1.0 (steps_from most_steps 5 after) (steps_told b.0 (y ∷ ys) short most_steps [] after refl b.1.0))

pub tells : (file : List ℕ) → Tells file (read_file file)
unfolding read_file
tells file = go (ltb most_bytes (length file)) refl
  where
    go : (t : Bool) → ltb most_bytes (length file) ≡ t → Tells file (cond t (Err (reader_fault TooLong most_bytes)) (plan_of (next_at 0 file) file))
    go true e = more_bytes (ltb-true most_bytes (length file) e)
    go false e = tells_plan file (ltb-false most_bytes (length file) e)

-- Behind sound records the reading goes on.
with_before : (k : Step) (ks : List Step) (y : Result (List Step) Fault) → with_step k (before ks y) ≡ before (k ∷ ks) y
with_before k ks (Ok more) = refl
with_before k ks (Err e) = refl

before_none : (y : Result (List Step) Fault) → y ≡ before [] y
before_none (Ok more) = refl
before_none (Err e) = refl

steps_prefix : (m n p : ℕ) (ks : List Step) (rest : List ℕ) → m ≡ length ks + n → steps_from m p (flat_map step_record ks ++ rest) ≡ before ks (steps_from n (p + length (flat_map step_record ks)) rest)
steps_prefix m n p [] rest e =
    let m_is : m ≡ n = omega arith in
    let p_is : p ≡ p + 0 = omega arith in
    (λ i. steps_from (m_is i) (p_is i) rest) ∙ before_none (steps_from n (p + 0) rest)
steps_prefix zero n p (k ∷ ks) rest e = absurd (omega arith)
steps_prefix (suc m) n p (k ∷ ks) rest e =
    let after : List ℕ = flat_map step_record ks ++ rest in
    let size : ℕ = length (step_record k) in
    let found : Found = record { kind = kind_of k; body = fields k; place = p } in
    let size_is : size_of found ≡ size = omega arith in
    let next : next_at p (step_record k ++ after) ≡ Ok (Some found) = ap or_none (record_reads p (kind_of k) (fields k) after (step_fields k)) in
    let behind : drop (size_of found) (step_record k ++ after) ≡ after = drop_at (step_record k) after (size_of found) (sym size_is) in
    let place : (p + size) + length (flat_map step_record ks) ≡ p + length (flat_map step_record (k ∷ ks)) = omega (arith, length-append (step_record k) (flat_map step_record ks)) in
    ap (λ (xs : List ℕ). steps_from (suc m) p xs) (append_assoc (step_record k) (flat_map step_record ks) rest)
    ∙ (steps_step (suc m) p (step_record k ++ after) found (Ok k) next (ap (as_step p) (step_item k))
    ∙ ((λ i. with_step k (steps_from m (p + size_is i) (behind i)))
    ∙ (ap (with_step k) (steps_prefix m n (p + size) ks rest (omega arith))
    ∙ (with_before k ks (steps_from n ((p + size) + length (flat_map step_record ks)) rest) ∙ ap (λ q. before (k ∷ ks) (steps_from n q rest)) place))))

read_short : (file : List ℕ) → length file ≤ most_bytes → read_file file ≡ plan_of (next_at 0 file) file
unfolding read_file
read_short file short = cond-false (ltb most_bytes (length file)) _ _ (le-ltb most_bytes (length file) short)

read_prefix : (c : Code) (ks : List Step) (file rest : List ℕ) (n : ℕ) → length file ≤ most_bytes → file ≡ file_of c ks ++ rest → most_steps ≡ length ks + n → read_file file ≡ with_code c (before ks (steps_from n (length (file_of c ks)) rest))
read_prefix c ks file rest n short e room =
    let after : List ℕ = flat_map step_record ks ++ rest in
    let whole : file ≡ code_record c ++ after = e ∙ append_assoc (code_record c) (flat_map step_record ks) rest in
    let found : Found = record { kind = Protocol; body = code_number c ∷ []; place = 0 } in
    let place : 5 + length (flat_map step_record ks) ≡ length (file_of c ks) = omega (arith, length-append (code_record c) (flat_map step_record ks)) in
    read_short file short
    ∙ (ap (λ (f : List ℕ). plan_of (next_at 0 f) f) whole
    ∙ (first_code (code_record c ++ after) (omega arith) found (Ok c) (record_reads 0 Protocol (code_number c ∷ []) after refl) (ap (λ (o : Option Code). ok_or o (plan_fault UnknownCode 0)) (code_is c))
    ∙ (ap (with_code c) (steps_prefix most_steps n 5 ks rest room) ∙ ap (λ q. with_code c (before ks (steps_from n q rest))) place)))

pub sound_reads : (file : List ℕ) (x : Asked) → SoundFile file x → read_file file ≡ Ok x
sound_reads file x s =
    let n : ℕ = most_steps - length x.steps in
    read_prefix x.code x.steps file [] n s.short (s.bytes ∙ sym (append-nil (file_of x.code x.steps))) (omega (arith, s.few))
    ∙ (ap (λ (y : Result (List Step) Fault). with_code x.code (before x.steps y)) (steps_next n (length (file_of x.code x.steps)) [] (Ok None) refl)
    ∙ ap (λ (ks : List Step). Ok (record { code = x.code; steps = ks })) (append-nil x.steps))

first_fails : (file : List ℕ) (why : Check) → length file ≤ most_bytes → 0 < length file → FirstFailed (Passes None file) every_check why → read_file file ≡ Err (check_fault why 0)
first_fails file why short h f = go (first file h)
  where
    go : Fails None file 0 (plan_of (next_at 0 file) file) ⊎ ((c : Code) × Begins file c) → read_file file ≡ Err (check_fault why 0)
    go (inl g) = read_short file short ∙ (g.2 ∙ ap (λ (w : Check). Err (check_fault w 0)) (same_check (Passes None file) every_check g.0 why g.1 f))
    go (inr b) = absurd (b.1.2 why f)

later_fails : (x : Asked) (n p : ℕ) (rest : List ℕ) (why : Check) → length x.steps + n ≡ most_steps → 0 < length rest → FirstFailed (Passes (Some x) rest) every_check why → steps_from n p rest ≡ Err (check_fault why p)
later_fails x n p rest why room h f = go n (later x p rest h n room)
  where
    go : (n : ℕ) → Fails (Some x) rest p (steps_from n p rest) ⊎ ((k : Step) × On x n p rest k) → steps_from n p rest ≡ Err (check_fault why p)
    go n (inl g) = g.2 ∙ ap (λ (w : Check). Err (check_fault w p)) (same_check (Passes (Some x) rest) every_check g.0 why g.1 f)
    go zero (inr o) = absurd o.1
    go (suc n) (inr o) = absurd (o.1.2 why f)

pub faulty_reads : (file : List ℕ) (e : Fault) → Faulty file e → read_file file ≡ Err e
unfolding read_file
faulty_reads file e (more_bytes h) = cond-true (ltb most_bytes (length file)) _ _ (lt-ltb most_bytes (length file) h)
faulty_reads file e (no_record h) = ap read_file (nil_from_length file h)
faulty_reads file e (bad_record None rest why short few bytes h f) = ap read_file bytes ∙ first_fails rest why (omega (arith, ap length bytes)) h f
faulty_reads file e (bad_record (Some x) rest why short few bytes h f) =
    let n : ℕ = most_steps - length x.steps in
    read_prefix x.code x.steps file rest n short bytes (omega arith) ∙ ap (λ (y : Result (List Step) Fault). with_code x.code (before x.steps y)) (later_fails x n (length (file_of x.code x.steps)) rest why (omega arith) h f)

pub exact : (file : List ℕ) → Exact file
exact file = record {
  accepted = λ x. ((λ e. subst (Tells file) e (tells file)), sound_reads file x);
  turned_down = λ e. ((λ q. subst (Tells file) q (tells file)), faulty_reads file e);
}
