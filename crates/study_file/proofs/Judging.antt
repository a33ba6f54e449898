-- A record is sound, or the first check that it fails gives the reader's fault.
use Rattle.std.proofs.Common.{◌≡◌, ℕ, ◌+◌, ◌<◌, ◌≤◌, Bool, true, false, cond, eqb, ltb, ◌⊎◌, List, [], ◌∷◌, ◌++◌, length, get_or, take, drop, Some, None, Ok, Err, Option, Result, sym, refl, ap, ◌∙◌, subst, inl, inr, arith}
use Rattle.std.proofs.lemmas.List.{length-take-le, get_or-take}
use Rattle.std.proofs.lemmas.Bool.{eqb-false, ltb-true, ltb-false}
use Rattle.bench.specs.declared.faults.Cause.TheVariants.{CutShort, WrongLength}
use Rattle.bench.specs.declared.faults.Fault.{Fault}
use Rattle.study_file.specs.declared.codes.Kind.{Kind}
use Rattle.study_file.specs.Codes.{kind_number, kind_named, every_kind, fields_of}
use Rattle.study_file.specs.Records.{Found, reader_fault, two_bytes, by_kind, content_at, record_at}
use Rattle.study_file.specs.Plans.{Asked, size_of}
use Rattle.study_file.specs.Files.{record_of}
use Rattle.study_file.specs.Laws.{Check, Whole, LengthOfTwo, KnownKind, LengthOfKind, ProtocolFirst, KnownCode, RoomForStep, every_check, cause_of, layer_of, length_at, kind_at, Passes, FirstFailed}
use Rattle.study_file.proofs.Soundness.{Sound, named_has, kind_is}

abbrev pub check_fault : Check → ℕ → Fault
check_fault why p = record { cause = cause_of why; place = p; layer = layer_of why }

-- A result is the fault of the first check that fails, or a sound record.
abbrev pub Verdict : Option Asked → ℕ → List ℕ → Result Found Fault → Type 0
Verdict b p rest x = ((why : Check) × (FirstFailed (Passes b rest) every_check why) × (x ≡ Err (check_fault why p))) ⊎ ((r : Found) × (x ≡ Ok r))

-- Two kinds of one number are one.
same_kind : (k k' : Kind) → kind_number k ≡ kind_number k' → k ≡ k'
same_kind k k' e =
    let both : Some k ≡ Some k' = sym (kind_is k) ∙ (ap kind_named e ∙ kind_is k') in
    cc

module _ (b : Option Asked) (p : ℕ) (rest : List ℕ) where
  judge_length : (k : Kind) (body : List ℕ) → Passes b rest Whole → Passes b rest LengthOfTwo → kind_number k ≡ kind_at rest → length_at rest ≡ 2 + length body → (t : Bool) → eqb (length body) (fields_of k) ≡ t → Verdict b p rest (cond t (Ok (record { kind = k; body = body; place = p })) (Err (reader_fault WrongLength p)))
  judge_length k body w l number size true e = inr (record { kind = k; body = body; place = p }, refl)
  judge_length k body w l number size false e =
      inl (LengthOfKind, inr (w, inr (l, inr ((k, number), inl (refl, λ h. eqb-false (length body) (fields_of k) e (omega (arith, h.2, size, ap fields_of (same_kind h.0 k (h.1 ∙ sym number)))))))), refl)

  judge_kind : (n : ℕ) (body : List ℕ) → Passes b rest Whole → Passes b rest LengthOfTwo → n ≡ kind_at rest → length_at rest ≡ 2 + length body → (o : Option Kind) → kind_named n ≡ o → Verdict b p rest (by_kind p o body)
  judge_kind n body w l number size None e =
      inl (KnownKind, inr (w, inr (l, inl (refl, λ h. absurd (let e₂ : None ≡ Some h.0 = sym e ∙ (ap kind_named (number ∙ sym h.1) ∙ kind_is h.0) in let z : ◌≡◌ {A = ℕ} 0 1 = cc in omega arith)))), refl)
  judge_kind n body w l number size (Some k) e =
      judge_length k body w l (sym (named_has kind_number every_kind n k e) ∙ number) size (eqb (length body) (fields_of k)) refl

judge_content : (b : Option Asked) (p x y : ℕ) (ys : List ℕ) → two_bytes x y ≤ length ys → (cs : List ℕ) → take (two_bytes x y) ys ≡ cs → Verdict b p (x ∷ (y ∷ ys)) (content_at p cs)
judge_content b p x y ys enough [] e =
    let n_is : two_bytes x y ≡ 0 = sym (length-take-le (two_bytes x y) ys enough) ∙ ap length e in
    inl (LengthOfTwo, inr ((omega arith, omega arith), inl (refl, λ h. omega (arith, n_is, h))), refl)
judge_content b p x y ys enough (c ∷ []) e =
    let n_is : two_bytes x y ≡ 1 = sym (length-take-le (two_bytes x y) ys enough) ∙ ap length e in
    inl (LengthOfTwo, inr ((omega arith, omega arith), inl (refl, λ h. omega (arith, n_is, h))), refl)
judge_content b p x y ys enough (c ∷ (d ∷ body)) e =
    let n_is : two_bytes x y ≡ 2 + length body = sym (length-take-le (two_bytes x y) ys enough) ∙ (ap length e ∙ omega arith) in
    let first : c ≡ get_or ys 0 0 = sym (ap (λ (l : List ℕ). get_or l 0 0) e) ∙ get_or-take (two_bytes x y) ys 0 0 (omega (arith, n_is)) in
    let second : d ≡ get_or ys 1 0 = sym (ap (λ (l : List ℕ). get_or l 1 0) e) ∙ get_or-take (two_bytes x y) ys 1 0 (omega (arith, n_is)) in
    judge_kind b p (x ∷ (y ∷ ys)) (two_bytes c d) body (omega arith, omega arith) (omega (arith, n_is)) (λ i. two_bytes (first i) (second i)) n_is (kind_named (two_bytes c d)) refl

pub judge : (b : Option Asked) (p : ℕ) (rest : List ℕ) → 0 < length rest → Verdict b p rest (record_at p rest)
judge b p [] h = absurd (omega arith)
judge b p (x ∷ []) h = inl (Whole, inl (refl, λ w. omega (arith, w.0)), refl)
judge b p (x ∷ (y ∷ ys)) h = go (ltb (length ys) (two_bytes x y)) refl
  where
    go : (t : Bool) → ltb (length ys) (two_bytes x y) ≡ t → Verdict b p (x ∷ (y ∷ ys)) (cond t (Err (reader_fault CutShort p)) (content_at p (take (two_bytes x y) ys)))
    go true e = inl (Whole, inl (refl, λ w. omega (arith, w.1, ltb-true (length ys) (two_bytes x y) e)), refl)
    go false e = judge_content b p x y ys (ltb-false (length ys) (two_bytes x y) e) (take (two_bytes x y) ys) refl

-- What a sound record says of itself, and that it passes the reader's four checks.
pub record Says (rest : List ℕ) (r : Found) : Type 0 where
  pub size : length_at rest ≡ 2 + length r.body
  pub number : kind_at rest ≡ kind_number r.kind
  pub field : 0 < length r.body → get_or rest 4 0 ≡ get_or r.body 0 0

says_of : (k : Kind) (body after : List ℕ) (p : ℕ) → Says (record_of k body ++ after) (record { kind = k; body = body; place = p })
says_of k [] after p = record { size = omega arith; number = omega arith; field = λ h. absurd (omega arith) }
says_of k (x ∷ body) after p = record { size = omega arith; number = omega arith; field = λ h. refl }

pub sound_says : (p : ℕ) (rest : List ℕ) (r : Found) → Sound p rest r → Says rest r
sound_says p rest r s = subst (λ (xs : List ℕ). Says xs r) (sym s.bytes) (says_of r.kind r.body (drop (size_of r) rest) r.place)

pub four_pass : (b : Option Asked) (p : ℕ) (rest : List ℕ) (r : Found) → Sound p rest r → Passes b rest Whole × Passes b rest LengthOfTwo × Passes b rest KnownKind × Passes b rest LengthOfKind
four_pass b p rest r s =
    let says = sound_says p rest r s in
    ((omega (arith, s.within), omega (arith, s.within, says.size)), omega (arith, says.size), (r.kind, sym says.number), (r.kind, sym says.number, omega (arith, says.size, s.fit)))

-- The plan's three checks, which come last.
abbrev pub plan_checks : List Check
plan_checks = ProtocolFirst ∷ (KnownCode ∷ (RoomForStep ∷ []))

pub plan_fails : (b : Option Asked) (p : ℕ) (rest : List ℕ) (r : Found) (why : Check) → Sound p rest r → FirstFailed (Passes b rest) plan_checks why → FirstFailed (Passes b rest) every_check why
plan_fails b p rest r why s h = let f = four_pass b p rest r s in inr (f.0, inr (f.1, inr (f.2, inr (f.3, h))))

-- Where every check is passed, none fails.
abbrev AllPass : (Check → Type 0) → List Check → Type 0
AllPass P [] = Unit {0}
AllPass P (c ∷ cs) = P c × AllPass P cs

never : (P : Check → Type 0) (cs : List Check) (why : Check) → AllPass P cs → FirstFailed P cs why → ⊥
never P [] why h f = f
never P (c ∷ cs) why h (inl f) = f.1 h.0
never P (c ∷ cs) why h (inr f) = never P cs why h.1 f.1

pub none_fails : (b : Option Asked) (p : ℕ) (rest : List ℕ) (r : Found) (why : Check) → Sound p rest r → Passes b rest ProtocolFirst → Passes b rest KnownCode → Passes b rest RoomForStep → FirstFailed (Passes b rest) every_check why → ⊥
none_fails b p rest r why s first known room h =
    let f = four_pass b p rest r s in
    never (Passes b rest) every_check why (f.0, (f.1, (f.2, (f.3, (first, (known, (room, tt))))))) h

-- Only one check is the first that fails.
pub same_check : (P : Check → Type 0) (cs : List Check) (a c : Check) → FirstFailed P cs a → FirstFailed P cs c → a ≡ c
same_check P [] a c f g = absurd f
same_check P (x ∷ cs) a c (inl f) (inl g) = sym f.0 ∙ g.0
same_check P (x ∷ cs) a c (inl f) (inr g) = absurd (f.1 g.0)
same_check P (x ∷ cs) a c (inr f) (inl g) = absurd (g.1 f.0)
same_check P (x ∷ cs) a c (inr f) (inr g) = same_check P cs a c f.1 g.1
