-- A record is sound exactly if it is the bytes of a kind and a body with that kind's fields.
use Rattle.std.proofs.Common.{◌≡◌, ℕ, suc, ◌+◌, ◌/◌, ◌%◌, ◌<◌, ◌≤◌, Bool, true, false, cond, eqb, ltb, List, [], ◌∷◌, ◌++◌, length, take, drop, Some, None, Ok, Err, Option, sym, refl, ap, ◌∙◌, arith}
use Rattle.std.proofs.lemmas.List.{take-append-drop, length-take-le, length-append, take_at}
use Rattle.std.proofs.lemmas.Bool.{cond-true, cond-false, eq-eqb, eqb-true, le-ltb, ltb-false}
use Rattle.bench.specs.declared.faults.Cause.TheVariants.{CutShort, WrongLength}
use Rattle.study_file.specs.declared.codes.Kind.{Kind}
use Rattle.study_file.specs.declared.codes.Kind.TheVariants.{Protocol, Load, Store, Acquire, Release, Evict, Move}
use Rattle.study_file.specs.Codes.{numbered_among, every_kind, kind_number, kind_named, fields_of}
use Rattle.study_file.specs.Records.{Found, reader_fault, two_bytes, by_kind, content_at, record_at, or_none, next_at}
use Rattle.study_file.specs.Plans.{size_of}
use Rattle.study_file.specs.Files.{bytes_of, record_of}

-- What a number names has that number.
pub named_has : {X : Type 0} (number : X → ℕ) (xs : List X) (n : ℕ) (x : X) → numbered_among number xs n ≡ Some x → n ≡ number x
named_has number [] n x e = absurd (let z : ◌≡◌ {A = ℕ} 0 1 = cc in omega arith)
named_has number (y ∷ ys) n x e = go (eqb n (number y)) refl e (named_has number ys n x)
  where
    go : (b : Bool) → eqb n (number y) ≡ b → cond b (Some y) (numbered_among number ys n) ≡ Some x → (numbered_among number ys n ≡ Some x → n ≡ number x) → n ≡ number x
    go true t q more = eqb-true n (number y) t ∙ ap number (cc)
    go false t q more = more q

pub kind_is : (k : Kind) → kind_named (kind_number k) ≡ Some k
kind_is Protocol = refl
kind_is Load = refl
kind_is Store = refl
kind_is Acquire = refl
kind_is Release = refl
kind_is Evict = refl
kind_is Move = refl

pub few_fields : (k : Kind) → fields_of k ≤ 3
few_fields Protocol = omega arith
few_fields Load = omega arith
few_fields Store = omega arith
few_fields Acquire = omega arith
few_fields Release = omega arith
few_fields Evict = omega arith
few_fields Move = omega arith

pub few_kinds : (k : Kind) → kind_number k ≤ 7
few_kinds Protocol = omega arith
few_kinds Load = omega arith
few_kinds Store = omega arith
few_kinds Acquire = omega arith
few_kinds Release = omega arith
few_kinds Evict = omega arith
few_kinds Move = omega arith

-- The record at the start of `rest`, at place p, is sound.
pub record Sound (p : ℕ) (rest : List ℕ) (r : Found) : Type 0 where
  pub bytes : rest ≡ record_of r.kind r.body ++ drop (size_of r) rest
  pub at_place : r.place ≡ p
  pub fit : length r.body ≡ fields_of r.kind
  pub within : size_of r ≤ length rest

-- A small number is its low byte.
pub low_byte : (low high n : ℕ) → two_bytes low high ≡ n → n ≤ 255 → low ∷ (high ∷ []) ≡ bytes_of n
low_byte low high n e l =
    let a : low ≡ n % 256 = omega arith in
    let b : high ≡ n / 256 = omega arith in
    λ i. a i ∷ (b i ∷ [])

by_kind_inv : (p : ℕ) (o : Option Kind) (b : List ℕ) (r : Found) → by_kind p o b ≡ Ok r → (o ≡ Some r.kind) × (b ≡ r.body) × (r.place ≡ p) × (length b ≡ fields_of r.kind)
by_kind_inv p None b r e = absurd (let z : ◌≡◌ {A = ℕ} 0 1 = cc in omega arith)
by_kind_inv p (Some k) b r e = go (eqb (length b) (fields_of k)) refl e
  where
    go : (t : Bool) → eqb (length b) (fields_of k) ≡ t → cond t (Ok (record { kind = k; body = b; place = p })) (Err (reader_fault WrongLength p)) ≡ Ok r → (Some k ≡ Some r.kind) × (b ≡ r.body) × (r.place ≡ p) × (length b ≡ fields_of r.kind)
    go true h q =
        let same : ◌≡◌ {A = Found} (record { kind = k; body = b; place = p }) r = cc in
        (ap (λ (x : Found). Some x.kind) same, ap (λ (x : Found). x.body) same, sym (ap (λ (x : Found). x.place) same), eqb-true (length b) (fields_of k) h ∙ ap (λ (x : Found). fields_of x.kind) same)
    go false h q = absurd (let z : ◌≡◌ {A = ℕ} 0 1 = cc in omega arith)

content_inv : (p : ℕ) (xs : List ℕ) (r : Found) → content_at p xs ≡ Ok r → (xs ≡ bytes_of (kind_number r.kind) ++ r.body) × (r.place ≡ p) × (length r.body ≡ fields_of r.kind)
content_inv p [] r e = absurd (let z : ◌≡◌ {A = ℕ} 0 1 = cc in omega arith)
content_inv p (x ∷ []) r e = absurd (let z : ◌≡◌ {A = ℕ} 0 1 = cc in omega arith)
content_inv p (x ∷ (y ∷ ys)) r e =
    let h = by_kind_inv p (kind_named (two_bytes x y)) ys r e in
    let number : two_bytes x y ≡ kind_number r.kind = named_has kind_number every_kind (two_bytes x y) r.kind h.0 in
    let kind_bytes = low_byte x y (kind_number r.kind) number (omega (arith, few_kinds r.kind)) in
    ((λ i. kind_bytes i ++ h.1 i), h.2, sym (ap length h.1) ∙ h.3)

-- Whatever is read as a record is one.
pub record_inv : (p : ℕ) (rest : List ℕ) (r : Found) → record_at p rest ≡ Ok r → Sound p rest r
record_inv p [] r e = absurd (let z : ◌≡◌ {A = ℕ} 0 1 = cc in omega arith)
record_inv p (x ∷ []) r e = absurd (let z : ◌≡◌ {A = ℕ} 0 1 = cc in omega arith)
record_inv p (x ∷ (y ∷ ys)) r e = go (ltb (length ys) (two_bytes x y)) refl e
  where
    go : (t : Bool) → ltb (length ys) (two_bytes x y) ≡ t → cond t (Err (reader_fault CutShort p)) (content_at p (take (two_bytes x y) ys)) ≡ Ok r → Sound p (x ∷ (y ∷ ys)) r
    go true h q = absurd (let z : ◌≡◌ {A = ℕ} 0 1 = cc in omega arith)
    go false h q =
        let c = content_inv p (take (two_bytes x y) ys) r q in
        let enough = ltb-false (length ys) (two_bytes x y) h in
        let count : two_bytes x y ≡ 2 + length r.body = sym (length-take-le (two_bytes x y) ys enough) ∙ (ap length c.0 ∙ omega arith) in
        let length_bytes = low_byte x y (2 + length r.body) count (omega (arith, few_fields r.kind, c.2)) in
        let size : size_of r ≡ suc (suc (two_bytes x y)) = omega (arith, count) in
        let after : drop (size_of r) (x ∷ (y ∷ ys)) ≡ drop (two_bytes x y) ys = ap (λ n. drop n (x ∷ (y ∷ ys))) size in
        let parts : ys ≡ (bytes_of (kind_number r.kind) ++ r.body) ++ drop (size_of r) (x ∷ (y ∷ ys)) = sym (take-append-drop (two_bytes x y) ys) ∙ (λ i. c.0 i ++ sym after i) in
        record {
          bytes = (λ i. length_bytes i ++ parts i);
          at_place = c.1;
          fit = c.2;
          within = omega (arith, size, enough);
        }

-- The bytes of a kind and a body with that kind's fields are read as that record.
pub record_reads : (p : ℕ) (k : Kind) (b rest : List ℕ) → length b ≡ fields_of k → record_at p (record_of k b ++ rest) ≡ Ok (record { kind = k; body = b; place = p })
record_reads p k b rest fit =
    let n = two_bytes ((2 + length b) % 256) ((2 + length b) / 256) in
    let content : List ℕ = bytes_of (kind_number k) ++ b in
    let n_is : n ≡ length content = omega arith in
    let number : two_bytes (kind_number k % 256) (kind_number k / 256) ≡ kind_number k = omega arith in
    let enough : n ≤ length (content ++ rest) = omega (arith, length-append content rest) in
    cond-false (ltb (length (content ++ rest)) n) _ _ (le-ltb (length (content ++ rest)) n enough)
    ∙ (ap (content_at p) (take_at content rest n (sym n_is))
    ∙ (ap (λ m. by_kind p (kind_named m) b) number
    ∙ (ap (λ (o : Option Kind). by_kind p o b) (kind_is k)
    ∙ cond-true (eqb (length b) (fields_of k)) _ _ (eq-eqb (length b) (fields_of k) fit))))

-- A record is next where a byte is left.
pub next_more : (p : ℕ) (xs : List ℕ) → 0 < length xs → next_at p xs ≡ or_none (record_at p xs)
next_more p [] h = absurd (omega arith)
next_more p (x ∷ xs) h = refl
