-- What a sound record says: a code, or a step whose record it is.
use Rattle.std.proofs.Common.{◌≡◌, ℕ, List, [], ◌∷◌, ◌++◌, length, get_or, drop, sym, refl, ap, ◌∙◌, arith}
use Rattle.protocol.specs.declared.steps.Step.{Step}
use Rattle.protocol.specs.declared.steps.Step.TheVariants.{Load, Store, Acquire, Release, Evict, Move}
use Rattle.study_file.specs.declared.codes.Kind.{Kind}
use Rattle.study_file.specs.declared.codes.Kind.TheVariants.{Protocol, Load as ALoad, Store as AStore, Acquire as AnAcquire, Release as ARelease, Evict as AnEvict, Move as AMove}
use Rattle.study_file.specs.declared.plans.Item.TheVariants.{Code as Names, Step as Asks}
use Rattle.study_file.specs.Codes.{kind_number, fields_of}
use Rattle.study_file.specs.Records.{Found}
use Rattle.study_file.specs.Plans.{item_of, size_of}
use Rattle.study_file.specs.Files.{kind_of, fields, record_of, step_record}
use Rattle.study_file.proofs.Soundness.{Sound}

one_field : (b : List ℕ) → length b ≡ 1 → get_or b 0 0 ∷ [] ≡ b
one_field [] h = absurd (omega arith)
one_field (x ∷ []) h = refl
one_field (x ∷ (y ∷ b)) h = absurd (omega arith)

two_fields : (b : List ℕ) → length b ≡ 2 → get_or b 0 0 ∷ (get_or b 1 0 ∷ []) ≡ b
two_fields [] h = absurd (omega arith)
two_fields (x ∷ b) h = ap (λ (ys : List ℕ). x ∷ ys) (one_field b (omega arith))

three_fields : (b : List ℕ) → length b ≡ 3 → get_or b 0 0 ∷ (get_or b 1 0 ∷ (get_or b 2 0 ∷ [])) ≡ b
three_fields [] h = absurd (omega arith)
three_fields (x ∷ b) h = ap (λ (ys : List ℕ). x ∷ ys) (two_fields b (omega arith))

pub data Which (k : Kind) (body : List ℕ) : Type 0 where
  names : (n : ℕ) → item_of k body ≡ Names n → k ≡ Protocol → n ∷ [] ≡ body → Which k body
  asks : (s : Step) → item_of k body ≡ Asks s → kind_of s ≡ k → fields s ≡ body → Which k body

pub which : (k : Kind) (body : List ℕ) → length body ≡ fields_of k → Which k body
which Protocol b h = names (get_or b 0 0) refl refl (one_field b h)
which ALoad b h = asks (Load (get_or b 0 0) (get_or b 1 0)) refl refl (two_fields b h)
which AStore b h = asks (Store (get_or b 0 0) (get_or b 1 0) (get_or b 2 0)) refl refl (three_fields b h)
which AnAcquire b h = asks (Acquire (get_or b 0 0)) refl refl (one_field b h)
which ARelease b h = asks (Release (get_or b 0 0)) refl refl (one_field b h)
which AnEvict b h = asks (Evict (get_or b 0 0) (get_or b 1 0)) refl refl (two_fields b h)
which AMove b h = asks (Move (get_or b 0 0)) refl refl (one_field b h)

-- A step is no protocol.
pub no_protocol : (s : Step) → kind_number (kind_of s) ≡ kind_number Protocol → ⊥
no_protocol (Load c a) h = omega arith
no_protocol (Store c a b) h = omega arith
no_protocol (Acquire c) h = omega arith
no_protocol (Release c) h = omega arith
no_protocol (Evict c l) h = omega arith
no_protocol (Move p) h = omega arith

-- A step is what its record says.
pub step_item : (s : Step) → item_of (kind_of s) (fields s) ≡ Asks s
step_item (Load c a) = refl
step_item (Store c a b) = refl
step_item (Acquire c) = refl
step_item (Release c) = refl
step_item (Evict c l) = refl
step_item (Move p) = refl

-- The record of a step, and what is behind it.
pub step_size : (r : Found) (s : Step) → fields s ≡ r.body → size_of r ≡ length (step_record s)
step_size r s e = omega (arith, ap length e)

pub step_bytes : (p : ℕ) (rest : List ℕ) (r : Found) (s : Step) → Sound p rest r → kind_of s ≡ r.kind → fields s ≡ r.body → rest ≡ step_record s ++ drop (length (step_record s)) rest
step_bytes p rest r s h k f = h.bytes ∙ (λ i. record_of (sym k i) (sym f i) ++ drop (step_size r s f i) rest)
