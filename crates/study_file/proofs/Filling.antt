-- A buffer that is filled record by record holds the file.
use Rattle.std.proofs.Common.{◌≡◌, ℕ, ◌+◌, ◌*◌, ◌<◌, ◌≤◌, ltb, List, [], ◌∷◌, ◌++◌, length, get_or, take, drop, Some, Ok, Option, sym, refl, ap, ◌∙◌, arith}
use borrow.Rule.Slice.PartMut.{put_mid}
use Rattle.std.specs.List.{flat_map, sum_by}
use Rattle.std.proofs.lemmas.List.Concat.{length-flat_map}
use Rattle.std.proofs.lemmas.List.{append_assoc, length-append, length-take-le, length-drop, take_more, take-append-drop, take_all, take_at, drop-drop, drop_at, flat_map_more}
use Rattle.std.proofs.lemmas.Bool.{cond-false, le-ltb}
use Rattle.protocol.specs.declared.steps.Step.{Step}
use Rattle.protocol.specs.declared.steps.Step.TheVariants.{Load, Store, Acquire, Release, Evict, Move}
use Rattle.study_file.specs.declared.codes.Code.{Code}
use Rattle.study_file.specs.declared.codes.Kind.TheVariants.{Protocol}
use Rattle.study_file.specs.Codes.{code_number, code_named, fields_of}
use Rattle.study_file.specs.Plans.{most_steps}
use Rattle.study_file.specs.Files.{record_of, kind_of, fields, step_record, code_record, file_of}
use Rattle.study_file.specs.Writer.{with_bytes, write_as, write_file}

-- A write into the middle of a buffer.
pub put_is : (at k : ℕ) (xs ys bytes : List ℕ) → ys ≡ bytes → k ≡ length bytes → put_mid at k xs ys ≡ with_bytes xs at bytes
put_is at k xs ys bytes e l = λ i. take at xs ++ (e i ++ (drop-drop k at xs ∙ ap (λ n. drop (at + n) xs) l) i)

-- A step has its kind's fields, and a record at most seven bytes.
pub step_fields : (k : Step) → length (fields k) ≡ fields_of (kind_of k)
step_fields (Load c a) = refl
step_fields (Store c a b) = refl
step_fields (Acquire c) = refl
step_fields (Release c) = refl
step_fields (Evict c l) = refl
step_fields (Move p) = refl

pub step_length : (k : Step) → length (step_record k) ≡ 4 + fields_of (kind_of k)
step_length (Load c a) = refl
step_length (Store c a b) = refl
step_length (Acquire c) = refl
step_length (Release c) = refl
step_length (Evict c l) = refl
step_length (Move p) = refl

step_short : (k : Step) → length (step_record k) ≤ 7
step_short (Load c a) = omega arith
step_short (Store c a b) = omega arith
step_short (Acquire c) = omega arith
step_short (Release c) = omega arith
step_short (Evict c l) = omega arith
step_short (Move p) = omega arith

pub steps_short : (ks : List Step) → length (flat_map step_record ks) ≤ 7 * length ks
steps_short [] = omega arith
steps_short (k ∷ ks) = omega (arith, length-append (step_record k) (flat_map step_record ks), step_short k, steps_short ks)

-- One step more.
pub steps_more : (ks : List Step) (i : ℕ) (k d : Step) → i < length ks → k ≡ get_or ks i d → flat_map step_record (take (i + 1) ks) ≡ flat_map step_record (take i ks) ++ step_record k
steps_more ks i k d l e =
    ap (flat_map step_record) (take_more ks i d l ∙ ap (λ (x : Step). take i ks ++ (x ∷ [])) (sym e)) ∙ sym (flat_map_more step_record [] (take i ks) k)

-- The length of the records of some steps is the sum of theirs.
pub steps_length : (ks : List Step) → length (flat_map step_record ks) ≡ sum_by (λ k. 4 + fields_of (kind_of k)) ks
steps_length ks = length-flat_map step_record ks ∙ (λ i. sum_by (λ k. step_length k i) ks)

-- Bytes behind bytes.
pub with_more : (b : List ℕ) (at : ℕ) (ys zs : List ℕ) → at + length ys ≤ length b → with_bytes (with_bytes b at ys) (at + length ys) zs ≡ with_bytes b at (ys ++ zs)
with_more b at ys zs room =
    let front : List ℕ = take at b ++ ys in
    let n : ℕ = at + length ys in
    let front_length : length front ≡ n = length-append (take at b) ys ∙ ap (λ k. k + length ys) (length-take-le at b (omega arith)) in
    let whole : with_bytes b at ys ≡ front ++ drop n b = sym (append_assoc (take at b) ys (drop n b)) in
    let kept : take n (with_bytes b at ys) ≡ front = ap (take n) whole ∙ take_at front (drop n b) n front_length in
    let past : drop (n + length zs) (with_bytes b at ys) ≡ drop (at + length (ys ++ zs)) b =
    sym (drop-drop (length zs) n (with_bytes b at ys))
    ∙ (ap (λ (xs : List ℕ). drop (length zs) xs) (ap (drop n) whole ∙ drop_at front (drop n b) n front_length)
    ∙ (drop-drop (length zs) n b ∙ ap (λ k. drop k b) (omega (arith, length-append ys zs))))
    in
    (λ i. kept i ++ (zs ++ past i)) ∙ (append_assoc (take at b) ys (zs ++ drop (at + length (ys ++ zs)) b) ∙ ap (λ (xs : List ℕ). take at b ++ xs) (sym (append_assoc ys zs (drop (at + length (ys ++ zs)) b))))

-- A record is put in three parts: its length, its kind and its body.
pub put_parts : (b b₁ b₂ b₃ : List ℕ) (at at₁ at₂ : ℕ) (xs ys zs us vs : List ℕ) → xs ≡ us → ys ≡ vs → b₁ ≡ with_bytes b at xs → at₁ ≡ at + length xs → b₂ ≡ with_bytes b₁ at₁ ys → at₂ ≡ at₁ + length ys → b₃ ≡ with_bytes b₂ at₂ zs → at₂ ≤ length b → b₃ ≡ with_bytes b at (us ++ (vs ++ zs))
put_parts b b₁ b₂ b₃ at at₁ at₂ xs ys zs us vs x y e₁ a₁ e₂ a₂ e₃ room =
    let two : b₂ ≡ with_bytes b at (xs ++ ys) = e₂ ∙ ((λ i. with_bytes (e₁ i) (a₁ i) ys) ∙ with_more b at xs ys (omega arith)) in
    let end : at₂ ≡ at + length (xs ++ ys) = omega (arith, length-append xs ys) in
    e₃ ∙ ((λ i. with_bytes (two i) (end i) zs) ∙ (with_more b at (xs ++ ys) zs (omega arith) ∙ ((λ i. with_bytes b at (append_assoc xs ys zs i)) ∙ (λ i. with_bytes b at (x i ++ (y i ++ zs))))))

-- The records of the first i steps stand in a buffer from a place on.
pub record Filled (b : List ℕ) (start : ℕ) (ks : List Step) (i : ℕ) (b' : List ℕ) (at : ℕ) : Type 0 where
  pub at_is : at ≡ start + length (flat_map step_record (take i ks))
  pub holds : b' ≡ with_bytes b start (flat_map step_record (take i ks))

pub with_none : (b : List ℕ) (at : ℕ) → b ≡ with_bytes b at []
with_none b at = sym (take-append-drop at b) ∙ ap (λ n. take at b ++ drop n b) (omega arith)

pub with_length : (b : List ℕ) (at : ℕ) (bytes : List ℕ) → at + length bytes ≤ length b → length (with_bytes b at bytes) ≡ length b
with_length b at bytes room =
    omega (arith, length-append (take at b) (bytes ++ drop (at + length bytes) b), length-append bytes (drop (at + length bytes) b), length-take-le at b (omega arith), length-drop (at + length bytes) b)

module _ (b : List ℕ) (start : ℕ) (ks : List Step) (room : start + length (flat_map step_record ks) ≤ length b) where
  pub filled_none : Filled b start ks 0 b start
  filled_none = record { at_is = omega arith; holds = with_none b start }

  module _ (i : ℕ) (b' : List ℕ) (at : ℕ) (f : Filled b start ks i b' at) where
    -- The next record has room too.
    so_far : (d : Step) → i < length ks → length (flat_map step_record (take i ks)) + length (step_record (get_or ks i d)) ≤ length (flat_map step_record ks)
    so_far d l =
        let more = steps_more ks i (get_or ks i d) d l refl in
        let split : flat_map step_record ks ≡ flat_map step_record (take (i + 1) ks) ++ flat_map step_record (drop (i + 1) ks) = ap (flat_map step_record) (sym (take-append-drop (i + 1) ks)) ∙ joined_append (take (i + 1) ks) (drop (i + 1) ks) in
        omega (arith, ap length more, ap length split, length-append (flat_map step_record (take (i + 1) ks)) (flat_map step_record (drop (i + 1) ks)), length-append (flat_map step_record (take i ks)) (step_record (get_or ks i d)))
      where
        joined_append : (xs ys : List Step) → flat_map step_record (xs ++ ys) ≡ flat_map step_record xs ++ flat_map step_record ys
        joined_append [] ys = refl
        joined_append (x ∷ xs) ys = ap (λ (zs : List ℕ). step_record x ++ zs) (joined_append xs ys) ∙ sym (append_assoc (step_record x) (flat_map step_record xs) (flat_map step_record ys))

    pub filled_room : (d : Step) → i < length ks → at + length (step_record (get_or ks i d)) ≤ length b'
    filled_room d l = omega (arith, so_far d l, f.at_is, ap length f.holds, with_length b start (flat_map step_record (take i ks)) (omega (arith, so_far d l)))

    pub filled_more : (d : Step) (b'' : List ℕ) (at' : ℕ) → i < length ks → at' ≡ at + length (step_record (get_or ks i d)) → b'' ≡ with_bytes b' at (step_record (get_or ks i d)) → Filled b start ks (i + 1) b'' at'
    filled_more d b'' at' l e h =
        let k : Step = get_or ks i d in
        let done : List ℕ = flat_map step_record (take i ks) in
        let more : flat_map step_record (take (i + 1) ks) ≡ done ++ step_record k = steps_more ks i k d l refl in
        record {
          at_is = omega (arith, e, f.at_is, ap length more, length-append done (step_record k));
          holds = h ∙ ((λ j. with_bytes (f.holds j) (f.at_is j) (step_record k)) ∙ (with_more b start done (step_record k) (omega (arith, so_far d l)) ∙ ap (with_bytes b start) (sym more)));
        }

    pub filled_all : length ks ≤ i → (at ≡ start + length (flat_map step_record ks)) × (b' ≡ with_bytes b start (flat_map step_record ks))
    filled_all l =
        let all = take_all i ks l in
        (f.at_is ∙ ap (λ (xs : List Step). start + length (flat_map step_record xs)) all, f.holds ∙ ap (λ (xs : List Step). with_bytes b start (flat_map step_record xs)) all)

-- The file stands at the start of the buffer.
pub file_written : (n : ℕ) (c : Code) (ks : List Step) (b b₁ b₂ : List ℕ) (size at end number : ℕ) → Some c ≡ code_named n → length ks ≤ most_steps → size ≡ 5 + length (flat_map step_record ks) → size ≤ length b → number ≡ code_number c → at ≡ 5 → b₁ ≡ with_bytes b 0 (record_of Protocol (number ∷ [])) → end ≡ at + length (flat_map step_record ks) → b₂ ≡ with_bytes b₁ at (flat_map step_record ks) → (Ok end, b₂) ≡ write_file n ks b
file_written n c ks b b₁ b₂ size at end number named few size_is room number_is at_is first end_is rest =
    let file : List ℕ = file_of c ks in
    let file_length : length file ≡ 5 + length (flat_map step_record ks) = length-append (code_record c) (flat_map step_record ks) in
    let end_at : end ≡ length file = omega (arith, file_length) in
    let front : b₁ ≡ with_bytes b 0 (code_record c) = first ∙ ap (λ m. with_bytes b 0 (record_of Protocol (m ∷ []))) number_is in
    let start : at ≡ 0 + length (code_record c) = omega arith in
    let behind : 0 + length file ≡ length file = omega arith in
    let whole : b₂ ≡ file ++ drop (length file) b =
    rest
    ∙ ((λ i. with_bytes (front i) (start i) (flat_map step_record ks))
    ∙ (with_more b 0 (code_record c) (flat_map step_record ks) (omega arith) ∙ ap (λ m. file ++ drop m b) behind))
    in
    (λ i. (Ok (end_at i), whole i))
    ∙ sym (ap (λ (o : Option Code). write_as o ks b) (sym named)
    ∙ (cond-false (ltb most_steps (length ks)) _ _ (le-ltb most_steps (length ks) few)
    ∙ cond-false (ltb (length b) (length file)) _ _ (le-ltb (length b) (length file) (omega (arith, file_length)))))
