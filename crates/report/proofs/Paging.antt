-- What is put into a page piece by piece is put whole.
use Rattle.std.proofs.Common.{◌≡◌, ℕ, zero, suc, ◌+◌, ◌-◌, ◌≤◌, min, List, [], ◌∷◌, ◌++◌, length, take, drop, sym, refl, ap, ◌∙◌, subst, append_assoc, arith, length-append, length-drop}
use borrow.Rule.Slice.PartMut.{put_mid}
use Rattle.std.proofs.lemmas.List.{append-nil, length-take-le, take_min, drop_min, take_at, drop_at, take_all, drop_all, drop-drop, take-append-drop}
use Rattle.report.specs.declared.page.Page.{Page}
use Rattle.report.specs.Page.{written, rest, Puts}

-- A write into the middle of a buffer: the front, the bytes and what is behind them.
module _ (out bytes bs : List ℕ) (f fit k : ℕ) (within : f ≤ length out) (fit_is : fit ≡ min (length bytes) (length out - f)) (bs_is : bs ≡ take fit bytes) (k_is : k ≡ fit) where
  front_length : length (take f out ++ bs) ≡ f + fit
  front_length = let a = length-append (take f out) bs in let b = length-take-le f out within in let c = ap length bs_is in let d = length-take-le fit bytes (omega arith) in omega arith

  whole : put_mid f k out bs ≡ (take f out ++ bs) ++ drop fit (drop f out)
  whole = ap (λ n. take f out ++ (bs ++ drop n (drop f out))) k_is ∙ sym (append_assoc (take f out) bs (drop fit (drop f out)))

  pub mid_fills : take (f + fit) (put_mid f k out bs) ≡ take f out ++ take (length (drop f out)) bytes
  mid_fills =
      let n : fit ≡ min (length (drop f out)) (length bytes) = let l = length-drop f out in omega arith in
      ap (take (f + fit)) whole ∙ (take_at (take f out ++ bs) (drop fit (drop f out)) (f + fit) front_length ∙ ap (λ (z : List ℕ). take f out ++ z) (bs_is ∙ (ap (λ m. take m bytes) n ∙ take_min (length (drop f out)) bytes)))

  pub mid_keeps : drop (f + fit) (put_mid f k out bs) ≡ drop (length bytes) (drop f out)
  mid_keeps =
      let n : fit ≡ min (length bytes) (length (drop f out)) = let l = length-drop f out in omega arith in
      ap (drop (f + fit)) whole ∙ (drop_at (take f out ++ bs) (drop fit (drop f out)) (f + fit) front_length ∙ (ap (λ m. drop m (drop f out)) n ∙ drop_min (length bytes) (drop f out)))

-- What of two pieces has room.
take_join : (r : ℕ) (xs ys : List ℕ) → take r (xs ++ ys) ≡ take r xs ++ take (r - length xs) ys
take_join zero [] ys = refl
take_join zero (x ∷ xs) ys = let e : 0 ≡ 0 - suc (length xs) = omega arith in ap (λ n. take n ys) e
take_join (suc r) [] ys = let e : suc r ≡ suc r - 0 = omega arith in ap (λ n. take n ys) e
take_join (suc r) (x ∷ xs) ys =
    let e : r - length xs ≡ suc r - suc (length xs) = omega arith in
    ap (λ (zs : List ℕ). x ∷ zs) (take_join r xs ys ∙ ap (λ n. take r xs ++ take n ys) e)

pub puts_none : (p : Page) → Puts p p []
puts_none p = record { same_buffer = refl; fills = sym (append-nil (written p)) ∙ ap (λ (z : List ℕ). written p ++ z) (sym (take_all (length (rest p)) [] (omega arith))); keeps = refl }

-- One piece behind the other.
pub puts_more : {p q s : Page} (xs ys : List ℕ) → Puts p q xs → Puts q s ys → Puts p s (xs ++ ys)
puts_more {p} {q} {s} xs ys h g =
    let room : length (rest q) ≡ length (rest p) - length xs = ap length h.keeps ∙ length-drop (length xs) (rest p) in
    record {
      same_buffer = g.same_buffer ∙ h.same_buffer;
      fills =
          g.fills
          ∙ ((λ i. h.fills i ++ take (room i) ys)
          ∙ (append_assoc (written p) (take (length (rest p)) xs) (take (length (rest p) - length xs) ys)
          ∙ ap (λ (z : List ℕ). written p ++ z) (sym (take_join (length (rest p)) xs ys))));
      keeps =
          g.keeps ∙ (ap (drop (length ys)) h.keeps ∙ (drop-drop (length ys) (length xs) (rest p) ∙ ap (λ n. drop n (rest p)) (sym (length-append xs ys))));
    }

-- What has room is there whole, at the start of the buffer.
pub record IsWhole (p q : Page) (xs : List ℕ) : Type 0 where
  pub wrote : written q ≡ xs
  pub holds : q.buffer.now ≡ xs ++ drop (length xs) (rest p)

pub puts_whole : {p q : Page} (xs : List ℕ) → written p ≡ [] → length xs ≤ length (rest p) → Puts p q xs → IsWhole p q xs
puts_whole {p} {q} xs e room h =
    let all : written q ≡ xs = h.fills ∙ (λ i. e i ++ take_all (length (rest p)) xs room i) in
    record { wrote = all; holds = sym (take-append-drop q.filled q.buffer.now) ∙ (λ i. all i ++ h.keeps i) }

-- A line that fills its buffer.
pub puts_line : {p q : Page} {ys : List ℕ} (xs : List ℕ) → written p ≡ [] → length xs ≡ length (rest p) → Puts p q ys → ys ≡ xs → q.buffer.now ≡ xs
puts_line {p} {q} xs e n h is =
    let w = puts_whole xs e (omega arith) (subst (Puts p q) is h) in
    w.holds ∙ (ap (λ (z : List ℕ). xs ++ z) (drop_all (length xs) (rest p) (omega arith)) ∙ append-nil xs)
