-- Where an entry stands: the first place that has its address, and the front.
use Rattle.std.proofs.Common.{◌≡◌, ℕ, suc, ◌+◌, ◌<◌, ◌≤◌, ◌==◌, Bool, true, false, cond, ltb, not, List, [], ◌∷◌, length, get_or, set, position, slice_get, remove, OnSome, IfNone, Some, None, Option, sym, refl, ap, ◌∙◌, subst, arith}
use Rattle.std.specs.List.{position_or_len, refill}
use Rattle.std.proofs.lemmas.Bool.{ltb-true, ltb-false}
use Rattle.std.proofs.lemmas.Option.{slice_get-get_or, slice_get_past}
use Rattle.std.proofs.Math.ListN.{length-set}
use Rattle.arrayvec.specs.ArrayVec.{ArrayVec}
use Rattle.arrayvec.proofs.ArrayVecLemmas.{items-with_items}
use Rattle.buffer_rules.specs.declared.entries.Entry.{Entry}
use Rattle.buffer_rules.specs.Entries.{capacity, entry, found, replaced, rest}

-- The first place that has the address, or the length.
abbrev first : ℕ → List Entry → ℕ
first a es = position_or_len (λ e. e.address == a) es

next : (n : ℕ) → suc n ≡ 1 + n
next n = omega arith

abbrev byte : Option Entry → Option ℕ
byte None = None
byte (Some e) = Some e.byte

found_first : (a : ℕ) (es : List Entry) → found a es ≡ byte (slice_get es (first a es))
found_first a [] = refl
found_first a (e ∷ es) =
    elim (e.address == a) as (λ t. cond t (Some e.byte) (found a es) ≡ byte (slice_get (e ∷ es) (cond (not t) (1 + first a es) 0)))
    [ true ↦ refl | false ↦ subst (λ n. found a es ≡ byte (slice_get (e ∷ es) n)) (next (first a es)) (found_first a es) ]

replaced_first : (a b : ℕ) (es : List Entry) → replaced a b es ≡ set es (first a es) (entry a b)
replaced_first a b [] = refl
replaced_first a b (e ∷ es) =
    elim (e.address == a) as (λ t. cond t (entry a b ∷ es) (e ∷ replaced a b es) ≡ set (e ∷ es) (cond (not t) (1 + first a es) 0) (entry a b))
    [ true ↦ refl | false ↦ subst (λ n. e ∷ replaced a b es ≡ set (e ∷ es) n (entry a b)) (next (first a es)) (ap (λ xs. e ∷ xs) (replaced_first a b es)) ]

pub found_at : (a i : ℕ) (xs es : List Entry) (d : Entry) → xs ≡ es → Some i ≡ position (λ e. e.address == a) es → found a es ≡ Some (get_or xs i d).byte
found_at a i xs es d x h = found_first a es ∙ go (ltb (first a es) (length es)) refl h ∙ ap (λ ys. Some (get_or ys i d).byte) (sym x)
  where
    go : (t : Bool) → ltb (first a es) (length es) ≡ t → Some i ≡ cond t (Some (first a es)) None → byte (slice_get es (first a es)) ≡ Some (get_or es i d).byte
    go true q k = let j : first a es ≡ i = cc in ap byte (slice_get-get_or es (first a es) d (ltb-true _ _ q)) ∙ ap (λ n. Some (get_or es n d).byte) j
    go false q k = cc

pub found_none : (a : ℕ) (es : List Entry) → ◌≡◌ {A = Option ℕ} None (position (λ e. e.address == a) es) → found a es ≡ None
found_none a es h = found_first a es ∙ go (ltb (first a es) (length es)) refl h
  where
    go : (t : Bool) → ltb (first a es) (length es) ≡ t → ◌≡◌ {A = Option ℕ} None (cond t (Some (first a es)) None) → byte (slice_get es (first a es)) ≡ None
    go true q k = cc
    go false q k = ap byte (slice_get_past es (first a es) (ltb-false _ _ q))

replaced_at : (a b i : ℕ) (es : List Entry) → Some i ≡ position (λ e. e.address == a) es → set es i (entry a b) ≡ replaced a b es
replaced_at a b i es h = sym (replaced_first a b es ∙ go (ltb (first a es) (length es)) h)
  where
    go : (t : Bool) → Some i ≡ cond t (Some (first a es)) None → set es (first a es) (entry a b) ≡ set es i (entry a b)
    go true k = let j : first a es ≡ i = cc in ap (λ n. set es n (entry a b)) j
    go false k = cc

-- A write there, through the slice xs of the entries ys, which are es.
pub written_at : (a b i : ℕ) (xs ys es : List Entry) → xs ≡ ys → ys ≡ es → Some i ≡ position (λ e. e.address == a) es → refill (length ys) ys (set xs i (entry a b)) ≡ replaced a b es
written_at a b i xs ys es x y h =
    items-with_items (record { items = ys }) (set xs i (entry a b)) (simp length-set (ap length x)) ∙ ap (λ zs. set zs i (entry a b)) (x ∙ y) ∙ replaced_at a b i es h

-- The front of the slice xs of the entries ys, which are es, and what is left behind it.
pub oldest : (xs ys es zs : List Entry) (e : Entry) → xs ≡ ys → ys ≡ es → Some e ≡ slice_get xs 0 → zs ≡ remove ys 0 → es ≡ e ∷ zs
oldest xs ys es zs e x y h z = sym (x ∙ y) ∙ go xs h ∙ ap (λ ws. e ∷ ws) (ap (λ ws. remove ws 0) x ∙ sym z)
  where
    go : (ws : List Entry) → Some e ≡ slice_get ws 0 → ws ≡ e ∷ remove ws 0
    go [] k = cc
    go (w ∷ ws) k = let i : w ≡ e = cc in ap (λ v. v ∷ ws) i

pub oldest_of_all : (xs ys es zs : List Entry) (d : Entry) → xs ≡ ys → ys ≡ es → capacity ≤ length es → zs ≡ remove ys 0 → es ≡ get_or xs 0 d ∷ zs
oldest_of_all xs ys es zs d x y l z =
    let k : 0 < length xs = subst (λ ws. 0 < length ws) (sym (x ∙ y)) (omega arith) in
    oldest xs ys es zs (get_or xs 0 d) x y (sym (slice_get-get_or xs 0 d k)) z

pub popped : (r : Option Entry) (ys es : List Entry) (v : ArrayVec Entry) → ys ≡ es → r ≡ slice_get ys 0 → OnSome r (v.items ≡ remove ys 0) → IfNone r (v ≡ record { items = ys }) → v.items ≡ rest es
popped r ys es v y h p n = go r ys h p n ∙ ap rest y
  where
    go : (r : Option Entry) (ws : List Entry) → r ≡ slice_get ws 0 → OnSome r (v.items ≡ remove ws 0) → IfNone r (v ≡ record { items = ws }) → v.items ≡ rest ws
    go None [] k p n = ap (λ (u : ArrayVec Entry). u.items) n
    go None (w ∷ ws) k p n = cc
    go (Some e) [] k p n = cc
    go (Some e) (w ∷ ws) k p n = p

pub none_left : (xs ys es : List Entry) → xs ≡ ys → ys ≡ es → ◌≡◌ {A = Option Entry} None (slice_get xs 0) → es ≡ []
none_left xs ys es x y h = sym (x ∙ y) ∙ go xs h
  where
    go : (ws : List Entry) → ◌≡◌ {A = Option Entry} None (slice_get ws 0) → ws ≡ []
    go [] k = refl
    go (w ∷ ws) k = cc
