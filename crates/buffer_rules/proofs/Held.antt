-- What an entry that is replaced, added or taken away leaves to be found.
use Rattle.std.proofs.Common.{◌≡◌, ℕ, ◌+◌, ◌<◌, Bool, true, false, cond, eqb, List, [], ◌∷◌, length, Some, None, Option, sym, refl, ap, ◌∙◌, subst, arith}
use Rattle.std.proofs.lemmas.Bool.{eqb-true, eqb-false, eq-eqb, ne_eqb}
use Rattle.buffer_rules.specs.declared.entries.Entry.{Entry}
use Rattle.buffer_rules.specs.Entries.{entry, found, replaced, added}

-- Addresses in range and distinct, and bytes.
abbrev pub Sound : List Entry → Type 0
Sound [] = Unit {0}
Sound (e ∷ es) = (e.address < 64) × (e.byte < 256) × (found e.address es ≡ None) × (Sound es)

-- The first entry's address, or another.
pub found_here : (a : ℕ) (e : Entry) (es : List Entry) → e.address ≡ a → found a (e ∷ es) ≡ Some e.byte
found_here a e es h = ap (λ (t : Bool). cond t (Some e.byte) (found a es)) (eq-eqb e.address a h)

pub found_past : (a : ℕ) (e : Entry) (es : List Entry) → (e.address ≡ a → ⊥) → found a (e ∷ es) ≡ found a es
found_past a e es h = ap (λ (t : Bool). cond t (Some e.byte) (found a es)) (ne_eqb e.address a h)

-- No entry for an address: none at the front, and none behind.
pub found_none : (a : ℕ) (e : Entry) (es : List Entry) → found a (e ∷ es) ≡ None → (e.address ≡ a → ⊥) × (found a es ≡ None)
found_none a e es h = go (eqb e.address a) refl h
  where
    go : (t : Bool) → eqb e.address a ≡ t → cond t (Some e.byte) (found a es) ≡ None → (e.address ≡ a → ⊥) × (found a es ≡ None)
    go true q h = cc
    go false q h = (eqb-false e.address a q, h)

pub found_byte : (a b : ℕ) (es : List Entry) → Sound es → found a es ≡ Some b → b < 256
found_byte a b [] s h = cc
found_byte a b (e ∷ es) s h = go (eqb e.address a) (found_byte a b es s.3) h
  where
    go : (t : Bool) → (found a es ≡ Some b → b < 256) → cond t (Some e.byte) (found a es) ≡ Some b → b < 256
    go true ih h = let z : e.byte ≡ b = cc in omega (arith, s.1)
    go false ih h = ih h

-- An entry that is replaced.
pub found_replaced : (a b : ℕ) (es : List Entry) (y : ℕ) → found a es ≡ Some y → found a (replaced a b es) ≡ Some b
found_replaced a b [] y h = cc
found_replaced a b (e ∷ es) y h = go (eqb e.address a) refl (found_replaced a b es y) h
  where
    go : (t : Bool) → eqb e.address a ≡ t → (found a es ≡ Some y → found a (replaced a b es) ≡ Some b) → cond t (Some e.byte) (found a es) ≡ Some y → found a (cond t (entry a b ∷ es) (e ∷ replaced a b es)) ≡ Some b
    go true q ih h = found_here a (entry a b) es refl
    go false q ih h = found_past a e (replaced a b es) (eqb-false e.address a q) ∙ ih h

pub found_replaced_other : (a b x : ℕ) (es : List Entry) → (x ≡ a → ⊥) → found x (replaced a b es) ≡ found x es
found_replaced_other a b x [] n = refl
found_replaced_other a b x (e ∷ es) n = go (eqb e.address a) refl (found_replaced_other a b x es n)
  where
    go : (t : Bool) → eqb e.address a ≡ t → found x (replaced a b es) ≡ found x es → found x (cond t (entry a b ∷ es) (e ∷ replaced a b es)) ≡ found x (e ∷ es)
    go true q ih = found_past x (entry a b) es (λ h. n (sym h)) ∙ sym (found_past x e es (λ h. n (sym h ∙ eqb-true e.address a q)))
    go false q ih = ap (λ (o : Option ℕ). cond (eqb e.address x) (Some e.byte) o) ih

pub sound_replaced : (a b : ℕ) (es : List Entry) → a < 64 → b < 256 → Sound es → Sound (replaced a b es)
sound_replaced a b [] la lb s = tt
sound_replaced a b (e ∷ es) la lb s = go (eqb e.address a) refl (sound_replaced a b es la lb s.3)
  where
    go : (t : Bool) → eqb e.address a ≡ t → Sound (replaced a b es) → Sound (cond t (entry a b ∷ es) (e ∷ replaced a b es))
    go true q ih = (la, lb, subst (λ (x : ℕ). found x es ≡ None) (eqb-true e.address a q) s.2, s.3)
    go false q ih = (s.0, s.1, found_replaced_other a b e.address es (eqb-false e.address a q) ∙ s.2, ih)

pub length_replaced : (a b : ℕ) (es : List Entry) → length (replaced a b es) ≡ length es
length_replaced a b [] = refl
length_replaced a b (e ∷ es) = go (eqb e.address a) (length_replaced a b es)
  where
    go : (t : Bool) → length (replaced a b es) ≡ length es → length (cond t (entry a b ∷ es) (e ∷ replaced a b es)) ≡ length (e ∷ es)
    go true ih = refl
    go false ih = omega arith

-- An entry that is added.
pub found_added : (a b : ℕ) (es : List Entry) → found a es ≡ None → found a (added a b es) ≡ Some b
found_added a b [] h = found_here a (entry a b) [] refl
found_added a b (e ∷ es) h = found_past a e (added a b es) (found_none a e es h).0 ∙ found_added a b es (found_none a e es h).1

pub found_added_other : (a b x : ℕ) (es : List Entry) → (x ≡ a → ⊥) → found x (added a b es) ≡ found x es
found_added_other a b x [] n = found_past x (entry a b) [] (λ h. n (sym h))
found_added_other a b x (e ∷ es) n = ap (λ (o : Option ℕ). cond (eqb e.address x) (Some e.byte) o) (found_added_other a b x es n)

pub sound_added : (a b : ℕ) (es : List Entry) → a < 64 → b < 256 → found a es ≡ None → Sound es → Sound (added a b es)
sound_added a b [] la lb n s = (la, lb, refl, tt)
sound_added a b (e ∷ es) la lb n s =
    let n' = found_none a e es n in
    (s.0, s.1, found_added_other a b e.address es n'.0 ∙ s.2, sound_added a b es la lb n'.1 s.3)

pub length_added : (a b : ℕ) (es : List Entry) → length (added a b es) ≡ length es + 1
length_added a b [] = refl
length_added a b (e ∷ es) = let h = length_added a b es in omega arith
