-- Whether a slot of a core passes a test, and whether a Put or PutAck is left.
use Rattle.std.proofs.Common.{◌≡◌, ℕ, zero, suc, ◌+◌, ◌<◌, ◌≤◌, Bool, true, false, not, if◌then◌else◌, ◌||◌, ◌&&◌, eqb, List, length, get_or, take, [], ◌∷◌, ◌++◌, sym, refl, ap, ap₂, ◌∙◌, add-zero, add-one, arith}
use Rattle.std.proofs.Math.Bool.{or-false, or-true}
use Rattle.std.specs.List.{list_any}
use Rattle.std.proofs.lemmas.Bool.{ne_eqb}
use Rattle.std.proofs.lemmas.List.{take_all}
use Rattle.std.proofs.lemmas.List.Folds.{list_any_more, list_any-append}
use Rattle.neat_rules.specs.State.{total, some_below, Place, Empty, GetLine, Data, Put, PutAck, Commit, Closing, Shut, Slot, Core}
use Rattle.neat_rules.specs.Rules.{outstanding, shut, settled}
use Rattle.neat.specs.declared.slot.Slot.{Slot as CodeSlot}
use Rattle.neat.specs.Parts.{as_slot, as_slots, no_slot}

some_taken : {X : Type 0} (p : X → Bool) (xs : List X) (d : X) (n : ℕ) → n ≤ length xs → list_any p (take n xs) ≡ some_below n (λ i. p (get_or xs i d))
some_taken p xs d zero h = refl
some_taken p xs d (suc n) h =
    ap (λ (k : ℕ). list_any p (take k xs)) (sym (add-one n))
    ∙ list_any_more p xs n d (omega arith)
    ∙ ap (λ (t : Bool). t || p (get_or xs n d)) (some_taken p xs d n (omega arith))

-- One element more.
pub any_push : {X : Type 0} (p : X → Bool) (xs : List X) (x : X) (a b : Bool) → a ≡ list_any p xs → b ≡ (a || p x) → b ≡ list_any p (xs ++ (x ∷ []))
any_push p xs x a b e h = h ∙ ap₂ ◌||◌ e (sym (or-false (p x))) ∙ sym (list_any-append p xs (x ∷ []))

-- A test of the slots, in turn or by their lines.
pub some_slot : (q : Slot → Bool) (vs : List CodeSlot) → length vs ≡ 8 → list_any (λ v. q (as_slot v)) vs ≡ some_below 8 (λ l. q (as_slots vs l))
some_slot q vs h =
    sym (ap (list_any (λ v. q (as_slot v))) (take_all 8 vs (omega arith)))
    ∙ some_taken (λ v. q (as_slot v)) vs no_slot 8 (omega arith)

-- Whether a Put or PutAck is in the place.
abbrev pub is_left : Slot → Bool
is_left v = eqb (outstanding v.place) 1

outstanding_few : (p : Place) → outstanding p < 2
outstanding_few Empty = omega arith
outstanding_few GetLine = omega arith
outstanding_few (Data d) = omega arith
outstanding_few (Put b) = omega arith
outstanding_few PutAck = omega arith
outstanding_few (Commit b) = omega arith

-- A sum of zeros and ones is 0 where there is no one.
no_ones : (n : ℕ) (f : ℕ → ℕ) → ((i : ℕ) → f i < 2) → eqb (total n f) 0 ≡ not (some_below n (λ i. eqb (f i) 1))
no_ones zero f h = refl
no_ones (suc n) f h = more (total n f) (f n) (some_below n (λ i. eqb (f i) 1)) (no_ones n f h) (h n)
  where
    more : (t k : ℕ) (s : Bool) → eqb t 0 ≡ not s → k < 2 → eqb (t + k) 0 ≡ not (s || eqb k 1)
    more t zero s e h = ap (λ (k : ℕ). eqb k 0) (add-zero t) ∙ e ∙ sym (ap not (or-false s))
    more t (suc zero) s e h = ne_eqb (t + 1) 0 (omega arith) ∙ sym (ap not (or-true s))
    more t (suc (suc k)) s e h = absurd (omega arith)

pub none_left : (x : Core) (r : Bool) → x.closing ≡ Shut → r ≡ some_below 8 (λ l. is_left (x.slot l)) → not r ≡ settled x
none_left x r s e = sym (ap (λ (k : Closing). shut k && eqb (total 8 (λ l. outstanding (x.slot l).place)) 0) s ∙ no_ones 8 (λ l. outstanding (x.slot l).place) (λ l. outstanding_few (x.slot l).place) ∙ ap not (sym e))

-- A slot's answer whether a Put or PutAck is left.
pub left_there : (r : Bool) (v : Slot) → (if r then 1 else 0) ≡ outstanding v.place → r ≡ is_left v
left_there true v e = ap (λ (k : ℕ). eqb k 1) e
left_there false v e = ap (λ (k : ℕ). eqb k 1) e
