-- What an ended call that does not race leaves at each address, and what a load that does not race has answered.
use Rattle.std.proofs.Common.{◌≡◌, ℕ, ◌<◌, Bool, true, false, cond, ◌&&◌, eqb, ◌⊎◌, List, [], ◌∷◌, is_some, Some, None, Option, sym, ap, ◌∙◌, subst, inl, inr, ⊎_elim}
use Rattle.std.proofs.lemmas.Bool.{both_ways, cases_Bool, cases_eq, eqb-true, eq-eqb, ne_eqb, or_cases, and_parts, or_right}
use Rattle.protocol.specs.declared.steps.Ended.{Ended}
use Rattle.protocol.specs.declared.steps.Ended.TheVariants.{Loaded, Stored, Acquired, Released, Evicted}
use Rattle.protocol.specs.Moment.{View, Drifts, StoreLands}
use Rattle.protocol.specs.Meaning.{Brings}
use Rattle.races.specs.Races.{Written, newest, since, released, handed_over, else_earlier, races, races_with}
use Rattle.races.specs.Guarantee.{expected, byte_written}
use Rattle.races.proofs.Debts.{NewestIs, Right, right_drifts, store_here, store_there, no_race_cases}
use Rattle.races.proofs.TableLaw.{InRange}

abbrev has_released : List Ended → Written → Bool
has_released l w = released w.core l

abbrev has_handed : List Ended → Written → ℕ → Bool
has_handed l w c = handed_over w.core c l

-- What holds at an address, by the ended calls.
abbrev pub RightAt : View → ℕ → List Ended → Type 0
RightAt v a xs = Right v a (newest a xs) (has_released (since a xs)) (has_handed (since a xs))

-- The newest store's core has ended a release: nothing of it is owed.
release_adds : (c a : ℕ) (v : View) (w : Written) (l : List Ended) → v.owes c a ≡ false → NewestIs v a w (released w.core l) (λ d. handed_over w.core d l) → NewestIs v a w (released w.core (Released c ∷ l)) (λ d. handed_over w.core d (Released c ∷ l))
release_adds c a v w l f h =
    record {
      core = h.core;
      only = h.only;
      sees = h.sees;
      at_home = h.at_home;
      paid = λ e. ⊎_elim (λ (q : eqb w.core c ≡ true). subst (λ (z : ℕ). v.owes z a ≡ false) (sym (eqb-true w.core c q)) f) (λ (q : released w.core l ≡ true). h.paid q) (or_cases (eqb w.core c) (released w.core l) e);
      see_too = h.see_too;
      after = λ d e. or_right (eqb w.core c) (released w.core l) (h.after d e);
    }

right_release : (c a : ℕ) (v : View) (o : Option Written) (l : List Ended) → v.owes c a ≡ false → Right v a o (has_released l) (has_handed l) → Right v a o (has_released (Released c ∷ l)) (has_handed (Released c ∷ l))
right_release c a v None l f h = h
right_release c a v (Some w) l f h = release_adds c a v w l f h

-- An acquire after that release: its core sees home, which has the byte.
acquire_adds : (c a : ℕ) (v : View) (w : Written) (l : List Ended) → c < 8 → (v.owes c a ≡ false → v.sees c a ≡ v.home a) → NewestIs v a w (released w.core l) (λ d. handed_over w.core d l) → NewestIs v a w (released w.core (Acquired c ∷ l)) (λ d. handed_over w.core d (Acquired c ∷ l))
acquire_adds c a v w l k f h =
    record {
      core = h.core;
      only = h.only;
      sees = h.sees;
      at_home = h.at_home;
      paid = h.paid;
      see_too = λ d n e. ⊎_elim (λ (q : (eqb c d && released w.core l) ≡ true). now_sees d (and_parts (eqb c d) (released w.core l) q)) (λ (q : handed_over w.core d l ≡ true). h.see_too d n q) (or_cases (eqb c d && released w.core l) (handed_over w.core d l) e);
      after = λ d e. ⊎_elim (λ (q : (eqb c d && released w.core l) ≡ true). (and_parts (eqb c d) (released w.core l) q).1) (λ (q : handed_over w.core d l ≡ true). h.after d q) (or_cases (eqb c d && released w.core l) (handed_over w.core d l) e);
    }
  where
    free : released w.core l ≡ true → v.owes c a ≡ false
    free r = ⊎_elim (λ (e : v.owes c a ≡ true). absurd (both_ways (v.owes w.core a) (h.paid r) (subst (λ (z : ℕ). v.owes z a ≡ true) (h.only c k e) e))) (λ (e : v.owes c a ≡ false). e) (cases_Bool (v.owes c a))

    now_sees : (d : ℕ) → (eqb c d ≡ true) × (released w.core l ≡ true) → v.sees d a ≡ w.byte
    now_sees d p = subst (λ (z : ℕ). v.sees z a ≡ w.byte) (eqb-true c d p.0) (f (free p.1) ∙ h.at_home (h.paid p.1))

right_acquire : (c a : ℕ) (v : View) (o : Option Written) (l : List Ended) → c < 8 → (v.owes c a ≡ false → v.sees c a ≡ v.home a) → Right v a o (has_released l) (has_handed l) → Right v a o (has_released (Acquired c ∷ l)) (has_handed (Acquired c ∷ l))
right_acquire c a v None l k f h = h
right_acquire c a v (Some w) l k f h = acquire_adds c a v w l k f h

-- Three lemmas of one form: one for all would have to make the record `Right` anew, and be longer.
-- A call that is no store, release or acquire changes nothing.
right_load : (c e b a : ℕ) (v : View) (o : Option Written) (l : List Ended) → Right v a o (has_released l) (has_handed l) → Right v a o (has_released (Loaded c e b ∷ l)) (has_handed (Loaded c e b ∷ l))
right_load c e b a v None l h = h
right_load c e b a v (Some w) l h = h

right_evict : (c n a : ℕ) (v : View) (o : Option Written) (l : List Ended) → Right v a o (has_released l) (has_handed l) → Right v a o (has_released (Evicted c n ∷ l)) (has_handed (Evicted c n ∷ l))
right_evict c n a v None l h = h
right_evict c n a v (Some w) l h = h

right_other_store : (c e b a : ℕ) (v : View) (o : Option Written) (l : List Ended) → Right v a o (has_released l) (has_handed l) → Right v a o (has_released (Stored c e b ∷ l)) (has_handed (Stored c e b ∷ l))
right_other_store c e b a v None l h = h
right_other_store c e b a v (Some w) l h = h

-- What holds at an address after one more call, by the store to this address that the call is, or none.
abbrev Says : View → Ended → ℕ → List Ended → Option Written → Type 0
Says v x a xs o = Right v a (else_earlier o (newest a xs)) (has_released (cond (is_some o) [] (x ∷ since a xs))) (has_handed (cond (is_some o) [] (x ∷ since a xs)))

right_store : (c e b a : ℕ) (xs : List Ended) {m x y n : View} → c < 8 → e < 64 → a < 64 → Drifts m x → StoreLands c e b x y → Drifts y n → races (Stored c e b) xs ≡ false → ((f : ℕ) → f < 64 → RightAt m f xs) → (e ≡ a) ⊎ (e ≡ a → ⊥) → RightAt n a (Stored c e b ∷ xs)
right_store c e b a xs {m} {x} {y} {n} k i l p s q free h (inl same) =
    let w : Written = record { core = c; byte = b } in
    subst (Says n (Stored c e b) a xs) (ap (λ (t : Bool). cond t (Some w) None) (sym (eq-eqb e a same)))
    (right_drifts a (Some w) (has_released []) (has_handed []) l q
    (subst (λ (z : ℕ). NewestIs y z w false (λ _. false)) same
    (store_here c e b (newest e xs) (has_released (since e xs)) (has_handed (since e xs)) (right_drifts e (newest e xs) (has_released (since e xs)) (has_handed (since e xs)) i p (h e i)) k i s
    (λ u r. subst (λ (o : Option Written). races_with c o (since e xs) ≡ false) r free))))
right_store c e b a xs {m} {x} {y} {n} k i l p s q free h (inr other) =
    let w : Written = record { core = c; byte = b } in
    let o = newest a xs in
    let bs = since a xs in
    subst (Says n (Stored c e b) a xs) (ap (λ (t : Bool). cond t (Some w) None) (sym (ne_eqb e a other)))
    (right_other_store c e b a n o bs
    (right_drifts a o (has_released bs) (has_handed bs) l q (store_there c e b a o (has_released bs) (has_handed bs) l (λ r. other (sym r)) s (right_drifts a o (has_released bs) (has_handed bs) l p (h a l)))))

-- One more ended call that does not race keeps what holds at each address.
pub right_added : (x : Ended) (xs : List Ended) (m n : View) → InRange x → Brings x m n → races x xs ≡ false → ((f : ℕ) → f < 64 → RightAt m f xs) → (a : ℕ) → a < 64 → RightAt n a (x ∷ xs)
right_added (Loaded c e b) xs m n i g r h a l = right_load c e b a n (newest a xs) (since a xs) (right_drifts a (newest a xs) (has_released (since a xs)) (has_handed (since a xs)) l g.0 (h a l))
right_added (Stored c e b) xs m n i g r h a l = right_store c e b a xs i.0 i.1 l g.2 g.3 g.4 r h (cases_eq e a)
right_added (Acquired c) xs m n i g r h a l = right_acquire c a n (newest a xs) (since a xs) i (g.1 a l) (right_drifts a (newest a xs) (has_released (since a xs)) (has_handed (since a xs)) l g.0 (h a l))
right_added (Released c) xs m n i g r h a l = right_release c a n (newest a xs) (since a xs) (g.1 a l) (right_drifts a (newest a xs) (has_released (since a xs)) (has_handed (since a xs)) l g.0 (h a l))
right_added (Evicted c e) xs m n i g r h a l = right_evict c e a n (newest a xs) (since a xs) (right_drifts a (newest a xs) (has_released (since a xs)) (has_handed (since a xs)) l g (h a l))

-- A load that does not race sees the newest store's byte.
sees_newest : (c a : ℕ) (v : View) (o : Option Written) (l : List Ended) → c < 8 → races_with c o l ≡ false → Right v a o (has_released l) (has_handed l) → v.sees c a ≡ byte_written o
sees_newest c a v None l k r h = h.all_see c k
sees_newest c a v (Some w) l k r h =
    ⊎_elim (λ (e : w.core ≡ c). subst (λ (z : ℕ). v.sees z a ≡ w.byte) e h.sees) (λ (e : handed_over w.core c l ≡ true). h.see_too c k e) (no_race_cases c w (handed_over w.core c l) r)

pub load_answers : (c a b : ℕ) (xs : List Ended) (m n : View) → c < 8 → a < 64 → Brings (Loaded c a b) m n → races (Loaded c a b) xs ≡ false → RightAt m a xs → b ≡ expected a xs
load_answers c a b xs m n k l g r h = g.1 ∙ sees_newest c a n (newest a xs) (since a xs) k r (right_drifts a (newest a xs) (has_released (since a xs)) (has_handed (since a xs)) l g.0 h)
