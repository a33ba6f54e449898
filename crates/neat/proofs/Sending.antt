-- An acquire or release sends its lines one after the other.
use Rattle.std.proofs.Common.{◌≡◌, ℕ, ◌+◌, ◌<◌, ◌≤◌, Bool, true, false, cond, ltb, ◌⊎◌, List, length, get_or, set, sym, refl, ap, ◌∙◌, subst, ap₂, inl, inr, add-one, arith}
use mathlib.Core.Path.{fun_ext}
use Rattle.std.proofs.lemmas.List.{length-set, get_or-set_same, get_or-set_other, get_or_past, get_or_default}
use Rattle.std.proofs.lemmas.Bool.{cases_eq, ltb-true, ltb-false, lt-ltb, le-ltb, cond-true, cond-false}
use Rattle.neat_rules.specs.State.{total, Line, I, Place, Empty, Slot}
use Rattle.neat_rules.specs.Rules.{commits_of}
use Rattle.neat.specs.declared.slot.Slot.{Slot as CodeSlot}
use Rattle.neat.specs.Parts.{as_slot, as_slots, no_slot}

module _ (send : Line → Place → Slot) where
  -- The slots f when the lines below n are sent.
  abbrev sent_below : ℕ → (ℕ → Slot) → ℕ → Slot
  sent_below n f j = cond (ltb j n) (send (f j).line (f j).place) (f j)

  -- The slots vs have become us, with the lines below n sent and m Commits among them.
  pub record Sent (vs us : List CodeSlot) (n m : ℕ) : Type 0 where
    pub same : length us ≡ length vs
    pub long : 0 < n → length vs ≡ 8
    pub slots : (j : ℕ) → as_slots us j ≡ sent_below n (as_slots vs) j
    pub count : m ≡ total n (λ j. commits_of (as_slots vs j).line)

  pub none_sent : (vs : List CodeSlot) → Sent vs vs 0 0
  none_sent vs = record { same = refl; long = λ l. absurd (omega arith); slots = λ j. sym (cond-false (ltb j 0) (send (as_slots vs j).line (as_slots vs j).place) (as_slots vs j) (le-ltb j 0 (omega arith))); count = refl }

  -- The slot at n is not sent yet.
  unsent : (vs us : List CodeSlot) (n m : ℕ) → Sent vs us n m → as_slots us n ≡ as_slots vs n
  unsent vs us n m h = h.slots n ∙ cond-false (ltb n n) (send (as_slots vs n).line (as_slots vs n).place) (as_slots vs n) (le-ltb n n (omega arith))

  pub sent_more : (vs us : List CodeSlot) (n m k b : ℕ) (v z : CodeSlot) → Sent vs us n m → n < 8 → length us ≡ 8 → as_slot v ≡ send (as_slot (get_or us n z)).line (as_slot (get_or us n z)).place → b ≡ commits_of (as_slot (get_or us n z)).line → k ≡ m + b → Sent vs (set us n v) (n + 1) k
  sent_more vs us n m k b v z h l g e f q =
      record {
        same = length-set us n v ∙ h.same;
        long = λ j. sym h.same ∙ g;
        slots = λ j. go j (cases_eq j n);
        count = subst (λ (i : ℕ). k ≡ total i (λ j. commits_of (as_slots vs j).line)) (sym (add-one n)) (q ∙ ap₂ ◌+◌ h.count (f ∙ ap (λ (u : Slot). commits_of u.line) was));
      }
    where
      was : as_slot (get_or us n z) ≡ as_slots vs n
      was = ap as_slot (get_or_default us n z no_slot (omega arith)) ∙ unsent vs us n m h

      go : (j : ℕ) → (j ≡ n) ⊎ (j ≡ n → ⊥) → as_slots (set us n v) j ≡ sent_below (n + 1) (as_slots vs) j
      go j (inl q) =
          subst (λ (i : ℕ). as_slots (set us n v) i ≡ sent_below (n + 1) (as_slots vs) i) (sym q)
          (ap as_slot (get_or-set_same us n v no_slot (omega arith)) ∙ e ∙ ap (λ (u : Slot). send u.line u.place) was ∙ sym (cond-true (ltb n (n + 1)) (send (as_slots vs n).line (as_slots vs n).place) (as_slots vs n) (lt-ltb n (n + 1) (omega arith))))
      go j (inr q) = ap as_slot (get_or-set_other us n j v no_slot q) ∙ h.slots j ∙ other (ltb j n) refl
        where
          other : (t : Bool) → ltb j n ≡ t → cond t (send (as_slots vs j).line (as_slots vs j).place) (as_slots vs j) ≡ sent_below (n + 1) (as_slots vs) j
          other true r = sym (cond-true (ltb j (n + 1)) (send (as_slots vs j).line (as_slots vs j).place) (as_slots vs j) (lt-ltb j (n + 1) (omega (arith, ltb-true j n r))))
          other false r = sym (cond-false (ltb j (n + 1)) (send (as_slots vs j).line (as_slots vs j).place) (as_slots vs j) (le-ltb j (n + 1) (omega (arith, ltb-false j n r))))

  -- All lines are sent; past the last there is none.
  pub all_sent : (vs us : List CodeSlot) (n m : ℕ) → send I Empty ≡ record { line = I; place = Empty } → Sent vs us n m → 8 ≤ n → as_slots us ≡ (λ (j : ℕ). send (as_slots vs j).line (as_slots vs j).place)
  all_sent vs us n m e h l = fun_ext (λ j. h.slots j ∙ go j (ltb j n) refl)
    where
      past : (j : ℕ) → 8 ≤ j → as_slots vs j ≡ record { line = I; place = Empty }
      past j g = ap as_slot (get_or_past vs j no_slot (omega (arith, h.long (omega arith))))

      go : (j : ℕ) (t : Bool) → ltb j n ≡ t → cond t (send (as_slots vs j).line (as_slots vs j).place) (as_slots vs j) ≡ send (as_slots vs j).line (as_slots vs j).place
      go j true q = refl
      go j false q =
          let p = past j (omega (arith, ltb-false j n q)) in
          p ∙ sym e ∙ sym (ap (λ (u : Slot). send u.line u.place) p)
