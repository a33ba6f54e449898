-- What is seen, owed and at home over a core's entries, as the view below changes and entries come and go.
use Rattle.std.proofs.Common.{◌≡◌, ℕ, ◌<◌, Bool, true, false, cond, ◌⊎◌, List, [], ◌∷◌, Some, None, Option, sym, refl, ap, ◌∙◌, subst, ap₂, inl, inr}
use Rattle.std.proofs.lemmas.Bool.{cases_eq, eq-eqb, ne_eqb, both_ways}
use Rattle.protocol.specs.declared.steps.Ended.{Ended}
use Rattle.protocol.specs.declared.steps.Ended.TheVariants.{Loaded, Stored, Acquired, Released, Evicted}
use Rattle.protocol.specs.Moment.{View, Drift, Drifts, stay, drift, StoreLands, NobodyOwes, Owed}
use Rattle.protocol.specs.Meaning.{Brings}
use Rattle.buffer_rules.specs.declared.entries.Entry.{Entry}
use Rattle.buffer_rules.specs.Entries.{found}
use Rattle.buffer_rules.specs.Rules.{put}
use Rattle.buffer_rules.specs.Buffered.{seen, owed, seen_over}
use Rattle.buffer_rules.proofs.Held.{Sound, found_here, found_past}

pub put_here : {X : Type 0} (f : ℕ → X) (c : ℕ) (x : X) → put f c x c ≡ x
put_here f c x = ap (λ (t : Bool). cond t x (f c)) (eq-eqb c c refl)

pub put_other : {X : Type 0} (f : ℕ → X) (c : ℕ) (x : X) (d : ℕ) → (d ≡ c → ⊥) → put f c x d ≡ f d
put_other f c x d n = ap (λ (t : Bool). cond t x (f d)) (ne_eqb d c n)

-- Two views that agree on all cores and addresses.
pub record Same (v w : View) : Type 0 where
  pub sees : (c a : ℕ) → c < 8 → a < 64 → w.sees c a ≡ v.sees c a
  pub home : (a : ℕ) → a < 64 → w.home a ≡ v.home a
  pub owes : (c a : ℕ) → c < 8 → a < 64 → w.owes c a ≡ v.owes c a

pub same_drift : {v w : View} → Same v w → Drift v w
same_drift {v} {w} h =
    record {
      no_new_debt = λ c a l k o. sym (h.owes c a l k) ∙ o;
      home_stays = λ a k n. h.home a k;
      home_taken = λ a k o n. absurd (both_ways (v.owes o.0 a) (sym (h.owes o.0 a o.1 k) ∙ n o.0 o.1) o.2);
      debtor_sees = λ c a l k o. h.sees c a l k;
      other_sees = λ c a l k o. inl (h.sees c a l k);
    }

pub drifts_on : {u v w : View} → Drifts u v → Drifts v w → Drifts u w
drifts_on a stay = a
drifts_on a (drift b d) = drift (drifts_on a b) d

-- Nothing is owed over an entry's place that has no entry and no debt below.
owed_below : (o : Option ℕ) (x : Bool) → owed o x ≡ false → (o ≡ None) × (x ≡ false)
owed_below None x h = (refl, h)
owed_below (Some b) x h = cc

owed_mono : (o : Option ℕ) (x y : Bool) → (x ≡ true → y ≡ true) → owed o x ≡ true → owed o y ≡ true
owed_mono None x y i h = i h
owed_mono (Some b) x y i h = refl

-- Any drift below is a drift above.
module _ (E : ℕ → List Entry) where
  taken : (v w : View) (a : ℕ) → Drift v w → a < 64 → Owed (seen_over E v) a → NobodyOwes (seen_over E w) a → (c : ℕ) × (c < 8) × ((seen_over E v).owes c a ≡ true) × (w.home a ≡ (seen_over E v).sees c a)
  taken v w a d k o n =
      let bare = λ (c : ℕ) (l : c < 8). (owed_below (found a (E c)) (w.owes c a) (n c l)).0 in
      let o' : v.owes o.0 a ≡ true = subst (λ (x : Option ℕ). owed x (v.owes o.0 a) ≡ true) (bare o.0 o.1) o.2 in
      let h = d.home_taken a k (o.0, o.1, o') (λ c l. (owed_below (found a (E c)) (w.owes c a) (n c l)).1) in
      (h.0, h.1, ap (λ (x : Option ℕ). owed x (v.owes h.0 a)) (bare h.0 h.1) ∙ h.2, h.3 ∙ sym (ap (λ (x : Option ℕ). seen x (v.sees h.0 a)) (bare h.0 h.1)))

  debtor : (v w : View) (c a : ℕ) (o : Option ℕ) → (w.owes c a ≡ true → w.sees c a ≡ v.sees c a) → owed o (w.owes c a) ≡ true → seen o (w.sees c a) ≡ seen o (v.sees c a)
  debtor v w c a None i h = i h
  debtor v w c a (Some b) i h = refl

  other : (v w : View) (c a : ℕ) (o : Option ℕ) → (w.owes c a ≡ false → (w.sees c a ≡ v.sees c a) ⊎ (w.sees c a ≡ w.home a)) → owed o (w.owes c a) ≡ false → (seen o (w.sees c a) ≡ seen o (v.sees c a)) ⊎ (seen o (w.sees c a) ≡ w.home a)
  other v w c a None i h = i h
  other v w c a (Some b) i h = inl refl

  pub over_drift : {v w : View} → Drift v w → Drift (seen_over E v) (seen_over E w)
  over_drift {v} {w} d =
      record {
        no_new_debt = λ c a l k. owed_mono (found a (E c)) (w.owes c a) (v.owes c a) (d.no_new_debt c a l k);
        home_stays = λ a k n. d.home_stays a k (λ c l. (owed_below (found a (E c)) (v.owes c a) (n c l)).1);
        home_taken = λ a k. taken v w a d k;
        debtor_sees = λ c a l k. debtor v w c a (found a (E c)) (d.debtor_sees c a l k);
        other_sees = λ c a l k. other v w c a (found a (E c)) (d.other_sees c a l k);
      }

  pub over_drifts : {v w : View} → Drifts v w → Drifts (seen_over E v) (seen_over E w)
  over_drifts stay = stay
  over_drifts (drift h d) = drift (over_drifts h) (over_drift d)

-- Core c's entries are q in E and q' in E', and all others' are the same.
pub record Around (c : ℕ) (q q' : List Entry) (E E' : ℕ → List Entry) : Type 0 where
  pub before : E c ≡ q
  pub afterwards : E' c ≡ q'
  pub others : (d : ℕ) → (d ≡ c → ⊥) → E' d ≡ E d

-- Core by core: what holds of c, with its entries before and after, and of each other core, whose entries stay.
by_core : {c : ℕ} {q q' : List Entry} {E E' : ℕ → List Entry} → Around c q q' E E' → (P : ℕ → List Entry → List Entry → Type 0) → P c q q' → ((d : ℕ) → (d ≡ c → ⊥) → P d (E d) (E d)) → (d : ℕ) → P d (E d) (E' d)
by_core {c} {q} {q'} {E} {E'} h P here there d = go (cases_eq d c)
  where
    at_c : P c (E c) (E' c)
    at_c = subst (λ (x : List Entry). P c x (E' c)) (sym h.before) (subst (P c q) (sym h.afterwards) here)

    go : (d ≡ c) ⊎ (d ≡ c → ⊥) → P d (E d) (E' d)
    go (inl e) = subst (λ (x : ℕ). P x (E x) (E' x)) (sym e) at_c
    go (inr n) = subst (P d (E d)) (sym (h.others d n)) (there d n)

-- The same entries, over the same view.
pub same_entries : {c : ℕ} {q : List Entry} {E E' : ℕ → List Entry} (v : View) → Around c q q E E' → Same (seen_over E v) (seen_over E' v)
same_entries {c} v h =
    record {
      sees = λ d a l k. by_core h (λ i x y. seen (found a y) (v.sees i a) ≡ seen (found a x) (v.sees i a)) refl (λ i n. refl) d;
      home = λ a k. refl;
      owes = λ d a l k. by_core h (λ i x y. owed (found a y) (v.owes i a) ≡ owed (found a x) (v.owes i a)) refl (λ i n. refl) d;
    }

-- The oldest entry leaves at the moment of its store below: nothing changes above.
module _ {c : ℕ} {e : Entry} {es : List Entry} {E E' : ℕ → List Entry} {v w : View} (lc : c < 8) (s : Sound (e ∷ es)) (h : Around c (e ∷ es) es E E') (l : StoreLands c e.address e.byte v w) where
  leaves_seen : (a : ℕ) → a < 64 → (e.address ≡ a) ⊎ (e.address ≡ a → ⊥) → seen (found a es) (w.sees c a) ≡ seen (found a (e ∷ es)) (v.sees c a)
  leaves_seen a k (inl q) =
      ap (λ (o : Option ℕ). seen o (w.sees c a)) (subst (λ (x : ℕ). found x es ≡ None) q s.2) ∙ subst (λ (x : ℕ). w.sees c x ≡ e.byte) q l.sees_there ∙ sym (ap (λ (o : Option ℕ). seen o (v.sees c a)) (found_here a e es q))
  leaves_seen a k (inr n) =
      ap₂ seen (sym (found_past a e es n)) (l.sees_elsewhere c a (lc, k, λ p. n (sym p.1)))

  leaves_owed : (a : ℕ) → a < 64 → (e.address ≡ a) ⊎ (e.address ≡ a → ⊥) → owed (found a es) (w.owes c a) ≡ owed (found a (e ∷ es)) (v.owes c a)
  leaves_owed a k (inl q) =
      ap (λ (o : Option ℕ). owed o (w.owes c a)) (subst (λ (x : ℕ). found x es ≡ None) q s.2) ∙ subst (λ (x : ℕ). w.owes c x ≡ true) q l.owes_there ∙ sym (ap (λ (o : Option ℕ). owed o (v.owes c a)) (found_here a e es q))
  leaves_owed a k (inr n) =
      ap₂ owed (sym (found_past a e es n)) (l.owes_elsewhere c a (lc, k, λ p. n (sym p.1)))

  pub oldest_leaves : Same (seen_over E v) (seen_over E' w)
  oldest_leaves =
      record {
        sees = λ d a i k. by_core h (λ j x y. j < 8 → seen (found a y) (w.sees j a) ≡ seen (found a x) (v.sees j a)) (λ i. leaves_seen a k (cases_eq e.address a)) (λ j n i. ap (seen (found a (E j))) (l.sees_elsewhere j a (i, k, λ p. n p.0))) d i;
        home = λ a k. l.home_same a k;
        owes = λ d a i k. by_core h (λ j x y. j < 8 → owed (found a y) (w.owes j a) ≡ owed (found a x) (v.owes j a)) (λ i. leaves_owed a k (cases_eq e.address a)) (λ j n i. ap (owed (found a (E j))) (l.owes_elsewhere j a (i, k, λ p. n p.0))) d i;
      }

-- An entry comes: its core owes and sees its byte, and all else is as it was.
pub entry_comes : {c a b : ℕ} {q q' : List Entry} {E E' : ℕ → List Entry} (v : View) → Around c q q' E E' → found a q' ≡ Some b → ((x : ℕ) → (x ≡ a → ⊥) → found x q' ≡ found x q) → StoreLands c a b (seen_over E v) (seen_over E' v)
entry_comes {c} {a} {b} {q} {q'} {E} {E'} v h f g =
    let at_c : found a (E' c) ≡ Some b = ap (found a) h.afterwards ∙ f in
    record {
      owes_there = ap (λ (o : Option ℕ). owed o (v.owes c a)) at_c;
      sees_there = ap (λ (o : Option ℕ). seen o (v.sees c a)) at_c;
      owes_elsewhere = λ d x i. by_core h (λ j y z. ((j ≡ c) × (x ≡ a) → ⊥) → owed (found x z) (v.owes j x) ≡ owed (found x y) (v.owes j x)) (λ n. ap (λ (o : Option ℕ). owed o (v.owes c x)) (g x (λ p. n (refl, p)))) (λ j n m. refl) d i.2;
      sees_elsewhere = λ d x i. by_core h (λ j y z. ((j ≡ c) × (x ≡ a) → ⊥) → seen (found x z) (v.sees j x) ≡ seen (found x y) (v.sees j x)) (λ n. ap (λ (o : Option ℕ). seen o (v.sees c x)) (g x (λ p. n (refl, p)))) (λ j n m. refl) d i.2;
      home_same = λ x k. refl;
    }

-- What an ended call brings, after drift.
pub brings_after : (u v w : View) (e : Ended) → Drifts u v → Brings e v w → Brings e u w
brings_after u v w (Loaded c a b) d h = (drifts_on d h.0, h.1)
brings_after u v w (Stored c a b) d h = (h.0, h.1, drifts_on d h.2, h.3, h.4)
brings_after u v w (Acquired c) d h = (drifts_on d h.0, h.1)
brings_after u v w (Released c) d h = (drifts_on d h.0, h.1)
brings_after u v w (Evicted c l) d h = drifts_on d h

-- The calls that end above as they end below: a load of an address without entry, a release with no entry left.
abbrev pub Straight : ℕ → List Entry → Ended → Type 0
Straight c q (Loaded d a b) = (d ≡ c) × (found a q ≡ None)
Straight c q (Stored d a b) = ⊥
Straight c q (Acquired d) = d ≡ c
Straight c q (Released d) = (d ≡ c) × (q ≡ [])
Straight c q (Evicted d l) = d ≡ c

pub straight_drifts : {c : ℕ} {q : List Entry} {E E' : ℕ → List Entry} {v w : View} → Around c q q E E' → Drifts v w → Drifts (seen_over E v) (seen_over E' w)
straight_drifts {E = E} {w = w} h d = drift (over_drifts E d) (same_drift (same_entries w h))

acquired_sees : (o : Option ℕ) (y : Bool) (x z : ℕ) → (y ≡ false → x ≡ z) → owed o y ≡ false → seen o x ≡ z
acquired_sees None y x z i h = i h
acquired_sees (Some b) y x z i h = cc

pub straight_brings : {c : ℕ} {q : List Entry} {E E' : ℕ → List Entry} (v w : View) (e : Ended) → Straight c q e → Around c q q E E' → Brings e v w → Brings e (seen_over E v) (seen_over E' w)
straight_brings {c} {E' = E'} v w (Loaded d a b) s h m =
    (straight_drifts h m.0, m.1 ∙ sym (ap (λ (o : Option ℕ). seen o (w.sees d a)) (ap (λ (i : ℕ). found a (E' i)) s.0 ∙ ap (found a) h.afterwards ∙ s.1)))
straight_brings v w (Stored d a b) s h m = elim s [ ]
straight_brings {E' = E'} v w (Acquired d) s h m = (straight_drifts h m.0, λ a k. acquired_sees (found a (E' d)) (w.owes d a) (w.sees d a) (w.home a) (m.1 a k))
straight_brings {E' = E'} v w (Released d) s h m =
    (straight_drifts h m.0, λ a k. ap (λ (o : Option ℕ). owed o (w.owes d a)) (ap (λ (i : ℕ). found a (E' i)) s.0 ∙ ap (found a) (h.afterwards ∙ s.1)) ∙ m.1 a k)
straight_brings v w (Evicted d l) s h m = straight_drifts h m
