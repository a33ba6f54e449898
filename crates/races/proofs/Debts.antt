-- What holds at one address while no race has ended: who may owe there, who sees the newest store's byte, and when home has it.
use Rattle.std.proofs.Common.{◌≡◌, ℕ, ◌<◌, Bool, true, false, not, ◌&&◌, eqb, ◌⊎◌, Some, None, Option, sym, refl, ap, ◌∙◌, subst, inl, inr, ⊎_elim}
use Rattle.std.proofs.lemmas.Bool.{true≢false, false≢true, both_ways, cases_Bool, cases_eq, eqb-true, and_cases, not-false}
use Rattle.protocol.specs.Moment.{View, Drift, Drifts, stay, drift, StoreLands, NobodyOwes}
use Rattle.races.specs.Races.{Written}

-- No store has ended: nobody owes, and everybody has 00.
pub record Untouched (v : View) (a : ℕ) : Type 0 where
  pub none_owes : (c : ℕ) → c < 8 → v.owes c a ≡ false
  pub at_home : v.home a ≡ 0
  pub all_see : (c : ℕ) → c < 8 → v.sees c a ≡ 0

-- The newest store is w; rel: its core has released since; handed c: that release was followed by an acquire of c.
pub record NewestIs (v : View) (a : ℕ) (w : Written) (rel : Bool) (handed : ℕ → Bool) : Type 0 where
  pub core : w.core < 8
  pub only : (c : ℕ) → c < 8 → v.owes c a ≡ true → c ≡ w.core
  pub sees : v.sees w.core a ≡ w.byte
  pub at_home : v.owes w.core a ≡ false → v.home a ≡ w.byte
  pub paid : rel ≡ true → v.owes w.core a ≡ false
  pub see_too : (c : ℕ) → c < 8 → handed c ≡ true → v.sees c a ≡ w.byte
  pub after : (c : ℕ) → handed c ≡ true → rel ≡ true

-- A debt that was not there before a drift is not there after it.
no_debt : {m n : View} (c a : ℕ) → Drift m n → c < 8 → a < 64 → m.owes c a ≡ false → n.owes c a ≡ false
no_debt {m} {n} c a d k l h = ⊎_elim (λ (e : n.owes c a ≡ true). absurd (both_ways (m.owes c a) h (d.no_new_debt c a k l e))) (λ (e : n.owes c a ≡ false). e) (cases_Bool (n.owes c a))

pub untouched_drift : {m n : View} (a : ℕ) → a < 64 → Drift m n → Untouched m a → Untouched n a
untouched_drift {m} {n} a l d u =
    record { none_owes = none; at_home = home; all_see = λ c k. ⊎_elim (λ (e : n.sees c a ≡ m.sees c a). e ∙ u.all_see c k) (λ (e : n.sees c a ≡ n.home a). e ∙ home) (d.other_sees c a k l (none c k)) }
  where
    none : (c : ℕ) → c < 8 → n.owes c a ≡ false
    none c k = no_debt c a d k l (u.none_owes c k)

    home : n.home a ≡ 0
    home = d.home_stays a l u.none_owes ∙ u.at_home

-- Nobody but the newest store's core owes, so where that one owes nothing, nobody does.
nobody : (v : View) (a : ℕ) (w : Written) → ((c : ℕ) → c < 8 → v.owes c a ≡ true → c ≡ w.core) → v.owes w.core a ≡ false → NobodyOwes v a
nobody v a w only h c k =
    ⊎_elim (λ (e : v.owes c a ≡ true). absurd (both_ways (v.owes w.core a) h (subst (λ (x : ℕ). v.owes x a ≡ true) (only c k e) e))) (λ (e : v.owes c a ≡ false). e) (cases_Bool (v.owes c a))

pub newest_drift : {m n : View} (a : ℕ) (w : Written) (rel : Bool) (handed : ℕ → Bool) → a < 64 → Drift m n → NewestIs m a w rel handed → NewestIs n a w rel handed
newest_drift {m} {n} a w rel handed l d h =
    record {
      core = h.core;
      only = only;
      sees = by_debt w.core h.core h.sees home;
      at_home = home;
      paid = paid;
      see_too = λ c k e. by_debt c k (h.see_too c k e) (λ _. home (paid (h.after c e)));
      after = h.after;
    }
  where
    only : (c : ℕ) → c < 8 → n.owes c a ≡ true → c ≡ w.core
    only c k e = h.only c k (d.no_new_debt c a k l e)

    home_from : n.owes w.core a ≡ false → (t : Bool) → m.owes w.core a ≡ t → n.home a ≡ w.byte
    home_from e true q =
        let x = d.home_taken a l (w.core, h.core, q) (nobody n a w only e) in
        x.3 ∙ (ap (λ (z : ℕ). m.sees z a) (h.only x.0 x.1 x.2) ∙ h.sees)
    home_from e false q = d.home_stays a l (nobody m a w h.only q) ∙ h.at_home q

    home : n.owes w.core a ≡ false → n.home a ≡ w.byte
    home e = home_from e (m.owes w.core a) refl

    paid : rel ≡ true → n.owes w.core a ≡ false
    paid e = no_debt w.core a d h.core l (h.paid e)

    -- a core that saw the byte sees it still, if home has it wherever this core owes nothing
    by_debt : (c : ℕ) → c < 8 → m.sees c a ≡ w.byte → (n.owes c a ≡ false → n.home a ≡ w.byte) → n.sees c a ≡ w.byte
    by_debt c k s g =
        ⊎_elim (λ (e : n.owes c a ≡ true). d.debtor_sees c a k l e ∙ s)
        (λ (e : n.owes c a ≡ false). ⊎_elim (λ (x : n.sees c a ≡ m.sees c a). x ∙ s) (λ (x : n.sees c a ≡ n.home a). x ∙ g e) (d.other_sees c a k l e))
        (cases_Bool (n.owes c a))

-- What holds at an address, by the newest store there.
abbrev pub Right : View → ℕ → Option Written → (Written → Bool) → (Written → ℕ → Bool) → Type 0
Right v a None rel handed = Untouched v a
Right v a (Some w) rel handed = NewestIs v a w (rel w) (handed w)

pub right_drift : {m n : View} (a : ℕ) (o : Option Written) (rel : Written → Bool) (handed : Written → ℕ → Bool) → a < 64 → Drift m n → Right m a o rel handed → Right n a o rel handed
right_drift a None rel handed l d h = untouched_drift a l d h
right_drift a (Some w) rel handed l d h = newest_drift a w (rel w) (handed w) l d h

pub right_drifts : {m n : View} (a : ℕ) (o : Option Written) (rel : Written → Bool) (handed : Written → ℕ → Bool) → a < 64 → Drifts m n → Right m a o rel handed → Right n a o rel handed
right_drifts a o rel handed l stay h = h
right_drifts a o rel handed l (drift ds d) h = right_drift a o rel handed l d (right_drifts a o rel handed l ds h)

-- A core that does not race with the newest store is its core, or has been handed over to.
pub no_race_cases : (c : ℕ) (w : Written) (handed : Bool) → (not (eqb w.core c) && not handed) ≡ false → (w.core ≡ c) ⊎ (handed ≡ true)
no_race_cases c w handed h =
    ⊎_elim (λ (e : not (eqb w.core c) ≡ false). inl (eqb-true w.core c (not-false (eqb w.core c) e))) (λ (e : not handed ≡ false). inr (not-false handed e)) (and_cases (not (eqb w.core c)) (not handed) h)

-- A store at its own address: only its core may owe, since the newest store before it was its own or was released.
store_only : (c a b d : ℕ) {x y : View} (o : Option Written) (rel : Written → Bool) (handed : Written → ℕ → Bool) → Right x a o rel handed → c < 8 → a < 64 → d < 8 → StoreLands c a b x y → ((w : Written) → o ≡ Some w → (not (eqb w.core c) && not (handed w c)) ≡ false) → y.owes d a ≡ true → d ≡ c
store_only c a b d {x} {y} o rel handed h k l n s free e = ⊎_elim (λ (q : d ≡ c). q) (λ (q : d ≡ c → ⊥). absurd (other o h free q (sym (s.owes_elsewhere d a (n, l, λ z. q z.0)) ∙ e))) (cases_eq d c)
  where
    other : (o : Option Written) → Right x a o rel handed → ((w : Written) → o ≡ Some w → (not (eqb w.core c) && not (handed w c)) ≡ false) → (d ≡ c → ⊥) → x.owes d a ≡ true → ⊥
    other None h free q e = both_ways (x.owes d a) (h.none_owes d n) e
    other (Some w) h free q e =
        ⊎_elim (λ (z : w.core ≡ c). q (h.only d n e ∙ z))
        (λ (z : handed w c ≡ true). both_ways (x.owes w.core a) (h.paid (h.after c z)) (subst (λ (u : ℕ). x.owes u a ≡ true) (h.only d n e) e))
        (no_race_cases c w (handed w c) (free w refl))

pub store_here : (c a b : ℕ) {x y : View} (o : Option Written) (rel : Written → Bool) (handed : Written → ℕ → Bool) → Right x a o rel handed → c < 8 → a < 64 → StoreLands c a b x y → ((w : Written) → o ≡ Some w → (not (eqb w.core c) && not (handed w c)) ≡ false) → NewestIs y a (record { core = c; byte = b }) false (λ _. false)
store_here c a b o rel handed h k l s free =
    record {
      core = k;
      only = λ d n e. store_only c a b d o rel handed h k l n s free e;
      sees = s.sees_there;
      at_home = λ e. absurd (true≢false (sym s.owes_there ∙ e));
      paid = λ e. absurd (false≢true e);
      see_too = λ d n e. absurd (false≢true e);
      after = λ d e. e;
    }

-- A store elsewhere changes nothing here.
pub store_there : (c a b e : ℕ) {x y : View} (o : Option Written) (rel : Written → Bool) (handed : Written → ℕ → Bool) → e < 64 → (e ≡ a → ⊥) → StoreLands c a b x y → Right x e o rel handed → Right y e o rel handed
store_there c a b e {x} {y} None rel handed l q s h =
    record {
      none_owes = λ d n. s.owes_elsewhere d e (n, l, λ z. q z.1) ∙ h.none_owes d n;
      at_home = s.home_same e l ∙ h.at_home;
      all_see = λ d n. s.sees_elsewhere d e (n, l, λ z. q z.1) ∙ h.all_see d n;
    }
store_there c a b e {x} {y} (Some w) rel handed l q s h =
    let same = s.owes_elsewhere w.core e (h.core, l, λ z. q z.1) in
    record {
      core = h.core;
      only = λ d n f. h.only d n (sym (s.owes_elsewhere d e (n, l, λ z. q z.1)) ∙ f);
      sees = s.sees_elsewhere w.core e (h.core, l, λ z. q z.1) ∙ h.sees;
      at_home = λ f. s.home_same e l ∙ h.at_home (sym same ∙ f);
      paid = λ f. same ∙ h.paid f;
      see_too = λ d n f. s.sees_elsewhere d e (n, l, λ z. q z.1) ∙ h.see_too d n f;
      after = h.after;
    }
