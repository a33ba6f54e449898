-- Drift, address by address: the two ways in which a step of Neat changes what is seen, at home and owed.
use Rattle.std.proofs.Common.{◌≡◌, ℕ, ◌<◌, Bool, true, false, cond, ◌||◌, ◌⊎◌, sym, refl, ap, ◌∙◌, subst, ap₂, inl, inr, arith}
use Rattle.std.proofs.lemmas.Bool.{both_ways, cases_eq}
use Rattle.protocol.specs.Cells.{line_of, offset_of}
use Rattle.protocol.specs.Moment.{View, Owed, NobodyOwes, Drift, Elsewhere, StoreLands}
use Rattle.neat_rules.specs.State.{with_at, Block, merged, stored, Line, I, V, Place, Empty, GetLine, Data, Put, PutAck, Commit, Slot, Core, State}
use Rattle.neat_rules.specs.Reading.{sees_in, owes_place, owes_in, view}
use Rattle.neat_rules.proofs.Tables.{with_at_here, with_at_there, with_at_all, with_at_same}

-- Drift at one address.
pub record DriftAt (m n : View) (a : ℕ) : Type 0 where
  pub no_new_debt : (c : ℕ) → c < 8 → n.owes c a ≡ true → m.owes c a ≡ true
  pub home_stays : NobodyOwes m a → n.home a ≡ m.home a
  pub home_taken : Owed m a → NobodyOwes n a → (c : ℕ) × (c < 8) × (m.owes c a ≡ true) × (n.home a ≡ m.sees c a)
  pub debtor_sees : (c : ℕ) → c < 8 → n.owes c a ≡ true → n.sees c a ≡ m.sees c a
  pub other_sees : (c : ℕ) → c < 8 → n.owes c a ≡ false → (n.sees c a ≡ m.sees c a) ⊎ (n.sees c a ≡ n.home a)

pub drift_from : (m n : View) → ((a : ℕ) → a < 64 → DriftAt m n a) → Drift m n
drift_from m n h =
    record {
      no_new_debt = λ c a i j. (h a j).no_new_debt c i;
      home_stays = λ a j. (h a j).home_stays;
      home_taken = λ a j. (h a j).home_taken;
      debtor_sees = λ c a i j. (h a j).debtor_sees c i;
      other_sees = λ c a i j. (h a j).other_sees c i;
    }

-- One byte of one core: what is owed stays, and what is seen stays or becomes home where nothing is owed.
abbrev pub QuietAt : View → View → ℕ → ℕ → Type 0
QuietAt m n c a = (n.owes c a ≡ m.owes c a) × ((n.sees c a ≡ m.sees c a) ⊎ ((m.owes c a ≡ false) × (n.sees c a ≡ n.home a)))

-- Where home stays and every core is quiet, that is drift.
pub quiet_drift : (m n : View) (a : ℕ) → n.home a ≡ m.home a → ((c : ℕ) → QuietAt m n c a) → DriftAt m n a
quiet_drift m n a same quiet =
    record {
      no_new_debt = λ c i h. sym (quiet c).0 ∙ h;
      home_stays = λ h. same;
      home_taken = λ w no. absurd (both_ways (n.owes w.0 a) (no w.0 w.1) ((quiet w.0).0 ∙ w.2));
      debtor_sees = λ c i h. debtor c (quiet c).1 h;
      other_sees = λ c i h. other c (quiet c).1;
    }
  where
    debtor : (c : ℕ) → (n.sees c a ≡ m.sees c a) ⊎ ((m.owes c a ≡ false) × (n.sees c a ≡ n.home a)) → n.owes c a ≡ true → n.sees c a ≡ m.sees c a
    debtor c (inl e) h = e
    debtor c (inr e) h = absurd (both_ways (n.owes c a) ((quiet c).0 ∙ e.0) h)

    other : (c : ℕ) → (n.sees c a ≡ m.sees c a) ⊎ ((m.owes c a ≡ false) × (n.sees c a ≡ n.home a)) → (n.sees c a ≡ m.sees c a) ⊎ (n.sees c a ≡ n.home a)
    other c (inl e) = inl e
    other c (inr e) = inr e.1

-- A byte of core c lands: if its write bit w is set, home becomes y, which c saw and owed. Another core still owes what it owed, and
-- sees what it saw or, where it owes nothing, the new home.
pub record Lands (m n : View) (a c : ℕ) (w : Bool) (y : ℕ) : Type 0 where
  pub home : n.home a ≡ cond w y (m.home a)
  pub owed : m.owes c a ≡ w
  pub paid : n.owes c a ≡ false
  pub saw : w ≡ true → m.sees c a ≡ y
  pub sees : n.sees c a ≡ m.sees c a
  pub others_owe : (d : ℕ) → (d ≡ c → ⊥) → n.owes d a ≡ m.owes d a
  pub others_see : (d : ℕ) → (d ≡ c → ⊥) → (n.sees d a ≡ m.sees d a) ⊎ ((m.owes d a ≡ false) × (n.sees d a ≡ n.home a))

pub lands_drift : (m n : View) (a c : ℕ) (w : Bool) (y : ℕ) → c < 8 → Lands m n a c w y → DriftAt m n a
lands_drift m n a c false y lt h = quiet_drift m n a h.home each
  where
    each : (d : ℕ) → QuietAt m n d a
    each d = go (cases_eq d c)
      where
        go : (d ≡ c) ⊎ (d ≡ c → ⊥) → QuietAt m n d a
        go (inl e) = subst (λ (k : ℕ). QuietAt m n k a) (sym e) (h.paid ∙ sym h.owed, inl h.sees)
        go (inr e) = (h.others_owe d e, h.others_see d e)
lands_drift m n a c true y lt h =
    record {
      no_new_debt = λ d i o. sym (still d o).0 ∙ o;
      home_stays = λ no. absurd (both_ways (m.owes c a) (no c lt) h.owed);
      home_taken = λ w no. (c, lt, h.owed, h.home ∙ sym (h.saw refl));
      debtor_sees = λ d i o. (still d o).1;
      other_sees = λ d i o. other d (cases_eq d c);
    }
  where
    seen : (d : ℕ) → n.owes d a ≡ m.owes d a → n.owes d a ≡ true → (n.sees d a ≡ m.sees d a) ⊎ ((m.owes d a ≡ false) × (n.sees d a ≡ n.home a)) → n.sees d a ≡ m.sees d a
    seen d p o (inl e) = e
    seen d p o (inr e) = absurd (both_ways (n.owes d a) (p ∙ e.0) o)

    still : (d : ℕ) → n.owes d a ≡ true → (n.owes d a ≡ m.owes d a) × (n.sees d a ≡ m.sees d a)
    still d o = go (cases_eq d c)
      where
        go : (d ≡ c) ⊎ (d ≡ c → ⊥) → (n.owes d a ≡ m.owes d a) × (n.sees d a ≡ m.sees d a)
        go (inl e) = absurd (both_ways (n.owes d a) (subst (λ (k : ℕ). n.owes k a ≡ false) (sym e) h.paid) o)
        go (inr e) = (h.others_owe d e, seen d (h.others_owe d e) o (h.others_see d e))

    other : (d : ℕ) → (d ≡ c) ⊎ (d ≡ c → ⊥) → (n.sees d a ≡ m.sees d a) ⊎ (n.sees d a ≡ n.home a)
    other d (inl e) = inl (subst (λ (k : ℕ). n.sees k a ≡ m.sees k a) (sym e) h.sees)
    other d (inr e) = go (h.others_see d e)
      where
        go : (n.sees d a ≡ m.sees d a) ⊎ ((m.owes d a ≡ false) × (n.sees d a ≡ n.home a)) → (n.sees d a ≡ m.sees d a) ⊎ (n.sees d a ≡ n.home a)
        go (inl q) = inl q
        go (inr q) = inr q.1

-- What a slot shows of a byte.
abbrev pub slot_sees : Slot → (ℕ → ℕ) → ℕ → ℕ
slot_sees v d o = sees_in v.line v.place d o

abbrev pub slot_owes : Slot → ℕ → Bool
slot_owes v o = owes_in v.line v.place o

-- One byte of a slot under a new line of the LLC: it is seen as before, or not owed and seen as the LLC has it.
pub under_new_line : (k : Line) (p : Place) (d e : ℕ → ℕ) (o : ℕ) → (sees_in k p e o ≡ sees_in k p d o) ⊎ ((owes_in k p o ≡ false) × (sees_in k p e o ≡ e o))
under_new_line (V b) p d e o = inl refl
under_new_line I Empty d e o = inr (refl, refl)
under_new_line I GetLine d e o = inr (refl, refl)
under_new_line I (Data f) d e o = inl refl
under_new_line I (Put b) d e o = go (b.written o)
  where
    go : (w : Bool) → (cond w (b.bytes o) (e o) ≡ cond w (b.bytes o) (d o)) ⊎ ((w ≡ false) × (cond w (b.bytes o) (e o) ≡ e o))
    go true = inl refl
    go false = inr (refl, refl)
under_new_line I PutAck d e o = inr (refl, refl)
under_new_line I (Commit b) d e o = go (b.written o)
  where
    go : (w : Bool) → (cond w (b.bytes o) (e o) ≡ cond w (b.bytes o) (d o)) ⊎ ((w ≡ false) × (cond w (b.bytes o) (e o) ≡ e o))
    go true = inl refl
    go false = inr (refl, refl)

-- The state with another part of core c, and another LLC.
abbrev pub after : State → ℕ → Core → (ℕ → ℕ → ℕ) → State
after s c x g = record { cores = with_at s.cores c x; llc = g }

-- The state with the part that core c has.
pub after_same : (s : State) (c : ℕ) → after s c (s.cores c) s.llc ≡ s
after_same s c = ap (λ (f : ℕ → Core). record { cores = f; llc = s.llc }) (with_at_same s.cores c)

-- One byte of one slot, before and after a step that leaves the LLC: what is owed stays, and what is seen stays, or is not owed and
-- becomes the LLC's byte.
abbrev pub Quiet : Slot → Slot → (ℕ → ℕ) → ℕ → Type 0
Quiet v u d o = (slot_owes u o ≡ slot_owes v o) × ((slot_sees u d o ≡ slot_sees v d o) ⊎ ((slot_owes v o ≡ false) × (slot_sees u d o ≡ d o)))

pub quiet_same : (v : Slot) (d : ℕ → ℕ) (o : ℕ) → Quiet v v d o
quiet_same v d o = (refl, inl refl)

-- A core's part that is quiet in every byte drifts.
pub core_drift : (s : State) (c : ℕ) (x : Core) → ((l o : ℕ) → l < 8 → o < 8 → Quiet ((s.cores c).slot l) (x.slot l) (s.llc l) o) → Drift (view s) (view (after s c x s.llc))
core_drift s c x h = drift_from (view s) (view (after s c x s.llc)) (λ a i. quiet_drift (view s) (view (after s c x s.llc)) a refl (λ d. all d (line_of a) (offset_of a) (omega arith) (omega arith)))
  where
    all : (d l o : ℕ) → l < 8 → o < 8 → Quiet ((s.cores d).slot l) ((with_at s.cores c x d).slot l) (s.llc l) o
    all d = with_at_all (λ j (y : Core). (l o : ℕ) → l < 8 → o < 8 → Quiet ((s.cores j).slot l) (y.slot l) (s.llc l) o) s.cores c x h (λ j l o k i. quiet_same ((s.cores j).slot l) (s.llc l) o) d

-- The same for a change of one slot.
pub slot_drift : (s : State) (c l : ℕ) (x : Core) (v : Slot) → x.slot ≡ with_at (s.cores c).slot l v → ((o : ℕ) → o < 8 → Quiet ((s.cores c).slot l) v (s.llc l) o) → Drift (view s) (view (after s c x s.llc))
slot_drift s c l x v e h = core_drift s c x (λ k o j i. subst (λ (f : ℕ → Slot). Quiet ((s.cores c).slot k) (f k) (s.llc k) o) (sym e) (all k o i))
  where
    all : (k o : ℕ) → o < 8 → Quiet ((s.cores c).slot k) (with_at (s.cores c).slot l v k) (s.llc k) o
    all = with_at_all (λ k (u : Slot). (o : ℕ) → o < 8 → Quiet ((s.cores c).slot k) u (s.llc k) o) (s.cores c).slot l v h (λ k o i. quiet_same ((s.cores c).slot k) (s.llc k) o)

-- One byte of a slot u whose write-back b lands in the LLC's line d and leaves the slot v.
pub record LandsIn (u v : Slot) (b : Block) (d : ℕ → ℕ) (o : ℕ) : Type 0 where
  pub owed : slot_owes u o ≡ b.written o
  pub paid : slot_owes v o ≡ false
  pub saw : b.written o ≡ true → slot_sees u d o ≡ b.bytes o
  pub sees : slot_sees v (merged b d) o ≡ slot_sees u d o

-- A write-back of core c that lands in line l drifts.
module _ (s : State) (c : ℕ) (x : Core) (v : Slot) (b : Block) (lt : c < 8) where
  abbrev landed : ℕ → State
  landed l = after s c x (with_at s.llc l (merged b (s.llc l)))

  land_there : (a : ℕ) → x.slot ≡ with_at (s.cores c).slot (line_of a) v → LandsIn ((s.cores c).slot (line_of a)) v b (s.llc (line_of a)) (offset_of a) → DriftAt (view s) (view (landed (line_of a))) a
  land_there a e h = lands_drift (view s) (view (landed l)) a c (b.written o) (b.bytes o) lt (record { home = ap (λ (f : ℕ → ℕ). f o) line_is; owed = h.owed; paid = ap (λ (u : Slot). slot_owes u o) slot_is ∙ h.paid; saw = h.saw; sees = ap₂ (λ (u : Slot) (f : ℕ → ℕ). slot_sees u f o) slot_is line_is ∙ h.sees; others_owe = λ d ne. ap (λ (y : Core). slot_owes (y.slot l) o) (with_at_there s.cores c x d ne); others_see = λ d ne. subst (λ (y : Core). (slot_sees (y.slot l) ((landed l).llc l) o ≡ slot_sees ((s.cores d).slot l) (s.llc l) o) ⊎ ((slot_owes ((s.cores d).slot l) o ≡ false) × (slot_sees (y.slot l) ((landed l).llc l) o ≡ (landed l).llc l o))) (sym (with_at_there s.cores c x d ne)) (under_new_line ((s.cores d).slot l).line ((s.cores d).slot l).place (s.llc l) ((landed l).llc l) o) })
    where
      l : ℕ
      l = line_of a

      o : ℕ
      o = offset_of a

      line_is : (landed l).llc l ≡ merged b (s.llc l)
      line_is = with_at_here s.llc l (merged b (s.llc l))

      slot_is : ((landed l).cores c).slot l ≡ v
      slot_is = ap (λ (y : Core). y.slot l) (with_at_here s.cores c x) ∙ ap (λ (f : ℕ → Slot). f l) e ∙ with_at_here (s.cores c).slot l v

  land_elsewhere : (l a : ℕ) → x.slot ≡ with_at (s.cores c).slot l v → (line_of a ≡ l → ⊥) → DriftAt (view s) (view (landed l)) a
  land_elsewhere l a e ne = quiet_drift (view s) (view (landed l)) a (ap (λ (f : ℕ → ℕ). f (offset_of a)) line_is) (λ d. (ap (λ (u : Slot). slot_owes u (offset_of a)) (slot_is d), inl (ap₂ (λ (u : Slot) (f : ℕ → ℕ). slot_sees u f (offset_of a)) (slot_is d) line_is)))
    where
      line_is : (landed l).llc (line_of a) ≡ s.llc (line_of a)
      line_is = with_at_there s.llc l (merged b (s.llc l)) (line_of a) ne

      slot_is : (d : ℕ) → ((landed l).cores d).slot (line_of a) ≡ (s.cores d).slot (line_of a)
      slot_is = with_at_all (λ j (y : Core). y.slot (line_of a) ≡ (s.cores j).slot (line_of a)) s.cores c x (ap (λ (f : ℕ → Slot). f (line_of a)) e ∙ with_at_there (s.cores c).slot l v (line_of a) ne) (λ j. refl)

  pub land_drift : (l : ℕ) → x.slot ≡ with_at (s.cores c).slot l v → ((o : ℕ) → o < 8 → LandsIn ((s.cores c).slot l) v b (s.llc l) o) → Drift (view s) (view (landed l))
  land_drift l e h = drift_from (view s) (view (landed l)) (λ a i. go a (cases_eq (line_of a) l))
    where
      go : (a : ℕ) → (line_of a ≡ l) ⊎ (line_of a ≡ l → ⊥) → DriftAt (view s) (view (landed l)) a
      go a (inl q) = subst (λ (k : ℕ). x.slot ≡ with_at (s.cores c).slot k v → ((o : ℕ) → o < 8 → LandsIn ((s.cores c).slot k) v b (s.llc k) o) → DriftAt (view s) (view (landed k)) a) q (λ f g. land_there a f (g (offset_of a) (omega arith))) e h
      go a (inr q) = land_elsewhere l a e q

-- A store of y to the address a in a V line b, beside the place p: x before it, z after it.
module _ (a y : ℕ) (b : Block) (p : Place) (x z : Core) (was : x.slot (line_of a) ≡ record { line = V b; place = p }) (is : z.slot ≡ with_at x.slot (line_of a) (record { line = V (stored b (offset_of a) y); place = p })) where
  abbrev new : Slot
  new = record { line = V (stored b (offset_of a) y); place = p }

  stored_here : z.slot (line_of a) ≡ new
  stored_here = ap (λ (f : ℕ → Slot). f (line_of a)) is ∙ with_at_here x.slot (line_of a) new

  -- Another address of the core is as it was.
  stored_elsewhere : (d : ℕ → ℕ) (e : ℕ) → (e ≡ a → ⊥) → (slot_owes (z.slot (line_of e)) (offset_of e) ≡ slot_owes (x.slot (line_of e)) (offset_of e)) × (slot_sees (z.slot (line_of e)) d (offset_of e) ≡ slot_sees (x.slot (line_of e)) d (offset_of e))
  stored_elsewhere d e ne = go (cases_eq (line_of e) (line_of a))
    where
      go : (line_of e ≡ line_of a) ⊎ (line_of e ≡ line_of a → ⊥) → (slot_owes (z.slot (line_of e)) (offset_of e) ≡ slot_owes (x.slot (line_of e)) (offset_of e)) × (slot_sees (z.slot (line_of e)) d (offset_of e) ≡ slot_sees (x.slot (line_of e)) d (offset_of e))
      go (inl q) =
          let after_is : z.slot (line_of e) ≡ new = ap z.slot q ∙ stored_here in
          let before_is : x.slot (line_of e) ≡ record { line = V b; place = p } = ap x.slot q ∙ was in
          let other : offset_of e ≡ offset_of a → ⊥ = λ r. ne (omega arith) in (
            ap (λ (u : Slot). slot_owes u (offset_of e)) after_is ∙ ap (λ (w : Bool). w || owes_place p (offset_of e)) (with_at_there b.written (offset_of a) true (offset_of e) other) ∙ sym (ap (λ (u : Slot). slot_owes u (offset_of e)) before_is),
            ap (λ (u : Slot). slot_sees u d (offset_of e)) after_is ∙ with_at_there b.bytes (offset_of a) y (offset_of e) other ∙ sym (ap (λ (u : Slot). slot_sees u d (offset_of e)) before_is),
          )
      go (inr q) =
          let same : z.slot (line_of e) ≡ x.slot (line_of e) = ap (λ (f : ℕ → Slot). f (line_of e)) is ∙ with_at_there x.slot (line_of a) new (line_of e) q in
          (ap (λ (u : Slot). slot_owes u (offset_of e)) same, ap (λ (u : Slot). slot_sees u d (offset_of e)) same)

  pub store_lands : (s : State) (c : ℕ) → StoreLands c a y (view (after s c x s.llc)) (view (after s c z s.llc))
  store_lands s c =
      record {
        owes_there = ap (λ (u : Slot). slot_owes u (offset_of a)) there ∙ ap (λ (w : Bool). w || owes_place p (offset_of a)) (with_at_here b.written (offset_of a) true);
        sees_there = ap (λ (u : Slot). slot_sees u (s.llc (line_of a)) (offset_of a)) there ∙ with_at_here b.bytes (offset_of a) y;
        owes_elsewhere = λ d e h. (rest d e h).0;
        sees_elsewhere = λ d e h. (rest d e h).1;
        home_same = λ e i. refl;
      }
    where
      m : View
      m = view (after s c x s.llc)

      n : View
      n = view (after s c z s.llc)

      there : ((after s c z s.llc).cores c).slot (line_of a) ≡ new
      there = ap (λ (w : Core). w.slot (line_of a)) (with_at_here s.cores c z) ∙ stored_here

      rest : (d e : ℕ) → Elsewhere c a d e → (n.owes d e ≡ m.owes d e) × (n.sees d e ≡ m.sees d e)
      rest d e h = go (cases_eq d c)
        where
          go : (d ≡ c) ⊎ (d ≡ c → ⊥) → (n.owes d e ≡ m.owes d e) × (n.sees d e ≡ m.sees d e)
          go (inl q) =
              let zc : with_at s.cores c z d ≡ z = ap (with_at s.cores c z) q ∙ with_at_here s.cores c z in
              let xc : with_at s.cores c x d ≡ x = ap (with_at s.cores c x) q ∙ with_at_here s.cores c x in
              let r = stored_elsewhere (s.llc (line_of e)) e (λ w. h.2 (q, w)) in (
                ap (λ (w : Core). slot_owes (w.slot (line_of e)) (offset_of e)) zc ∙ r.0 ∙ sym (ap (λ (w : Core). slot_owes (w.slot (line_of e)) (offset_of e)) xc),
                ap (λ (w : Core). slot_sees (w.slot (line_of e)) (s.llc (line_of e)) (offset_of e)) zc ∙ r.1 ∙ sym (ap (λ (w : Core). slot_sees (w.slot (line_of e)) (s.llc (line_of e)) (offset_of e)) xc),
              )
          go (inr q) =
              let same : with_at s.cores c z d ≡ with_at s.cores c x d = with_at_there s.cores c z d q ∙ sym (with_at_there s.cores c x d q) in (
                ap (λ (w : Core). slot_owes (w.slot (line_of e)) (offset_of e)) same,
                ap (λ (w : Core). slot_sees (w.slot (line_of e)) (s.llc (line_of e)) (offset_of e)) same,
              )
