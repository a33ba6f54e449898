-- What each call and each moved message does to one slot: which messages are allowed there, what of it is owed and seen, and what it adds to due.
use Rattle.std.proofs.Common.{◌≡◌, ℕ, ◌+◌, ◌<◌, ◌≤◌, Bool, true, false, cond, ◌||◌, ◌⊎◌, sym, refl, ap, ◌∙◌, inl, inr, arith}
use Rattle.neat_rules.specs.State.{Block, dirty, clean, stored, merged, Line, I, V, Place, Empty, GetLine, Data, Put, PutAck, Commit, Slot}
use Rattle.neat_rules.specs.Rules.{asked, emptied, released, commits_of, outstanding}
use Rattle.neat_rules.specs.Reading.{sees_beside, sees_in, owes_place, owes_in, place_due, held_behind}
use Rattle.neat_rules.proofs.Tables.{none_below, with_at_all}
use Rattle.neat_rules.proofs.Invariant.{Stage, resting, fetching, closed, Bytewise, SlotOk, Invalid, Fetching, NotFetching, commit_in}
use Rattle.neat_rules.proofs.Drift.{Quiet, LandsIn}

or_false : (w : Bool) → (w || false) ≡ w
or_false true = refl
or_false false = refl

-- GetLine goes into an empty place, or is held back behind a Put or PutAck.
pub asked_ok : (p : Place) → SlotOk resting I p → SlotOk fetching I (asked p)
asked_ok Empty h = record { allowed = tt; line_bytes = tt; place_bytes = tt }
asked_ok GetLine h = absurd h.allowed
asked_ok (Data d) h = absurd h.allowed
asked_ok (Put b) h = record { allowed = tt; line_bytes = tt; place_bytes = h.place_bytes }
asked_ok PutAck h = record { allowed = tt; line_bytes = tt; place_bytes = tt }
asked_ok (Commit b) h = absurd h.allowed

pub asked_due : (p : Place) → SlotOk resting I p → place_due (asked p) + held_behind (asked p) ≡ place_due p + 2
asked_due Empty h = refl
asked_due GetLine h = absurd h.allowed
asked_due (Data d) h = absurd h.allowed
asked_due (Put b) h = refl
asked_due PutAck h = refl
asked_due (Commit b) h = absurd h.allowed

pub asked_quiet : (k : Line) (p : Place) (d : ℕ → ℕ) (o : ℕ) → Quiet (record { line = k; place = p }) (record { line = k; place = asked p }) d o
asked_quiet (V b) Empty d o = (refl, inl refl)
asked_quiet I Empty d o = (refl, inl refl)
asked_quiet k GetLine d o = (refl, inl refl)
asked_quiet k (Data e) d o = (refl, inl refl)
asked_quiet k (Put b) d o = (refl, inl refl)
asked_quiet k PutAck d o = (refl, inl refl)
asked_quiet k (Commit b) d o = (refl, inl refl)

-- A line that is made I, and sent by `send` if it was dirty.
module _ (send : Block → Place) (owes_sent : (b : Block) (o : ℕ) → owes_place (send b) o ≡ b.written o) (sees_sent : (b : Block) (d : ℕ → ℕ) (o : ℕ) → sees_beside (send b) d o ≡ merged b d o) where
  sent_sees : (b : Block) (d : ℕ → ℕ) (o : ℕ) (w : Bool) → b.written o ≡ w → (sees_beside (send b) d o ≡ b.bytes o) ⊎ (((b.written o || false) ≡ false) × (sees_beside (send b) d o ≡ d o))
  sent_sees b d o true e = inl (sees_sent b d o ∙ ap (λ (w : Bool). cond w (b.bytes o) (d o)) e)
  sent_sees b d o false e = inr (or_false (b.written o) ∙ e, sees_sent b d o ∙ ap (λ (w : Bool). cond w (b.bytes o) (d o)) e)

  emptied_quiet_V : (b : Block) (d : ℕ → ℕ) (o : ℕ) → o < 8 → (t : Bool) → dirty b ≡ t → Quiet (record { line = V b; place = Empty }) (record { line = I; place = cond t (send b) Empty }) d o
  emptied_quiet_V b d o i true e = (owes_sent b o ∙ sym (or_false (b.written o)), sent_sees b d o (b.written o) refl)
  emptied_quiet_V b d o i false e =
      let clean_there : (b.written o || false) ≡ false = or_false (b.written o) ∙ none_below 8 b.written e o i in
      (sym clean_there, inr (clean_there, refl))

  pub emptied_quiet : (k : Line) (p : Place) → SlotOk resting k p → (d : ℕ → ℕ) (o : ℕ) → o < 8 → Quiet (record { line = k; place = p }) (emptied send k p) d o
  emptied_quiet I p h d o i = (refl, inl refl)
  emptied_quiet (V b) Empty h d o i = emptied_quiet_V b d o i (dirty b) refl
  emptied_quiet (V b) GetLine h d o i = absurd h.allowed
  emptied_quiet (V b) (Data e) h d o i = absurd h.allowed
  emptied_quiet (V b) (Put e) h d o i = absurd h.allowed
  emptied_quiet (V b) PutAck h d o i = absurd h.allowed
  emptied_quiet (V b) (Commit e) h d o i = absurd h.allowed

pub evicted_ok : (k : Line) (p : Place) → SlotOk resting k p → SlotOk resting (emptied Put k p).line (emptied Put k p).place
evicted_ok I p h = h
evicted_ok (V b) Empty h = go (dirty b)
  where
    go : (t : Bool) → SlotOk resting I (cond t (Put b) Empty)
    go true = record { allowed = tt; line_bytes = tt; place_bytes = h.line_bytes }
    go false = record { allowed = tt; line_bytes = tt; place_bytes = tt }
evicted_ok (V b) GetLine h = absurd h.allowed
evicted_ok (V b) (Data e) h = absurd h.allowed
evicted_ok (V b) (Put e) h = absurd h.allowed
evicted_ok (V b) PutAck h = absurd h.allowed
evicted_ok (V b) (Commit e) h = absurd h.allowed

-- A line at rest that is not valid has no GetLine, Data or Commit.
invalid_closed : (p : Place) → SlotOk resting I p → SlotOk closed I p
invalid_closed Empty h = record { allowed = tt; line_bytes = tt; place_bytes = tt }
invalid_closed GetLine h = absurd h.allowed
invalid_closed (Data d) h = absurd h.allowed
invalid_closed (Put b) h = record { allowed = tt; line_bytes = tt; place_bytes = h.place_bytes }
invalid_closed PutAck h = record { allowed = tt; line_bytes = tt; place_bytes = tt }
invalid_closed (Commit b) h = absurd h.allowed

invalid_commits : (p : Place) → SlotOk resting I p → commit_in p ≡ 0
invalid_commits Empty h = refl
invalid_commits GetLine h = refl
invalid_commits (Data d) h = refl
invalid_commits (Put b) h = refl
invalid_commits PutAck h = refl
invalid_commits (Commit b) h = absurd h.allowed

-- What an acquire or release makes of one slot u that was (k, p).
pub record Closes (k : Line) (p : Place) (u : Slot) : Type 0 where
  pub ok : SlotOk closed u.line u.place
  pub commits : commit_in u.place ≡ commits_of k
  pub due : place_due u.place ≤ place_due p + 2
  pub quiet : (d : ℕ → ℕ) (o : ℕ) → o < 8 → Quiet (record { line = k; place = p }) u d o

stays_invalid : (p : Place) → SlotOk resting I p → Closes I p (record { line = I; place = p })
stays_invalid p h = record { ok = invalid_closed p h; commits = invalid_commits p h; due = omega arith; quiet = λ d o i. (refl, inl refl) }

acquired_V : (b : Block) → Bytewise b.bytes → (t : Bool) → dirty b ≡ t → Closes (V b) Empty (record { line = I; place = cond t (Commit b) Empty })
acquired_V b h true e =
    record {
      ok = record { allowed = tt; line_bytes = tt; place_bytes = h };
      commits = ap (λ (t : Bool). cond t 1 0) (sym e);
      due = omega arith;
      quiet = λ d o i. emptied_quiet_V Commit (λ b o. refl) (λ b d o. refl) b d o i true e;
    }
acquired_V b h false e =
    record {
      ok = record { allowed = tt; line_bytes = tt; place_bytes = tt };
      commits = ap (λ (t : Bool). cond t 1 0) (sym e);
      due = omega arith;
      quiet = λ d o i. emptied_quiet_V Commit (λ b o. refl) (λ b d o. refl) b d o i false e;
    }

pub acquired_closes : (k : Line) (p : Place) → SlotOk resting k p → Closes k p (emptied Commit k p)
acquired_closes I p h = stays_invalid p h
acquired_closes (V b) Empty h = acquired_V b h.line_bytes (dirty b) refl
acquired_closes (V b) GetLine h = absurd h.allowed
acquired_closes (V b) (Data e) h = absurd h.allowed
acquired_closes (V b) (Put e) h = absurd h.allowed
acquired_closes (V b) PutAck h = absurd h.allowed
acquired_closes (V b) (Commit e) h = absurd h.allowed

pub acquired_invalid : (k : Line) (p : Place) → Invalid (emptied Commit k p).line
acquired_invalid I p = tt
acquired_invalid (V b) p = tt

released_V : (b : Block) → Bytewise b.bytes → (t : Bool) → dirty b ≡ t → Closes (V b) Empty (cond t (record { line = V (clean b.bytes); place = Commit b }) (record { line = V b; place = Empty }))
released_V b h true e =
    record {
      ok = record { allowed = (λ o i. refl, λ o. refl); line_bytes = h; place_bytes = h };
      commits = ap (λ (t : Bool). cond t 1 0) (sym e);
      due = omega arith;
      quiet = λ d o i. (sym (or_false (b.written o)), inl refl);
    }
released_V b h false e =
    record {
      ok = record { allowed = none_below 8 b.written e; line_bytes = h; place_bytes = tt };
      commits = ap (λ (t : Bool). cond t 1 0) (sym e);
      due = omega arith;
      quiet = λ d o i. (refl, inl refl);
    }

pub released_closes : (k : Line) (p : Place) → SlotOk resting k p → Closes k p (released k p)
released_closes I p h = stays_invalid p h
released_closes (V b) Empty h = released_V b h.line_bytes (dirty b) refl
released_closes (V b) GetLine h = absurd h.allowed
released_closes (V b) (Data e) h = absurd h.allowed
released_closes (V b) (Put e) h = absurd h.allowed
released_closes (V b) PutAck h = absurd h.allowed
released_closes (V b) (Commit e) h = absurd h.allowed

-- A line gives at most one Commit.
pub commits_one : (k : Line) → commits_of k ≤ 1
commits_one I = omega arith
commits_one (V b) = go (dirty b)
  where
    go : (t : Bool) → cond t 1 0 ≤ 1
    go true = omega arith
    go false = omega arith

-- A stored byte is a byte.
pub stored_bytes : (b : Block) (o y : ℕ) → Bytewise b.bytes → y < 256 → Bytewise (stored b o y).bytes
stored_bytes b o y h i = with_at_all (λ j (z : ℕ). z < 256) b.bytes o y i h

-- Merged bytes are bytes.
pub merged_bytes : (b : Block) (d : ℕ → ℕ) → Bytewise b.bytes → Bytewise d → Bytewise (merged b d)
merged_bytes b d h i o = go (b.written o)
  where
    go : (t : Bool) → cond t (b.bytes o) (d o) < 256
    go true = h o
    go false = i o

-- A store into a V line at rest keeps it so.
pub stored_ok : (b : Block) (p : Place) (o y : ℕ) → SlotOk resting (V b) p → y < 256 → SlotOk resting (V (stored b o y)) p
stored_ok b Empty o y h i = record { allowed = tt; line_bytes = stored_bytes b o y h.line_bytes i; place_bytes = tt }
stored_ok b GetLine o y h i = absurd h.allowed
stored_ok b (Data e) o y h i = absurd h.allowed
stored_ok b (Put e) o y h i = absurd h.allowed
stored_ok b PutAck o y h i = absurd h.allowed
stored_ok b (Commit e) o y h i = absurd h.allowed

-- An evict sends at most one message.
pub evicted_due : (k : Line) (p : Place) → place_due (emptied Put k p).place ≤ place_due p + 2
evicted_due I p = omega arith
evicted_due (V b) p = go (dirty b)
  where
    go : (t : Bool) → place_due (cond t (Put b) p) ≤ place_due p + 2
    go true = omega arith
    go false = omega arith

-- A moved GetLine becomes Data.
pub getline_ok : (g : Stage) (k : Line) (d : ℕ → ℕ) → SlotOk g k GetLine → Bytewise d → SlotOk g k (Data d)
getline_ok g I d h i = record { allowed = h.allowed; line_bytes = tt; place_bytes = i }
getline_ok g (V b) d h i = absurd h.allowed

pub getline_quiet : (k : Line) (d : ℕ → ℕ) (o : ℕ) → Quiet (record { line = k; place = GetLine }) (record { line = k; place = Data d }) d o
getline_quiet I d o = (refl, inl refl)
getline_quiet (V b) d o = (refl, inl refl)

-- A moved Data makes the line V, which was fetched.
pub data_fetching : (g : Stage) (k : Line) (d : ℕ → ℕ) → SlotOk g k (Data d) → Fetching g
data_fetching g I d h = h.allowed
data_fetching g (V b) d h = absurd h.allowed

pub data_quiet : (g : Stage) (k : Line) (e d : ℕ → ℕ) (o : ℕ) → SlotOk g k (Data e) → Quiet (record { line = k; place = Data e }) (record { line = V (clean e); place = Empty }) d o
data_quiet g I e d o h = (refl, inl refl)
data_quiet g (V b) e d o h = absurd h.allowed

-- A moved Put becomes PutAck, and its bytes land.
pub put_ok : (g : Stage) (k : Line) (b : Block) → SlotOk g k (Put b) → SlotOk g k PutAck
put_ok g I b h = record { allowed = tt; line_bytes = tt; place_bytes = tt }
put_ok g (V e) b h = absurd h.allowed

lands_beside : (b : Block) (d : ℕ → ℕ) (o : ℕ) → b.written o ≡ true → merged b d o ≡ b.bytes o
lands_beside b d o e = ap (λ (w : Bool). cond w (b.bytes o) (d o)) e

pub put_lands : (g : Stage) (k : Line) (b : Block) → SlotOk g k (Put b) → (d : ℕ → ℕ) (o : ℕ) → LandsIn (record { line = k; place = Put b }) (record { line = k; place = PutAck }) b d o
put_lands g I b h d o = record { owed = refl; paid = refl; saw = lands_beside b d o; sees = refl }
put_lands g (V e) b h d o = absurd h.allowed

-- A moved PutAck leaves the place empty, or GetLine follows for a line that is fetched.
pub putack_empty : (g : Stage) (k : Line) → SlotOk g k PutAck → NotFetching g → SlotOk g k Empty
putack_empty g I h n = record { allowed = n; line_bytes = tt; place_bytes = tt }
putack_empty g (V b) h n = absurd h.allowed

pub putack_getline : (g : Stage) (k : Line) → SlotOk g k PutAck → Fetching g → SlotOk g k GetLine
putack_getline g I h n = record { allowed = n; line_bytes = tt; place_bytes = tt }
putack_getline g (V b) h n = absurd h.allowed

pub putack_empty_quiet : (k : Line) (d : ℕ → ℕ) (o : ℕ) → Quiet (record { line = k; place = PutAck }) (record { line = k; place = Empty }) d o
putack_empty_quiet I d o = (refl, inl refl)
putack_empty_quiet (V b) d o = (refl, inl refl)

pub putack_getline_quiet : (k : Line) (d : ℕ → ℕ) (o : ℕ) → Quiet (record { line = k; place = PutAck }) (record { line = k; place = GetLine }) d o
putack_getline_quiet I d o = (refl, inl refl)
putack_getline_quiet (V b) d o = (refl, inl refl)

-- A moved Commit leaves the place empty, and its bytes land.
pub commit_ok : (k : Line) (b : Block) → SlotOk closed k (Commit b) → SlotOk closed k Empty
commit_ok I b h = record { allowed = tt; line_bytes = tt; place_bytes = tt }
commit_ok (V e) b h = record { allowed = h.allowed.0; line_bytes = h.line_bytes; place_bytes = tt }

pub commit_lands : (k : Line) (b : Block) → SlotOk closed k (Commit b) → (d : ℕ → ℕ) (o : ℕ) → o < 8 → LandsIn (record { line = k; place = Commit b }) (record { line = k; place = Empty }) b d o
commit_lands I b h d o i = record { owed = refl; paid = refl; saw = lands_beside b d o; sees = refl }
commit_lands (V e) b h d o i =
    let none : e.written o ≡ false = h.allowed.0 o i in
    record {
      owed = ap (λ (w : Bool). w || b.written o) none;
      paid = ap (λ (w : Bool). w || false) none;
      saw = λ w. h.allowed.1 o;
      sees = refl;
    }

-- A slot of an acquire or release with no message left: it is at rest, owes nothing, and an I line sees the LLC.
pub closed_empty : (k : Line) (p : Place) → SlotOk closed k p → commit_in p ≡ 0 → outstanding p ≡ 0 → p ≡ Empty
closed_empty k Empty h n q = refl
closed_empty I GetLine h n q = absurd h.allowed
closed_empty I (Data d) h n q = absurd h.allowed
closed_empty (V b) GetLine h n q = absurd h.allowed
closed_empty (V b) (Data d) h n q = absurd h.allowed
closed_empty k (Put b) h n q = absurd (omega arith)
closed_empty k PutAck h n q = absurd (omega arith)
closed_empty k (Commit b) h n q = absurd (omega arith)

pub closed_rests : (k : Line) → SlotOk closed k Empty → SlotOk resting k Empty
closed_rests I h = record { allowed = tt; line_bytes = tt; place_bytes = tt }
closed_rests (V b) h = record { allowed = tt; line_bytes = h.line_bytes; place_bytes = tt }

pub closed_owes : (k : Line) (o : ℕ) → SlotOk closed k Empty → o < 8 → owes_in k Empty o ≡ false
closed_owes I o h i = refl
closed_owes (V b) o h i = or_false (b.written o) ∙ h.allowed o i

pub invalid_sees : (k : Line) (d : ℕ → ℕ) (o : ℕ) → Invalid k → sees_in k Empty d o ≡ d o
invalid_sees I d o h = refl
invalid_sees (V b) d o h = absurd h
