-- The rules keep the meaning: every core always sees home, a store changes home at one address, and nothing else does.
use Rattle.std.specs.Prelude.{◌≡◌, ℕ, ◌<◌, Bool, true, false, cond, ◌&&◌, ◌≢◌, List, length, replicate, Some, None, Option, ◌==◌, nat_le, slice_index, slice_set, refl}
use Rattle.std.proofs.Common.{sym, ap, subst, ◌∙◌, inr, ⊎_elim, arith}
use Rattle.std.specs.List.{All}
use Rattle.std.proofs.lemmas.List.{length-set, get_or-set_same, get_or-set_other}
use Rattle.std.proofs.lemmas.List.Elements.{All-set, All-replicate}
use Rattle.std.proofs.lemmas.Bool.{false≢true, leb-false, eqb-true, eq-eqb, cases_eq, cases_Bool, and_parts, and_from, cond-true, cond-false, both_ways}
use Rattle.protocol.specs.declared.steps.Step.{Step}
use Rattle.protocol.specs.declared.steps.Step.TheVariants.{Load, Store, Acquire, Release, Evict, Move}
use Rattle.protocol.specs.declared.steps.Ended.{Ended}
use Rattle.protocol.specs.declared.steps.Ended.TheVariants.{Loaded, Stored, Acquired, Released, Evicted}
use Rattle.protocol.specs.declared.steps.Refusal.{Refusal}
use Rattle.protocol.specs.Cells.{line_of, offset_of}
use Rattle.protocol.specs.Moment.{View, Drift, Drifts, stay, drift, StoreLands, NobodyOwes, Owed}
use Rattle.protocol.specs.Meaning.{Meaning, Brings, Ends, refused_in}
use Rattle.protocol.specs.Steps.{Fit, call_of}
use Rattle.protocol.proofs.ByRules.{Kept, keeps_meaning}
use Rattle.mesi_rules.specs.declared.copies.PrivateLine.TheVariants.{Invalid}
use Rattle.mesi_rules.specs.Rows.{LineRow, cleared_row, home_line, home_at, seen_at, loaded, stored, evicted}
use Rattle.mesi_rules.specs.Bus.{State, start, row_at, row_of_address, load_leaves, load_answers, store_leaves, evict_leaves, act, moment, mesi_machine}
use Rattle.mesi_rules.proofs.Whole.{all_at, CopyOf, Whole, seen_whole, loaded_whole, stored_whole, evicted_whole}

-- A row has one line of eight bytes: it is at home, and every copy is that line.
record Sound (r : LineRow) : Type 0 where
  line : List ℕ
  long : length line ≡ 8
  bytes : All (λ b. b < 256) line
  whole : Whole line r

-- What holds of every state that is reached.
pub record Inv (s : State) : Type 0 where
  lines : length s ≡ 8
  sound : (l : ℕ) → Sound (row_at s l)

abbrev view : State → View
view s = (moment s).view

-- One row changed.
row_same : (s : State) (l : ℕ) (r : LineRow) → l < 8 → Inv s → row_at (slice_set s l r) l ≡ r
row_same s l r lt i = get_or-set_same s l r cleared_row (omega (arith, i.lines))

row_other : (s : State) (l k : ℕ) (r : LineRow) → k ≢ l → row_at (slice_set s l r) k ≡ row_at s k
row_other s l k r ne = get_or-set_other s l k r cleared_row ne

inv_set : (s : State) (l : ℕ) (r : LineRow) → l < 8 → Inv s → Sound r → Inv (slice_set s l r)
inv_set s l r lt i h =
    record {
      lines = length-set s l r ∙ i.lines;
      sound = λ k. ⊎_elim
          (λ e. subst Sound (sym (ap (row_at (slice_set s l r)) e ∙ row_same s l r lt i)) h)
          (λ ne. subst Sound (sym (row_other s l k r ne)) (i.sound k))
          (cases_eq k l);
    }

-- A core that sees its own copy, or home where it has none, sees home.
pub sees_home : (s : State) → Inv s → (c a : ℕ) → (view s).sees c a ≡ (view s).home a
sees_home s i c a =
    let h = i.sound (line_of a) in
    ap (λ (x : List ℕ). slice_index x (offset_of a)) (seen_whole h.line (row_of_address s a) c h.whole ∙ sym h.whole.home)

-- Home after a row was changed: at that row's line, and elsewhere.
home_there : (s : State) (l : ℕ) (r : LineRow) (a : ℕ) → l < 8 → Inv s → line_of a ≡ l → (view (slice_set s l r)).home a ≡ home_at r (offset_of a)
home_there s l r a lt i e = ap (λ (x : LineRow). home_at x (offset_of a)) (ap (row_at (slice_set s l r)) e ∙ row_same s l r lt i)

home_elsewhere : (s : State) (l : ℕ) (r : LineRow) (a : ℕ) → line_of a ≢ l → (view (slice_set s l r)).home a ≡ (view s).home a
home_elsewhere s l r a ne = ap (λ (x : LineRow). home_at x (offset_of a)) (row_other s l (line_of a) r ne)

home_kept : (s : State) (l : ℕ) (r : LineRow) → l < 8 → Inv s → home_line r ≡ home_line (row_at s l) → (a : ℕ) → (view (slice_set s l r)).home a ≡ (view s).home a
home_kept s l r lt i e a =
    ⊎_elim
    (λ same. home_there s l r a lt i same ∙ ap (λ (x : List ℕ). slice_index x (offset_of a)) (e ∙ ap (λ (k : ℕ). home_line (row_at s k)) (sym same)))
    (home_elsewhere s l r a)
    (cases_eq (line_of a) l)

-- A drift to a state where every core sees home and nobody owes.
settles : (m : View) (t : State) → Inv t
    → ((a : ℕ) → a < 64 → NobodyOwes m a → (view t).home a ≡ m.home a)
    → ((a : ℕ) → a < 64 → Owed m a → (c : ℕ) × (c < 8) × (m.owes c a ≡ true) × ((view t).home a ≡ m.sees c a))
    → Drift m (view t)
settles m t i stays taken =
    record {
      no_new_debt = λ c a _ _ e. absurd (false≢true e);
      home_stays = stays;
      home_taken = λ a lt o _. taken a lt o;
      debtor_sees = λ c a _ _ e. absurd (false≢true e);
      other_sees = λ c a _ _ _. inr (sees_home t i c a);
    }

quiet : (s t : State) → Inv t → ((a : ℕ) → (view t).home a ≡ (view s).home a) → Drifts (view s) (view t)
quiet s t i e = drift stay (settles (view s) t i (λ a _ _. e a) (λ a _ o. absurd (false≢true o.2)))

-- A row that changed and kept its line, by a load or an evict.
sound_kept : (s : State) (l : ℕ) (r : LineRow) → (i : Inv s) → Whole (i.sound l).line r → Sound r
sound_kept s l r i w = record { line = (i.sound l).line; long = (i.sound l).long; bytes = (i.sound l).bytes; whole = w }

quiet_row : (s : State) (l : ℕ) (r : LineRow) → l < 8 → (i : Inv s) → Whole (i.sound l).line r → Drifts (view s) (view (slice_set s l r))
quiet_row s l r lt i w =
    quiet s (slice_set s l r) (inv_set s l r lt i (sound_kept s l r i w)) (home_kept s l r lt i (w.home ∙ sym (i.sound l).whole.home))

-- The moment of a store: its core owes the byte and sees it.
abbrev there : ℕ → ℕ → ℕ → ℕ → Bool
there c a d e = d == c && e == a

abbrev landed : View → ℕ → ℕ → ℕ → View
landed m c a b = record { sees = λ d e. cond (there c a d e) b (m.sees d e); home = m.home; owes = there c a }

not_there : (c a d e : ℕ) → ((d ≡ c) × (e ≡ a) → ⊥) → there c a d e ≡ false
not_there c a d e ne =
    ⊎_elim (λ t. absurd (ne (eqb-true d c (and_parts (d == c) (e == a) t).0, eqb-true e a (and_parts (d == c) (e == a) t).1))) (λ f. f) (cases_Bool (there c a d e))

is_there : (c a : ℕ) → there c a c a ≡ true
is_there c a = and_from (c == c) (a == a) (eq-eqb c c refl) (eq-eqb a a refl)

lands : (s : State) (c a b : ℕ) → StoreLands c a b (view s) (landed (view s) c a b)
lands s c a b =
    record {
      owes_there = is_there c a;
      sees_there = cond-true (there c a c a) b ((view s).sees c a) (is_there c a);
      owes_elsewhere = λ d e h. not_there c a d e h.2;
      sees_elsewhere = λ d e h. cond-false (there c a d e) b ((view s).sees d e) (not_there c a d e h.2);
      home_same = λ e _. refl;
    }

-- A store of byte b by core c at address a, in line l.
module _ (s : State) (i : Inv s) (c a b : ℕ) (core : c < 8) (address : a < 64) (byte : b < 256) where
  abbrev l : ℕ
  l = line_of a

  abbrev line : List ℕ
  line = (i.sound l).line

  abbrev row : LineRow
  row = stored (row_at s l) c (offset_of a) b

  abbrev after : State
  after = store_leaves s c a b

  in_range : l < 8
  in_range = omega arith

  changed : Whole (slice_set line (offset_of a) b) row
  changed = stored_whole line (row_at s l) c (offset_of a) b core (i.sound l).whole

  inv_stored : Inv after
  inv_stored =
      inv_set s l row in_range i
      (record {
        line = slice_set line (offset_of a) b;
        long = length-set line (offset_of a) b ∙ (i.sound l).long;
        bytes = All-set (λ x. x < 256) line (offset_of a) b byte (i.sound l).bytes;
        whole = changed;
      })

  -- Home has the byte there, and elsewhere what it had.
  home_in_line : (e : ℕ) → line_of e ≡ l → (view after).home e ≡ slice_index (slice_set line (offset_of a) b) (offset_of e)
  home_in_line e same = home_there s l row e in_range i same ∙ ap (λ (x : List ℕ). slice_index x (offset_of e)) changed.home

  home_new : (view after).home a ≡ b
  home_new = home_in_line a refl ∙ get_or-set_same line (offset_of a) b 0 (omega (arith, (i.sound l).long))

  home_old : (e : ℕ) → e ≢ a → (view after).home e ≡ (view s).home e
  home_old e ne =
      ⊎_elim
      (λ same. home_in_line e same ∙ get_or-set_other line (offset_of a) (offset_of e) b 0 (omega arith) ∙ sym (before same))
      (home_elsewhere s l row e)
      (cases_eq (line_of e) l)
    where
      before : line_of e ≡ l → (view s).home e ≡ slice_index line (offset_of e)
      before same = ap (λ (k : ℕ). home_at (row_at s k) (offset_of e)) same ∙ ap (λ (x : List ℕ). slice_index x (offset_of e)) (i.sound l).whole.home

  -- From the store's moment on the byte goes home at once, and everybody sees it.
  comes_home : Drift (landed (view s) c a b) (view after)
  comes_home =
      settles (landed (view s) c a b) after inv_stored
      (λ e _ none. home_old e (λ same. both_ways (there c a c e) (none c core) (subst (λ (x : ℕ). there c a c x ≡ true) (sym same) (is_there c a))))
      (λ e _ o. (o.0, o.1, o.2, ap (view after).home (eqb-true e a (and_parts (o.0 == c) (e == a) o.2).1) ∙ home_new ∙ sym (cond-true (there c a o.0 e) b ((view s).sees o.0 e) o.2)))

  store_brings : Brings (Stored c a b) (view s) (view after)
  store_brings = (view s, landed (view s) c a b, stay, lands s c a b, drift stay comes_home)

-- A number that is not refused is in range.
within : (n x : ℕ) (e : Refusal) (o : Option Refusal) → cond (nat_le n x) (Some e) o ≡ None → (x < n) × (o ≡ None)
within n x e o h = by (nat_le n x) refl h
  where
    by : (t : Bool) → nat_le n x ≡ t → cond t (Some e) o ≡ None → (x < n) × (o ≡ None)
    by true p q = absurd (cc)
    by false p q = (leb-false n x p, q)

-- A call that ends at once.
ends : (k : Step) (e : Ended) (s t : State) → call_of e ≡ k → Brings e (view s) (view t) → Ends k e (moment s) (moment t)
ends k e s t same brings = record { same = same; brings = brings; waiting = λ _ _. refl; paid = omega arith }

steps : (s : State) (k : Step) → Inv s → Fit k → refused_in (moment s) k ≡ None → Kept moment Inv s k (act s k).0 (act s k).1
steps s (Load c a) i f h =
    let lt : line_of a < 8 = omega (arith, (within 64 a _ _ (within 8 c _ _ h).1).0) in
    let r = loaded (row_of_address s a) c in
    let w = loaded_whole (i.sound (line_of a)).line (row_of_address s a) c (i.sound (line_of a)).whole in
    let t = inv_set s (line_of a) r lt i (sound_kept s (line_of a) r i w) in
    record {
      again = t;
      accepted = ends (Load c a) (Loaded c a (load_answers s c a)) s (load_leaves s c a) refl
          (quiet_row s (line_of a) r lt i w, ap (λ (x : LineRow). seen_at x c (offset_of a)) (sym (row_same s (line_of a) r lt i)));
      reach = refl;
    }
steps s (Store c a b) i f h =
    let core : c < 8 = (within 8 c _ _ h).0 in
    let address : a < 64 = (within 64 a _ _ (within 8 c _ _ h).1).0 in
    record {
      again = inv_stored s i c a b core address f.2;
      accepted = ends (Store c a b) (Stored c a b) s (store_leaves s c a b) refl (store_brings s i c a b core address f.2);
      reach = refl;
    }
steps s (Acquire c) i f h = record { again = i; accepted = ends (Acquire c) (Acquired c) s s refl (stay, λ a _ _. sees_home s i c a); reach = refl }
steps s (Release c) i f h = record { again = i; accepted = ends (Release c) (Released c) s s refl (stay, λ a _. refl); reach = refl }
steps s (Evict c l) i f h =
    let lt : l < 8 = (within 8 l _ _ (within 8 c _ _ h).1).0 in
    let r = evicted (row_at s l) c in
    let w = evicted_whole (i.sound l).line (row_at s l) c (i.sound l).whole in
    record {
      again = inv_set s l r lt i (sound_kept s l r i w);
      accepted = ends (Evict c l) (Evicted c l) s (evict_leaves s c l) refl (quiet_row s l r lt i w);
      reach = refl;
    }
steps s (Move p) i f h = absurd (cc)

-- The cleared state.
cleared_sound : Sound cleared_row
cleared_sound =
    record {
      line = replicate 8 0;
      long = refl;
      bytes = All-replicate (λ b. b < 256) 8 0 (omega arith);
      whole = record { home = refl; same = All-replicate (CopyOf (replicate 8 0)) 8 Invalid tt };
    }

starts : Inv start
starts = record { lines = refl; sound = λ l. all_at Sound start l cleared_row cleared_sound (All-replicate Sound 8 cleared_row cleared_sound) }

home_starts : (a : ℕ) → (view start).home a ≡ 0
home_starts a =
    all_at (λ r. home_at r (offset_of a) ≡ 0) start (line_of a) cleared_row zero_row (All-replicate (λ r. home_at r (offset_of a) ≡ 0) 8 cleared_row zero_row)
  where
    zero_row : home_at cleared_row (offset_of a) ≡ 0
    zero_row = all_at (λ b. b ≡ 0) (replicate 8 0) (offset_of a) 0 refl (All-replicate (λ b. b ≡ 0) 8 0 refl)

home_byte : (s : State) → Inv s → (a : ℕ) → (view s).home a < 256
home_byte s i a =
    let h = i.sound (line_of a) in
    subst (λ (x : List ℕ). slice_index x (offset_of a) < 256) (sym h.whole.home) (all_at (λ b. b < 256) h.line (offset_of a) 0 (omega arith) h.bytes)

pub keeps : Meaning mesi_machine
keeps =
    keeps_meaning
    (record {
      starts = starts;
      clear =
          record {
            sees_zero = λ c a _ _. sees_home start starts c a ∙ home_starts a;
            home_zero = λ a _. home_starts a;
            no_debt = λ _ _ _ _. refl;
            no_wait = λ _ _. refl;
            none_open = λ _ _. refl;
            due_zero = refl;
          };
      step = steps;
      idle = λ _ _ _ _ _. refl;
      bytes = λ s i. record { seen = λ c a _ _. subst (λ (x : ℕ). x < 256) (sym (sees_home s i c a)) (home_byte s i a); at_home = λ a _. home_byte s i a };
      next_is = λ _ _ _ _ _ _. refl;
    })
