-- The race table is a summary of the ended calls: it answers the race rule, and its two numbers are the log's.
use Rattle.std.proofs.Common.{◌≡◌, ℕ, ◌<◌, Bool, true, false, cond, not, ◌&&◌, ◌||◌, eqb, ltb, ◌⊎◌, List, [], ◌∷◌, map, length, get_or, set, replicate, is_some, Some, None, Option, unwrap_or, option_map, sym, refl, ap, ◌∙◌, subst, inl, inr, ⊎_elim, arith}
use Rattle.std.proofs.lemmas.List.{get_or-set_same, get_or-set_other, get_or-map, get_or-replicate, length-set, length-map}
use Rattle.std.proofs.lemmas.Bool.{cases_eq, eq-eqb, ne_eqb, lt-ltb, true≢false, false≢true, or_parts, or_cases}
use Rattle.protocol.specs.declared.steps.Ended.{Ended}
use Rattle.protocol.specs.declared.steps.Ended.TheVariants.{Loaded, Stored, Acquired, Released, Evicted}
use Rattle.races.specs.declared.table.Newest.{Newest}
use Rattle.races.specs.Races.{Written, newest, since, releases, acquires, released, handed_over, else_earlier, races, races_with, any_race, first_race, number, first_number}
use Rattle.races.specs.Table.{none_yet, stored_by, released_by, acquired_by, has_acquired, entry_races, stores_after, table_races, first_after, table_of}

-- There is room for each core's acquires.
abbrev HasRoom : Option (List Bool) → Type 0
HasRoom None = Unit {0}
HasRoom (Some acquired) = length acquired ≡ 8

-- What the table keeps of a store is a summary of the store and the calls since.
record Summary (e : Newest) (w : Written) (l : List Ended) : Type 0 where
  storer : e.storer ≡ w.core
  rel : is_some e.acquired ≡ released w.core l
  acq : (c : ℕ) → c < 8 → has_acquired c e.acquired ≡ handed_over w.core c l
  long : HasRoom e.acquired

-- An entry is a summary of the newest store, or there is neither.
abbrev SumsUp : Option Newest → Option Written → List Ended → Type 0
SumsUp None None l = Unit {0}
SumsUp None (Some w) l = ⊥
SumsUp (Some e) None l = ⊥
SumsUp (Some e) (Some w) l = Summary e w l

-- A call that is no release and no acquire adds nothing.
adds_nothing : (x : Ended) (e : Option Newest) (o : Option Written) (l : List Ended) → ((d : ℕ) → releases d x ≡ false) → ((c : ℕ) → acquires c x ≡ false) → SumsUp e o l → SumsUp e o (x ∷ l)
adds_nothing x None None l r a h = tt
adds_nothing x None (Some w) l r a h = absurd h
adds_nothing x (Some e) None l r a h = absurd h
adds_nothing x (Some e) (Some w) l r a h =
    record {
      storer = h.storer;
      rel = h.rel ∙ ap (λ (t : Bool). t || released w.core l) (sym (r w.core));
      acq = λ c k. h.acq c k ∙ ap (λ (t : Bool). (t && released w.core l) || handed_over w.core c l) (sym (a c));
      long = h.long;
    }

-- A new store begins anew.
fresh_store : (c b : ℕ) → SumsUp (Some (stored_by c)) (Some (record { core = c; byte = b })) []
fresh_store c b = record { storer = refl; rel = refl; acq = λ d h. refl; long = tt }

-- A release counts if it is the storer's: nothing has been acquired after the first.
acquired_so_far : (o : Option (List Bool)) (c : ℕ) → c < 8 → get_or (unwrap_or o (replicate 8 false)) c false ≡ has_acquired c o
acquired_so_far None c h = get_or-replicate 8 c false false h
acquired_so_far (Some acquired) c h = refl

room_so_far : (o : Option (List Bool)) → HasRoom o → length (unwrap_or o (replicate 8 false)) ≡ 8
room_so_far None h = refl
room_so_far (Some acquired) h = h

release_adds : (t : Bool) (c : ℕ) (e : Newest) (w : Written) (l : List Ended) → eqb w.core c ≡ t → Summary e w l → Summary (cond t (record { storer = e.storer; acquired = Some (unwrap_or e.acquired (replicate 8 false)) }) e) w (Released c ∷ l)
release_adds true c e w l q h =
    record {
      storer = h.storer;
      rel = ap (λ (t : Bool). t || released w.core l) (sym q);
      acq = λ d k. acquired_so_far e.acquired d k ∙ h.acq d k;
      long = room_so_far e.acquired h.long;
    }
release_adds false c e w l q h = record { storer = h.storer; rel = h.rel ∙ ap (λ (t : Bool). t || released w.core l) (sym q); acq = h.acq; long = h.long }

after_release : (c : ℕ) (e : Option Newest) (o : Option Written) (l : List Ended) → SumsUp e o l → SumsUp (option_map (released_by c) e) o (Released c ∷ l)
after_release c None None l h = tt
after_release c None (Some w) l h = absurd h
after_release c (Some e) None l h = absurd h
after_release c (Some e) (Some w) l h = release_adds (eqb e.storer c) c e w l (ap (λ (s : ℕ). eqb s c) (sym h.storer)) h

-- An acquire counts if the storer has released.
set_true : (acq : List Bool) (c d : ℕ) (x : Bool) → c < 8 → length acq ≡ 8 → get_or acq d false ≡ x → get_or (set acq c true) d false ≡ ((eqb c d && true) || x)
set_true acq c d x l n h =
    ⊎_elim
    (λ (e : c ≡ d). subst (λ (z : ℕ). get_or (set acq c true) z false ≡ ((eqb c z && true) || x)) e (get_or-set_same acq c true false (omega arith) ∙ ap (λ (z : Bool). (z && true) || x) (sym (eq-eqb c c refl))))
    (λ (e : c ≡ d → ⊥). get_or-set_other acq c d true false (λ q. e (sym q)) ∙ (h ∙ ap (λ (z : Bool). (z && true) || x) (sym (ne_eqb c d e))))
    (cases_eq c d)

and_no : (t x : Bool) → x ≡ ((t && false) || x)
and_no true x = refl
and_no false x = refl

acquire_adds : (c s : ℕ) (acquired : Option (List Bool)) (w : Written) (l : List Ended) → c < 8 → Summary (record { storer = s; acquired = acquired }) w l → Summary (acquired_by c (record { storer = s; acquired = acquired })) w (Acquired c ∷ l)
acquire_adds c s None w l k h =
    record {
      storer = h.storer;
      rel = h.rel;
      acq = λ d n. h.acq d n ∙ (and_no (eqb c d) (handed_over w.core d l) ∙ ap (λ (x : Bool). (eqb c d && x) || handed_over w.core d l) h.rel);
      long = tt;
    }
acquire_adds c s (Some acquired) w l k h =
    record {
      storer = h.storer;
      rel = h.rel;
      acq = λ d n. set_true acquired c d (handed_over w.core d l) k h.long (h.acq d n) ∙ ap (λ (x : Bool). (eqb c d && x) || handed_over w.core d l) h.rel;
      long = length-set acquired c true ∙ h.long;
    }

after_acquire : (c : ℕ) (e : Option Newest) (o : Option Written) (l : List Ended) → c < 8 → SumsUp e o l → SumsUp (option_map (acquired_by c) e) o (Acquired c ∷ l)
after_acquire c None None l k h = tt
after_acquire c None (Some w) l k h = absurd h
after_acquire c (Some e) None l k h = absurd h
after_acquire c (Some e) (Some w) l k h = acquire_adds c e.storer e.acquired w l k h

-- The entry of an address after all the ended calls.
abbrev entry : ℕ → List Ended → Option Newest
entry a xs = get_or (table_of xs).newest a none_yet

-- An ended call's fields are in range.
abbrev pub InRange : Ended → Type 0
InRange (Loaded c a b) = (c < 8) × (a < 64)
InRange (Stored c a b) = (c < 8) × (a < 64)
InRange (Acquired c) = c < 8
InRange (Released c) = c < 8
InRange (Evicted c l) = c < 8

abbrev pub AllInRange : List Ended → Type 0
AllInRange [] = Unit {0}
AllInRange (x ∷ xs) = InRange x × AllInRange xs

either_long : (t : Bool) (xs ys : List (Option Newest)) → length xs ≡ 64 → length ys ≡ 64 → length (cond t xs ys) ≡ 64
either_long true xs ys h k = h
either_long false xs ys h k = k

stores_long : (x : Ended) (t : List (Option Newest)) → length t ≡ 64 → length (stores_after x t) ≡ 64
stores_long (Loaded c a b) t h = h
stores_long (Stored c a b) t h = either_long (ltb a 64) (set t a (Some (stored_by c))) t (length-set t a (Some (stored_by c)) ∙ h) h
stores_long (Acquired c) t h = either_long (ltb c 8) (map (option_map (acquired_by c)) t) t (length-map t (option_map (acquired_by c)) ∙ h) h
stores_long (Released c) t h = length-map t (option_map (released_by c)) ∙ h
stores_long (Evicted c l) t h = h

table_long : (xs : List Ended) → length (table_of xs).newest ≡ 64
table_long [] = refl
table_long (x ∷ xs) = stores_long x (table_of xs).newest (table_long xs)

-- Where a store ended, the entry of its own address begins anew, and any other is as it was.
store_entry_same : (t : List (Option Newest)) (c a : ℕ) → a < 64 → length t ≡ 64 → get_or (cond (ltb a 64) (set t a (Some (stored_by c))) t) a none_yet ≡ Some (stored_by c)
store_entry_same t c a k n =
    ap (λ (z : Bool). get_or (cond z (set t a (Some (stored_by c))) t) a none_yet) (lt-ltb a 64 k) ∙ get_or-set_same t a (Some (stored_by c)) none_yet (omega arith)

store_entry_other : (t : List (Option Newest)) (c e a : ℕ) → e < 64 → (e ≡ a → ⊥) → get_or (cond (ltb e 64) (set t e (Some (stored_by c))) t) a none_yet ≡ get_or t a none_yet
store_entry_other t c e a k n =
    ap (λ (z : Bool). get_or (cond z (set t e (Some (stored_by c))) t) a none_yet) (lt-ltb e 64 k) ∙ get_or-set_other t e a (Some (stored_by c)) none_yet (λ q. n (sym q))

-- What the log says after one more call, by the store to this address that the call is, or none.
abbrev Says : Option Newest → Ended → ℕ → List Ended → Option Written → Type 0
Says e x a xs o = SumsUp e (else_earlier o (newest a xs)) (cond (is_some o) [] (x ∷ since a xs))

store_says : (c e b a : ℕ) (xs : List Ended) → e < 64 → a < 64 → length (table_of xs).newest ≡ 64 → SumsUp (entry a xs) (newest a xs) (since a xs) → (e ≡ a) ⊎ (e ≡ a → ⊥) → SumsUp (entry a (Stored c e b ∷ xs)) (newest a (Stored c e b ∷ xs)) (since a (Stored c e b ∷ xs))
store_says c e b a xs k n l h (inl q) =
    let w : Written = record { core = c; byte = b } in
    let at_e : get_or (table_of (Stored c e b ∷ xs)).newest a none_yet ≡ Some (stored_by c) = subst (λ (z : ℕ). get_or (table_of (Stored c e b ∷ xs)).newest z none_yet ≡ Some (stored_by c)) q (store_entry_same (table_of xs).newest c e k l) in
    subst (Says (entry a (Stored c e b ∷ xs)) (Stored c e b) a xs) (ap (λ (t : Bool). cond t (Some w) None) (sym (eq-eqb e a q)))
    (subst (λ (z : Option Newest). SumsUp z (Some w) []) (sym at_e) (fresh_store c b))
store_says c e b a xs k n l h (inr q) =
    let w : Written = record { core = c; byte = b } in
    subst (Says (entry a (Stored c e b ∷ xs)) (Stored c e b) a xs) (ap (λ (t : Bool). cond t (Some w) None) (sym (ne_eqb e a q)))
    (subst (λ (z : Option Newest). SumsUp z (newest a xs) (Stored c e b ∷ since a xs)) (sym (store_entry_other (table_of xs).newest c e a k q)) (adds_nothing (Stored c e b) (entry a xs) (newest a xs) (since a xs) (λ d. refl) (λ d. refl) h))

map_entry : (f : Option Newest → Option Newest) (t : List (Option Newest)) (a : ℕ) → a < 64 → length t ≡ 64 → get_or (map f t) a none_yet ≡ f (get_or t a none_yet)
map_entry f t a k n = get_or-map f t a none_yet none_yet (omega arith)

-- Each entry sums up what ended.
entry_sums_up : (a : ℕ) (xs : List Ended) → a < 64 → AllInRange xs → SumsUp (entry a xs) (newest a xs) (since a xs)
entry_sums_up a [] k r = subst (λ (z : Option Newest). SumsUp z None []) (sym (get_or-replicate 64 a none_yet none_yet k)) tt
entry_sums_up a (Loaded c e b ∷ xs) k r = adds_nothing (Loaded c e b) (entry a xs) (newest a xs) (since a xs) (λ d. refl) (λ d. refl) (entry_sums_up a xs k r.1)
entry_sums_up a (Stored c e b ∷ xs) k r = store_says c e b a xs r.0.1 k (table_long xs) (entry_sums_up a xs k r.1) (cases_eq e a)
entry_sums_up a (Acquired c ∷ xs) k r =
    let t = (table_of xs).newest in
    let is : entry a (Acquired c ∷ xs) ≡ option_map (acquired_by c) (entry a xs) = ap (λ (z : Bool). get_or (cond z (map (option_map (acquired_by c)) t) t) a none_yet) (lt-ltb c 8 r.0) ∙ map_entry (option_map (acquired_by c)) t a k (table_long xs) in
    subst (λ (z : Option Newest). SumsUp z (newest a xs) (Acquired c ∷ since a xs)) (sym is) (after_acquire c (entry a xs) (newest a xs) (since a xs) r.0 (entry_sums_up a xs k r.1))
entry_sums_up a (Released c ∷ xs) k r =
    subst (λ (z : Option Newest). SumsUp z (newest a xs) (Released c ∷ since a xs)) (sym (map_entry (option_map (released_by c)) (table_of xs).newest a k (table_long xs))) (after_release c (entry a xs) (newest a xs) (since a xs) (entry_sums_up a xs k r.1))
entry_sums_up a (Evicted c l ∷ xs) k r = adds_nothing (Evicted c l) (entry a xs) (newest a xs) (since a xs) (λ d. refl) (λ d. refl) (entry_sums_up a xs k r.1)

-- An entry that sums up answers the race rule.
sums_up_races : (c : ℕ) (e : Option Newest) (o : Option Written) (l : List Ended) → c < 8 → SumsUp e o l → entry_races c e ≡ races_with c o l
sums_up_races c None None l k h = refl
sums_up_races c None (Some w) l k h = absurd h
sums_up_races c (Some e) None l k h = absurd h
sums_up_races c (Some e) (Some w) l k h =
    ap (λ (s : ℕ). not (eqb s c) && not (has_acquired c e.acquired)) h.storer ∙ ap (λ (x : Bool). not (eqb w.core c) && not x) (h.acq c k)

access_races : (c a : ℕ) (xs : List Ended) → c < 8 → a < 64 → AllInRange xs → (ltb c 8 && entry_races c (entry a xs)) ≡ races_with c (newest a xs) (since a xs)
access_races c a xs k n r = ap (λ (z : Bool). z && entry_races c (entry a xs)) (lt-ltb c 8 k) ∙ sums_up_races c (entry a xs) (newest a xs) (since a xs) k (entry_sums_up a xs n r)

-- The table answers the race rule.
pub table_races_is : (x : Ended) (xs : List Ended) → InRange x → AllInRange xs → table_races x (table_of xs).newest ≡ races x xs
table_races_is (Loaded c a b) xs i r = access_races c a xs i.0 i.1 r
table_races_is (Stored c a b) xs i r = access_races c a xs i.0 i.1 r
table_races_is (Acquired c) xs i r = refl
table_races_is (Released c) xs i r = refl
table_races_is (Evicted c l) xs i r = refl

-- Its count is the number of the newest call.
pub table_ended_is : (xs : List Ended) → (table_of xs).ended ≡ number xs
table_ended_is [] = refl
table_ended_is (x ∷ xs) = let h = table_ended_is xs in omega arith

-- A first race has a number, and only then.
first_none : (xs : List Ended) → any_race xs ≡ false → first_race xs ≡ 0
first_none [] h = refl
first_none (x ∷ xs) h =
    let p = or_parts (races x xs) (any_race xs) h in
    ap (λ (z : Bool). cond z (first_race xs) (first_number (races x xs) (number (x ∷ xs)))) p.1 ∙ ap (λ (z : Bool). first_number z (number (x ∷ xs))) p.0

first_some : (xs : List Ended) → any_race xs ≡ true → 0 < first_race xs
first_some [] h = absurd (false≢true h)
first_some (x ∷ xs) h = go (any_race xs) refl (first_some xs)
  where
    go : (t : Bool) → any_race xs ≡ t → (any_race xs ≡ true → 0 < first_race xs) → 0 < first_race (x ∷ xs)
    go true q f = subst (λ (z : Bool). 0 < cond z (first_race xs) (first_number (races x xs) (number (x ∷ xs)))) (sym q) (f q)
    go false q f =
        let here : races x xs ≡ true = ⊎_elim (λ (e : races x xs ≡ true). e) (λ (e : any_race xs ≡ true). absurd (true≢false (sym e ∙ q))) (or_cases (races x xs) (any_race xs) h) in
        subst (λ (z : Bool). 0 < cond z (first_race xs) (first_number (races x xs) (number (x ∷ xs)))) (sym q)
        (subst (λ (z : Bool). 0 < first_number z (number (x ∷ xs))) (sym here) (omega arith))

-- Where there was a race the first stays; else it is this call's, if it races.
first_more : (xs : List Ended) (race : Bool) (n : ℕ) (t : Bool) → any_race xs ≡ t → first_after (first_race xs) race n ≡ cond t (first_race xs) (first_number race n)
first_more xs race n true q = let p = first_some xs q in ap (λ (z : Bool). cond z (first_number race n) (first_race xs)) (ne_eqb (first_race xs) 0 (λ e. omega arith))
first_more xs race n false q = ap (λ (z : ℕ). first_after z race n) (first_none xs q)

-- Its first race is the log's.
pub table_first_is : (xs : List Ended) → AllInRange xs → (table_of xs).first_race ≡ first_race xs
table_first_is [] r = refl
table_first_is (x ∷ xs) r =
    ap (λ (z : ℕ). first_after z (table_races x (table_of xs).newest) (table_of (x ∷ xs)).ended) (table_first_is xs r.1)
    ∙ (ap (λ (z : Bool). first_after (first_race xs) z (table_of (x ∷ xs)).ended) (table_races_is x xs r.0 r.1)
    ∙ (ap (first_after (first_race xs) (races x xs)) (table_ended_is (x ∷ xs))
    ∙ first_more xs (races x xs) (number (x ∷ xs)) (any_race xs) refl))
