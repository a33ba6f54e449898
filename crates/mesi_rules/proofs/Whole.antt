-- A row whose copies all have one line: what the bus does keeps them so, and a store changes that line at one offset.
use Rattle.std.specs.Prelude.{◌≡◌, ℕ, zero, suc, ◌<◌, Bool, true, false, List, [], ◌∷◌, map, replicate, slice_index_or, slice_set, refl}
use Rattle.std.proofs.Common.{sym, ap, subst, ◌∙◌, arith}
use Rattle.std.specs.List.{All, list_any}
use Rattle.std.specs.Option.{unwrap_or}
use Rattle.std.proofs.lemmas.List.Elements.{All-head, All-tail, All-set, All-map, All-weaker, All-replicate}
use Rattle.mesi_rules.specs.declared.copies.PrivateLine.{PrivateLine}
use Rattle.mesi_rules.specs.declared.copies.PrivateLine.TheVariants.{Invalid, Shared, Exclusive, Modified}
use Rattle.mesi_rules.specs.Copies.{holds, downgraded, held_or, fetched, modified_line, modified_or}
use Rattle.mesi_rules.specs.declared.calls.Call.{Call}
use Rattle.mesi_rules.specs.declared.calls.Call.TheVariants.{Load, Store, Evict}
use Rattle.mesi_rules.specs.Rows.{LineRow, copy_at, home_line, seen_line, flushed, taken, transaction, transacted, finished, loaded, stored, evicted}

-- What holds of the default and of each element holds of each place.
pub all_at : {X : Type 0} (P : X → Type 0) (xs : List X) (i : ℕ) (d : X) → P d → All P xs → P (slice_index_or xs i d)
all_at P [] i d p h = p
all_at P (x ∷ xs) zero d p h = All-head P x xs h
all_at P (x ∷ xs) (suc i) d p h = all_at P xs i d p (All-tail P x xs h)

-- A copy is the line, or there is none.
abbrev pub CopyOf : List ℕ → PrivateLine → Type 0
CopyOf line Invalid = Unit {0}
CopyOf line (Shared d) = d ≡ line
CopyOf line (Exclusive d) = d ≡ line
CopyOf line (Modified d) = d ≡ line

-- The line is at home, and every copy is that line.
pub record Whole (line : List ℕ) (r : LineRow) : Type 0 where
  pub home : home_line r ≡ line
  pub same : All (CopyOf line) r.copies

-- Each core's copy is the line.
own_copy : (line : List ℕ) (r : LineRow) (c : ℕ) → Whole line r → CopyOf line (copy_at r c)
own_copy line r c h = all_at (CopyOf line) r.copies c Invalid tt h.same

held_is : (line : List ℕ) (x : PrivateLine) → CopyOf line x → held_or line x ≡ line
held_is line Invalid h = refl
held_is line (Shared d) h = h
held_is line (Exclusive d) h = h
held_is line (Modified d) h = h

-- Every core sees the line.
pub seen_whole : (line : List ℕ) (r : LineRow) (c : ℕ) → Whole line r → seen_line r c ≡ line
seen_whole line r c h =
    ap (λ (l : List ℕ). held_or l (copy_at r c)) h.home ∙ held_is line (copy_at r c) (own_copy line r c h)

-- With the line in the LLC too, it is at home.
modified_is : (line : List ℕ) (x : PrivateLine) → CopyOf line x → unwrap_or (modified_line x) line ≡ line
modified_is line Invalid h = refl
modified_is line (Shared d) h = refl
modified_is line (Exclusive d) h = refl
modified_is line (Modified d) h = h

modified_same : (line : List ℕ) (xs : List PrivateLine) → All (CopyOf line) xs → modified_or line xs ≡ line
modified_same line [] h = refl
modified_same line (x ∷ xs) h =
    ap (unwrap_or (modified_line x)) (modified_same line xs (All-tail (CopyOf line) x xs h)) ∙ modified_is line x (All-head (CopyOf line) x xs h)

in_llc : (line l : List ℕ) (xs : List PrivateLine) → l ≡ line → All (CopyOf line) xs → modified_or l xs ≡ line
in_llc line l xs e h = ap (λ (m : List ℕ). modified_or m xs) e ∙ modified_same line xs h

downgraded_is : (line : List ℕ) (x : PrivateLine) → CopyOf line x → CopyOf line (downgraded x)
downgraded_is line Invalid h = h
downgraded_is line (Shared d) h = h
downgraded_is line (Exclusive d) h = h
downgraded_is line (Modified d) h = h

fetched_is : (line l : List ℕ) (held : Bool) → l ≡ line → CopyOf line (fetched held l)
fetched_is line l true e = e
fetched_is line l false e = e

-- A core that takes the line has it, and the others keep it, where what is taken is home.
pub fetched_whole : (line : List ℕ) (r : LineRow) (c : ℕ) → Whole line r → Whole line (taken (flushed r) c)
fetched_whole line r c h =
    let same : All (CopyOf line) (taken (flushed r) c).copies =
    All-set (CopyOf line) (map downgraded r.copies) c (fetched (list_any holds r.copies) (home_line r))
    (fetched_is line (home_line r) (list_any holds r.copies) h.home)
    (All-map (CopyOf line) downgraded r.copies (All-weaker (CopyOf line) (λ x. CopyOf line (downgraded x)) (downgraded_is line) r.copies h.same)) in
    record {
      home = in_llc line (home_line r) (taken (flushed r) c).copies h.home same;
      same = same;
    }

-- What goes over the bus leaves the line as it is.
transacted_by : (line : List ℕ) (x : PrivateLine) (k : Call) (r : LineRow) (c : ℕ) → CopyOf line x → Whole line r → Whole line (transaction x k r c)
transacted_by line Invalid Load r c e h = fetched_whole line r c h
transacted_by line Invalid Store r c e h = fetched_whole line r c h
transacted_by line Invalid Evict r c e h = h
transacted_by line (Shared d) k r c e h = h
transacted_by line (Exclusive d) k r c e h = h
transacted_by line (Modified d) Load r c e h = h
transacted_by line (Modified d) Store r c e h = h
transacted_by line (Modified d) Evict r c e h = record { home = in_llc line d r.copies e h.same; same = h.same }

transacted_whole : (line : List ℕ) (r : LineRow) (c : ℕ) (k : Call) → Whole line r → Whole line (transacted r c k)
transacted_whole line r c k h = transacted_by line (copy_at r c) k r c (own_copy line r c h) h

pub loaded_whole : (line : List ℕ) (r : LineRow) (c : ℕ) → Whole line r → Whole line (loaded r c)
loaded_whole line r c h = transacted_whole line r c Load h

-- The one M copy is at home.
modified_set : (llc line : List ℕ) (n c : ℕ) → c < n → modified_or llc (slice_set (replicate n Invalid) c (Modified line)) ≡ line
modified_set llc line zero c h = absurd (omega arith)
modified_set llc line (suc n) zero h = refl
modified_set llc line (suc n) (suc c) h = modified_set llc line n c (omega arith)

-- After a store the one copy is the written line.
pub finished_whole : (line : List ℕ) (r : LineRow) (c : ℕ) → c < 8 → Whole line (finished r c line)
finished_whole line r c h =
    record {
      home = modified_set r.llc line 8 c h;
      same = All-set (CopyOf line) (replicate 8 Invalid) c (Modified line) refl (All-replicate (CopyOf line) 8 Invalid tt);
    }

pub stored_whole : (line : List ℕ) (r : LineRow) (c o b : ℕ) → c < 8 → Whole line r → Whole (slice_set line o b) (stored r c o b)
stored_whole line r c o b lt h =
    let seen : seen_line (transacted r c Store) c ≡ line = seen_whole line (transacted r c Store) c (transacted_whole line r c Store h) in
    subst (λ (l : List ℕ). Whole (slice_set line o b) (finished (transacted r c Store) c (slice_set l o b))) (sym seen) (finished_whole (slice_set line o b) (transacted r c Store) c lt)

-- A copy that leaves is in the LLC, if it was the one at home.
modified_left : (line llc : List ℕ) (xs : List PrivateLine) (c : ℕ) → All (CopyOf line) xs → modified_or llc xs ≡ line → modified_or (unwrap_or (modified_line (slice_index_or xs c Invalid)) llc) (slice_set xs c Invalid) ≡ line
modified_left line llc [] c h e = e
modified_left line llc (Invalid ∷ xs) zero h e = e
modified_left line llc (Shared d ∷ xs) zero h e = e
modified_left line llc (Exclusive d ∷ xs) zero h e = e
modified_left line llc (Modified d ∷ xs) zero h e = in_llc line d xs e (All-tail (CopyOf line) (Modified d) xs h)
modified_left line llc (Invalid ∷ xs) (suc c) h e = modified_left line llc xs c (All-tail (CopyOf line) Invalid xs h) e
modified_left line llc (Shared d ∷ xs) (suc c) h e = modified_left line llc xs c (All-tail (CopyOf line) (Shared d) xs h) e
modified_left line llc (Exclusive d ∷ xs) (suc c) h e = modified_left line llc xs c (All-tail (CopyOf line) (Exclusive d) xs h) e
modified_left line llc (Modified d ∷ xs) (suc c) h e = e

evict_by : (x : PrivateLine) (r : LineRow) (c : ℕ) → transaction x Evict r c ≡ record { copies = r.copies; llc = unwrap_or (modified_line x) r.llc }
evict_by Invalid r c = refl
evict_by (Shared d) r c = refl
evict_by (Exclusive d) r c = refl
evict_by (Modified d) r c = refl

pub evicted_whole : (line : List ℕ) (r : LineRow) (c : ℕ) → Whole line r → Whole line (evicted r c)
evicted_whole line r c h =
    subst (λ (t : LineRow). Whole line (record { copies = slice_set t.copies c Invalid; llc = t.llc })) (sym (evict_by (copy_at r c) r c))
    (record {
      home = modified_left line r.llc r.copies c h.same h.home;
      same = All-set (CopyOf line) r.copies c Invalid tt h.same;
    })
