-- A row's property, that an owner is alone, after each change of its copies.
use Rattle.std.proofs.Common.{◌≡◌, ℕ, zero, suc, Bool, true, false, not, List, [], ◌∷◌, map, length, get_or, set, replicate, sym, refl, ap, ◌∙◌}
use Rattle.std.specs.List.{list_any}
use Rattle.std.proofs.lemmas.Bool.{true≢false, false≢true, not-true, or_parts, or_from}
use Rattle.mesi_rules.specs.declared.copies.PrivateLine.{PrivateLine}
use Rattle.mesi_rules.specs.declared.copies.PrivateLine.TheVariants.{Invalid, Shared, Exclusive, Modified}
use Rattle.mesi_rules.specs.Copies.{holds, owns, is_modified, downgraded, fetched, owner_alone}

-- A copy that fails a test joins others that fail it.
none_set : (test : PrivateLine → Bool) (xs : List PrivateLine) (c : ℕ) (x : PrivateLine) → test x ≡ false → list_any test xs ≡ false → list_any test (set xs c x) ≡ false
none_set test [] c x f h = refl
none_set test (y ∷ ys) zero x f h = or_from (test x) (list_any test ys) f (or_parts (test y) (list_any test ys) h).1
none_set test (y ∷ ys) (suc c) x f h =
    or_from (test y) (list_any test (set ys c x)) (or_parts (test y) (list_any test ys) h).0 (none_set test ys c x f (or_parts (test y) (list_any test ys) h).1)

-- Where nobody owns the line, an owner is alone.
alone_unowned : (xs : List PrivateLine) → list_any owns xs ≡ false → owner_alone xs ≡ true
alone_unowned [] h = refl
alone_unowned (Invalid ∷ xs) h = alone_unowned xs h
alone_unowned (Shared d ∷ xs) h = ap not h
alone_unowned (Exclusive d ∷ xs) h = absurd (true≢false h)
alone_unowned (Modified d ∷ xs) h = absurd (true≢false h)

unheld_unowned : (xs : List PrivateLine) → list_any holds xs ≡ false → list_any owns xs ≡ false
unheld_unowned [] h = refl
unheld_unowned (Invalid ∷ xs) h = unheld_unowned xs h
unheld_unowned (Shared d ∷ xs) h = absurd (true≢false h)
unheld_unowned (Exclusive d ∷ xs) h = absurd (true≢false h)
unheld_unowned (Modified d ∷ xs) h = absurd (true≢false h)

-- Where nobody holds the line, any one core may take it.
alone_first : (x : PrivateLine) (xs : List PrivateLine) → list_any holds xs ≡ false → owner_alone (x ∷ xs) ≡ true
alone_first Invalid xs h = alone_unowned xs (unheld_unowned xs h)
alone_first (Shared d) xs h = ap not (unheld_unowned xs h)
alone_first (Exclusive d) xs h = ap not h
alone_first (Modified d) xs h = ap not h

alone_unheld : (xs : List PrivateLine) (c : ℕ) (x : PrivateLine) → list_any holds xs ≡ false → owner_alone (set xs c x) ≡ true
alone_unheld [] c x h = refl
alone_unheld (y ∷ ys) zero x h = alone_first x ys (or_parts (holds y) (list_any holds ys) h).1
alone_unheld (Invalid ∷ ys) (suc c) x h = alone_unheld ys c x h
alone_unheld (Shared d ∷ ys) (suc c) x h = absurd (true≢false h)
alone_unheld (Exclusive d ∷ ys) (suc c) x h = absurd (true≢false h)
alone_unheld (Modified d ∷ ys) (suc c) x h = absurd (true≢false h)

-- After a load nobody owns the line but a loader that holds it alone.
unowned_downgraded : (xs : List PrivateLine) → list_any owns (map downgraded xs) ≡ false
unowned_downgraded [] = refl
unowned_downgraded (Invalid ∷ xs) = unowned_downgraded xs
unowned_downgraded (Shared d ∷ xs) = unowned_downgraded xs
unowned_downgraded (Exclusive d ∷ xs) = unowned_downgraded xs
unowned_downgraded (Modified d ∷ xs) = unowned_downgraded xs

unheld_downgraded : (xs : List PrivateLine) → list_any holds (map downgraded xs) ≡ list_any holds xs
unheld_downgraded [] = refl
unheld_downgraded (Invalid ∷ xs) = unheld_downgraded xs
unheld_downgraded (Shared d ∷ xs) = refl
unheld_downgraded (Exclusive d ∷ xs) = refl
unheld_downgraded (Modified d ∷ xs) = refl

pub alone_fetched : (xs : List PrivateLine) (c : ℕ) (line : List ℕ) → owner_alone (set (map downgraded xs) c (fetched (list_any holds xs) line)) ≡ true
alone_fetched xs c line = by (list_any holds xs) refl
  where
    by : (held : Bool) → list_any holds xs ≡ held → owner_alone (set (map downgraded xs) c (fetched held line)) ≡ true
    by true h = alone_unowned (set (map downgraded xs) c (Shared line)) (none_set owns (map downgraded xs) c (Shared line) refl (unowned_downgraded xs))
    by false h = alone_unheld (map downgraded xs) c (Exclusive line) (unheld_downgraded xs ∙ h)

-- After an evict the others are as they were.
pub alone_evicted : (xs : List PrivateLine) (c : ℕ) → owner_alone xs ≡ true → owner_alone (set xs c Invalid) ≡ true
alone_evicted [] c h = h
alone_evicted (Invalid ∷ xs) zero h = h
alone_evicted (Shared d ∷ xs) zero h = alone_unowned xs (not-true (list_any owns xs) h)
alone_evicted (Exclusive d ∷ xs) zero h = alone_unowned xs (unheld_unowned xs (not-true (list_any holds xs) h))
alone_evicted (Modified d ∷ xs) zero h = alone_unowned xs (unheld_unowned xs (not-true (list_any holds xs) h))
alone_evicted (Invalid ∷ xs) (suc c) h = alone_evicted xs c h
alone_evicted (Shared d ∷ xs) (suc c) h = ap not (none_set owns xs c Invalid refl (not-true (list_any owns xs) h))
alone_evicted (Exclusive d ∷ xs) (suc c) h = ap not (none_set holds xs c Invalid refl (not-true (list_any holds xs) h))
alone_evicted (Modified d ∷ xs) (suc c) h = ap not (none_set holds xs c Invalid refl (not-true (list_any holds xs) h))

-- Beside an M copy all others are I.
unheld_invalid : (xs : List PrivateLine) → list_any holds xs ≡ false → xs ≡ replicate (length xs) Invalid
unheld_invalid [] h = refl
unheld_invalid (Invalid ∷ xs) h = ap (λ (ys : List PrivateLine). Invalid ∷ ys) (unheld_invalid xs h)
unheld_invalid (Shared d ∷ xs) h = absurd (true≢false h)
unheld_invalid (Exclusive d ∷ xs) h = absurd (true≢false h)
unheld_invalid (Modified d ∷ xs) h = absurd (true≢false h)

some_owns : (xs : List PrivateLine) (c : ℕ) → is_modified (get_or xs c Invalid) ≡ true → list_any owns xs ≡ true
some_owns [] c h = absurd (false≢true h)
some_owns (Invalid ∷ xs) zero h = absurd (false≢true h)
some_owns (Shared d ∷ xs) zero h = absurd (false≢true h)
some_owns (Exclusive d ∷ xs) zero h = absurd (false≢true h)
some_owns (Modified d ∷ xs) zero h = refl
some_owns (Invalid ∷ xs) (suc c) h = some_owns xs c h
some_owns (Shared d ∷ xs) (suc c) h = some_owns xs c h
some_owns (Exclusive d ∷ xs) (suc c) h = refl
some_owns (Modified d ∷ xs) (suc c) h = refl

pub alone_modified : (xs : List PrivateLine) (c : ℕ) → owner_alone xs ≡ true → is_modified (get_or xs c Invalid) ≡ true → xs ≡ set (replicate (length xs) Invalid) c (get_or xs c Invalid)
alone_modified [] c a h = refl
alone_modified (Invalid ∷ xs) zero a h = absurd (false≢true h)
alone_modified (Shared d ∷ xs) zero a h = absurd (false≢true h)
alone_modified (Exclusive d ∷ xs) zero a h = absurd (false≢true h)
alone_modified (Modified d ∷ xs) zero a h = ap (λ (ys : List PrivateLine). Modified d ∷ ys) (unheld_invalid xs (not-true (list_any holds xs) a))
alone_modified (Invalid ∷ xs) (suc c) a h = ap (λ (ys : List PrivateLine). Invalid ∷ ys) (alone_modified xs c a h)
alone_modified (Shared d ∷ xs) (suc c) a h = absurd (true≢false (sym (some_owns xs c h) ∙ not-true (list_any owns xs) a))
alone_modified (Exclusive d ∷ xs) (suc c) a h = absurd (true≢false (sym (some_owns xs c h) ∙ unheld_unowned xs (not-true (list_any holds xs) a)))
alone_modified (Modified d ∷ xs) (suc c) a h = absurd (true≢false (sym (some_owns xs c h) ∙ unheld_unowned xs (not-true (list_any holds xs) a)))
