-- A core that has a line in M has it for a store already.
use Rattle.std.proofs.Common.{◌≡◌, ℕ, true, List, length, set, replicate, sym, refl, ap, ◌∙◌}
use Rattle.std.proofs.lemmas.Bool.{false≢true}
use Rattle.mesi_rules.specs.declared.copies.PrivateLine.{PrivateLine}
use Rattle.mesi_rules.specs.declared.copies.PrivateLine.TheVariants.{Invalid, Shared, Exclusive, Modified}
use Rattle.mesi_rules.specs.Copies.{is_modified, held_or, owner_alone}
use Rattle.mesi_rules.specs.declared.calls.Call.TheVariants.{Store}
use Rattle.mesi_rules.specs.Rows.{LineRow, copy_at, home_line, seen_line, transaction, finished, owned}
use Rattle.mesi.proofs.Alone.{alone_modified}

pub own_modified : (r : LineRow) (c : ℕ) → length r.copies ≡ 8 → owner_alone r.copies ≡ true → is_modified (copy_at r c) ≡ true → r ≡ owned r c
own_modified r c n a m = by (copy_at r c) refl m
  where
    by : (x : PrivateLine) → copy_at r c ≡ x → is_modified x ≡ true → r ≡ owned r c
    by Invalid e h = absurd (false≢true h)
    by (Shared d) e h = absurd (false≢true h)
    by (Exclusive d) e h = absurd (false≢true h)
    by (Modified d) e h =
        let all : r.copies ≡ set (replicate 8 Invalid) c (Modified d) =
        alone_modified r.copies c a m ∙ (ap (λ (k : ℕ). set (replicate k Invalid) c (copy_at r c)) n ∙ ap (set (replicate 8 Invalid) c) e) in
        ap {B = LineRow} (λ (xs : List PrivateLine). record { copies = xs; llc = r.llc }) all
        ∙ sym (ap (λ (x : PrivateLine). finished (transaction x Store r c) c (seen_line (transaction x Store r c) c)) e ∙ ap (λ (x : PrivateLine). finished r c (held_or (home_line r) x)) e)
