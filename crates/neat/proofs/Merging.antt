-- A write-back is merged byte by byte, from offset 0 on.
use Rattle.std.proofs.Common.{◌≡◌, ℕ, ◌+◌, ◌<◌, ◌≤◌, Bool, true, false, cond, ltb, ◌⊎◌, List, length, set, sym, refl, ◌∙◌, subst, inl, inr, arith}
use mathlib.Core.Path.{fun_ext}
use Rattle.std.proofs.lemmas.List.{get_or-set_same, get_or-set_other, get_or_past}
use Rattle.std.proofs.lemmas.Bool.{cases_eq, ltb-true, ltb-false, lt-ltb, le-ltb, cond-true, cond-false}
use Rattle.neat_rules.specs.State.{Block, merged}
use Rattle.neat.specs.Blocks.{as_bytes, block_of}

-- The line d when the offsets below n are merged.
abbrev pub merged_below : ℕ → Block → (ℕ → ℕ) → ℕ → ℕ
merged_below n b d o = cond (ltb o n) (merged b d o) (d o)

pub none_merged : (b : Block) (d : ℕ → ℕ) (o : ℕ) → d o ≡ merged_below 0 b d o
none_merged b d o = sym (cond-false (ltb o 0) (merged b d o) (d o) (le-ltb o 0 (omega arith)))

-- Another offset than n is merged below n + 1 as below n.
others : (n : ℕ) (b : Block) (d : ℕ → ℕ) (o : ℕ) → (o ≡ n → ⊥) → merged_below n b d o ≡ merged_below (n + 1) b d o
others n b d o ne = go (ltb o n) refl
  where
    go : (t : Bool) → ltb o n ≡ t → cond t (merged b d o) (d o) ≡ merged_below (n + 1) b d o
    go true e = sym (cond-true (ltb o (n + 1)) (merged b d o) (d o) (lt-ltb o (n + 1) (omega (arith, ltb-true o n e))))
    go false e = sym (cond-false (ltb o (n + 1)) (merged b d o) (d o) (le-ltb o (n + 1) (omega (arith, ltb-false o n e))))

here : (n : ℕ) (b : Block) (d : ℕ → ℕ) → merged b d n ≡ merged_below (n + 1) b d n
here n b d = sym (cond-true (ltb n (n + 1)) (merged b d n) (d n) (lt-ltb n (n + 1) (omega arith)))

-- The byte at n is written, or left.
pub written_more : (n : ℕ) (b : Block) (d : ℕ → ℕ) (xs : List ℕ) (y : ℕ) → n < length xs → b.written n ≡ true → y ≡ b.bytes n → ((o : ℕ) → as_bytes xs o ≡ merged_below n b d o) → (o : ℕ) → as_bytes (set xs n y) o ≡ merged_below (n + 1) b d o
written_more n b d xs y l w e h o = go (cases_eq o n)
  where
    go : (o ≡ n) ⊎ (o ≡ n → ⊥) → as_bytes (set xs n y) o ≡ merged_below (n + 1) b d o
    go (inl q) = subst (λ (k : ℕ). as_bytes (set xs n y) k ≡ merged_below (n + 1) b d k) (sym q) (get_or-set_same xs n y 0 l ∙ e ∙ sym (cond-true (b.written n) (b.bytes n) (d n) w) ∙ here n b d)
    go (inr q) = get_or-set_other xs n o y 0 q ∙ h o ∙ others n b d o q

pub left_more : (n : ℕ) (b : Block) (d : ℕ → ℕ) (xs : List ℕ) → b.written n ≡ false → ((o : ℕ) → as_bytes xs o ≡ merged_below n b d o) → (o : ℕ) → as_bytes xs o ≡ merged_below (n + 1) b d o
left_more n b d xs w h o = go (cases_eq o n)
  where
    below : merged_below n b d n ≡ d n
    below = cond-false (ltb n n) (merged b d n) (d n) (le-ltb n n (omega arith))

    go : (o ≡ n) ⊎ (o ≡ n → ⊥) → as_bytes xs o ≡ merged_below (n + 1) b d o
    go (inl q) = subst (λ (k : ℕ). as_bytes xs k ≡ merged_below (n + 1) b d k) (sym q) (h n ∙ below ∙ sym (cond-false (b.written n) (b.bytes n) (d n) w) ∙ here n b d)
    go (inr q) = h o ∙ others n b d o q

-- Past the line there is nothing to merge.
pub all_merged : (n : ℕ) (ys : List ℕ) (m : ℕ) (ds xs : List ℕ) → 8 ≤ n → length ys ≡ 8 → length ds ≡ 8 → ((o : ℕ) → as_bytes xs o ≡ merged_below n (block_of ys m) (as_bytes ds) o) → as_bytes xs ≡ merged (block_of ys m) (as_bytes ds)
all_merged n ys m ds xs l p q h = fun_ext (λ o. h o ∙ go o (ltb o n) refl)
  where
    nothing : (o : ℕ) → 8 ≤ o → (t : Bool) → as_bytes ds o ≡ cond t (as_bytes ys o) (as_bytes ds o)
    nothing o g true = get_or_past ds o 0 (omega arith) ∙ sym (get_or_past ys o 0 (omega arith))
    nothing o g false = refl

    go : (o : ℕ) (t : Bool) → ltb o n ≡ t → cond t (merged (block_of ys m) (as_bytes ds) o) (as_bytes ds o) ≡ merged (block_of ys m) (as_bytes ds) o
    go o true e = refl
    go o false e = nothing o (omega (arith, ltb-false o n e)) ((block_of ys m).written o)
