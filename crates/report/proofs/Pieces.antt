-- How long the pieces of a step's line are, and the line.
use Rattle.std.proofs.Common.{◌≡◌, ℕ, ◌+◌, Bool, true, false, cond, ltb, List, [], ◌∷◌, ◌++◌, length, Some, None, Option, refl, arith, length-append}
use Rattle.protocol.specs.declared.steps.Step.{Step}
use Rattle.protocol.specs.declared.steps.Step.TheVariants.{Load, Store, Acquire, Release, Evict, Move}
use Rattle.protocol.specs.declared.steps.Ended.{Ended}
use Rattle.protocol.specs.declared.steps.Ended.TheVariants.{Loaded, Stored, Acquired, Released, Evicted}
use Rattle.races.specs.declared.outcomes.Outcome.{Outcome}
use Rattle.races.specs.declared.outcomes.Outcome.TheVariants.{Refused, Waits, Ended as HasEnded, Moved, Finished}
use Rattle.races.specs.Table.{mark_of}
use Rattle.report.specs.Lines.{outcome_letter, shown_call, core_shown, call_letter, byte_of_ended, byte_shown, mark_shown, refusal_shown, space, line_end, step_line}

ended_two : (x : Ended) → length (byte_of_ended x) ≡ 2
ended_two (Loaded c a b) = refl
ended_two (Stored c a b) = refl
ended_two (Acquired c) = refl
ended_two (Released c) = refl
ended_two (Evicted c l) = refl

byte_two : (r : Outcome) → length (byte_shown r) ≡ 2
byte_two (Refused e) = refl
byte_two Waits = refl
byte_two (HasEnded x race) = ended_two x
byte_two Moved = refl
byte_two (Finished x race) = ended_two x

refusal_two : (r : Outcome) → length (refusal_shown r) ≡ 2
refusal_two (Refused e) = refl
refusal_two Waits = refl
refusal_two (HasEnded x race) = refl
refusal_two Moved = refl
refusal_two (Finished x race) = refl

-- The line of given pieces.
abbrev joined : List ℕ → List ℕ → List ℕ → List ℕ → List ℕ → List ℕ → List ℕ
joined o c l b m f = o ++ (space ++ (c ++ (space ++ (l ++ (space ++ (b ++ (space ++ (m ++ (space ++ (f ++ line_end))))))))))

one_if : (t : Bool) (x y : ℕ) → length (cond t (x ∷ []) (y ∷ [])) ≡ 1
one_if true x y = refl
one_if false x y = refl

letter_one : (r : Outcome) → length (outcome_letter r) ≡ 1
letter_one (Refused e) = refl
letter_one Waits = refl
letter_one (HasEnded x race) = refl
letter_one Moved = refl
letter_one (Finished x race) = refl

core_one : (o : Option Step) → length (core_shown o) ≡ 1
core_one None = refl
core_one (Some (Load c a)) = one_if (ltb c 8) (48 + c) 45
core_one (Some (Store c a b)) = one_if (ltb c 8) (48 + c) 45
core_one (Some (Acquire c)) = one_if (ltb c 8) (48 + c) 45
core_one (Some (Release c)) = one_if (ltb c 8) (48 + c) 45
core_one (Some (Evict c l)) = one_if (ltb c 8) (48 + c) 45
core_one (Some (Move p)) = refl

call_one : (o : Option Step) → length (call_letter o) ≡ 1
call_one None = refl
call_one (Some (Load c a)) = refl
call_one (Some (Store c a b)) = refl
call_one (Some (Acquire c)) = refl
call_one (Some (Release c)) = refl
call_one (Some (Evict c l)) = refl
call_one (Some (Move p)) = refl

mark_one : (t : Bool) → length (mark_shown t) ≡ 1
mark_one true = refl
mark_one false = refl

joined_length : (o c l b m f : List ℕ) → length o ≡ 1 → length c ≡ 1 → length l ≡ 1 → length b ≡ 2 → length m ≡ 1 → length f ≡ 2 → length (joined o c l b m f) ≡ 14
joined_length o c l b m f e₁ e₂ e₃ e₄ e₅ e₆ = simp length-append (omega arith)

-- A step's line has fourteen bytes.
pub line_length : (k : Step) (r : Outcome) → length (step_line k r) ≡ 14
line_length k r =
    joined_length (outcome_letter r) (core_shown (shown_call k r)) (call_letter (shown_call k r)) (byte_shown r) (mark_shown (mark_of r)) (refusal_shown r) (letter_one r) (core_one (shown_call k r)) (call_one (shown_call k r)) (byte_two r) (mark_one (mark_of r)) (refusal_two r)
