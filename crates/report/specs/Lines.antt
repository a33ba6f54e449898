-- The lines of a report, each with its line end, byte by byte.
use Rattle.std.specs.Prelude.{ℕ, ◌+◌, Bool, true, false, cond, List, [], ◌∷◌, ◌++◌, Some, None, codes, Option, nat_lt}
use Rattle.protocol.specs.declared.steps.Step.{Step}
use Rattle.protocol.specs.declared.steps.Step.TheVariants.{Load, Store, Acquire, Release, Evict, Move}
use Rattle.protocol.specs.declared.steps.Ended.{Ended}
use Rattle.protocol.specs.declared.steps.Ended.TheVariants.{Loaded, Stored, Acquired, Released, Evicted}
use Rattle.protocol.specs.Refusals.{refusal_number}
use Rattle.protocol.specs.Steps.{call_of}
use Rattle.races.specs.declared.outcomes.Outcome.{Outcome}
use Rattle.races.specs.declared.outcomes.Outcome.TheVariants.{Refused, Waits, Ended as HasEnded, Moved, Finished}
use Rattle.races.specs.Table.{mark_of}
use Rattle.report.specs.Digits.{byte_digits, decimal_digits}

-- R refused, W waits, E ended, M moved.
abbrev pub outcome_letter : Outcome → List ℕ
outcome_letter (Refused e) = codes "R"
outcome_letter Waits = codes "W"
outcome_letter (HasEnded x race) = codes "E"
outcome_letter Moved = codes "M"
outcome_letter (Finished x race) = codes "M"

-- The call that a line shows: the one that ended, else the step's own. A move that ends nothing shows none.
abbrev pub shown_call : Step → Outcome → Option Step
shown_call k (Refused e) = Some k
shown_call k Waits = Some k
shown_call k (HasEnded x race) = Some (call_of x)
shown_call k Moved = None
shown_call k (Finished x race) = Some (call_of x)

-- A core's digit, or - above 7.
abbrev pub core_digit : ℕ → List ℕ
core_digit c = cond (nat_lt c 8) ((48 + c) ∷ []) (codes "-")

abbrev pub core_shown : Option Step → List ℕ
core_shown None = codes "-"
core_shown (Some (Load c a)) = core_digit c
core_shown (Some (Store c a b)) = core_digit c
core_shown (Some (Acquire c)) = core_digit c
core_shown (Some (Release c)) = core_digit c
core_shown (Some (Evict c l)) = core_digit c
core_shown (Some (Move p)) = codes "-"

-- L load, S store, A acquire, P release, X evict.
abbrev pub call_letter : Option Step → List ℕ
call_letter None = codes "-"
call_letter (Some (Load c a)) = codes "L"
call_letter (Some (Store c a b)) = codes "S"
call_letter (Some (Acquire c)) = codes "A"
call_letter (Some (Release c)) = codes "P"
call_letter (Some (Evict c l)) = codes "X"
call_letter (Some (Move p)) = codes "-"

-- The byte of an ended load or store.
abbrev pub byte_of_ended : Ended → List ℕ
byte_of_ended (Loaded c a b) = byte_digits b
byte_of_ended (Stored c a b) = byte_digits b
byte_of_ended (Acquired c) = codes "--"
byte_of_ended (Released c) = codes "--"
byte_of_ended (Evicted c l) = codes "--"

abbrev pub byte_shown : Outcome → List ℕ
byte_shown (Refused e) = codes "--"
byte_shown Waits = codes "--"
byte_shown (HasEnded x race) = byte_of_ended x
byte_shown Moved = codes "--"
byte_shown (Finished x race) = byte_of_ended x

-- ! if a racing call ended, else .
abbrev pub mark_shown : Bool → List ℕ
mark_shown true = codes "!"
mark_shown false = codes "."

-- The two digits of the refusal, or 00.
abbrev pub refusal_shown : Outcome → List ℕ
refusal_shown (Refused e) = codes "0" ++ ((48 + refusal_number e) ∷ [])
refusal_shown Waits = codes "00"
refusal_shown (HasEnded x race) = codes "00"
refusal_shown Moved = codes "00"
refusal_shown (Finished x race) = codes "00"

abbrev pub space : List ℕ
space = codes " "

-- Each line ends with byte 0a.
abbrev pub line_end : List ℕ
line_end = 10 ∷ []

-- The line of a step: outcome, core, call, byte, mark and refusal, with one space between.
abbrev pub step_line : Step → Outcome → List ℕ
step_line k r =
    outcome_letter r ++ (space ++ (core_shown (shown_call k r) ++ (space ++ (call_letter (shown_call k r) ++ (space ++ (byte_shown r ++ (space ++ (mark_shown (mark_of r) ++ (space ++ (refusal_shown r ++ line_end))))))))))

-- The line of the counts: the core calls ended, and the number of the first race or 00000.
abbrev pub ended_line : ℕ → ℕ → List ℕ
ended_line ended race = codes "ended " ++ (decimal_digits ended ++ (codes " race " ++ (decimal_digits race ++ line_end)))
