-- Why a call is refused.
use Rattle.std.specs.Prelude.{Some, None, Ok, Err, Option, Result}
use Rattle.protocol.specs.declared.steps.Refusal.{Refusal}

-- The refusal that a result holds.
abbrev pub refusal_of : {X : Type 0} → Result X Refusal → Option Refusal
refusal_of (Ok x) = None
refusal_of (Err e) = Some e

-- The first refusal of two.
-- (The store buffer has a step like this one, `unless_named`: each leads to the table of refusals of its own rules.)
abbrev pub or_else : Option Refusal → Option Refusal → Option Refusal
or_else None o = o
or_else (Some e) o = Some e
