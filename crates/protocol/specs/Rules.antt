-- Protocols whose answers are a function of their state.
use Rattle.std.specs.Prelude.{◌≡◌, ℕ, Some, None, Option}
use Rattle.protocol.specs.declared.steps.Step.{Step}
use Rattle.protocol.specs.declared.steps.Refusal.{Refusal}
use Rattle.protocol.specs.declared.steps.Reply.{Reply}
use Rattle.protocol.specs.declared.steps.Reply.TheVariants.{Refused}
use Rattle.protocol.specs.Moment.{Moment}
use Rattle.protocol.specs.Meaning.{Machine, image_of, refused_in}

-- A step that is refused changes nothing; any other is done.
abbrev pub unless_refused : {S : Type 0} → Option Refusal → S → Reply × S → Reply × S
unless_refused (Some e) s done = (Refused e, s)
unless_refused None s done = done

-- The rules of a protocol, behind the table of refusals.
abbrev pub guarded : {S : Type 0} → (S → Moment) → (S → Step → Reply × S) → S → Step → Reply × S
guarded moment act s k = unless_refused (refused_in (moment s) k) s (act s k)

-- The machine whose clear leaves `start`, whose steps answer as `act` says behind the table of refusals, whose images answer
-- home, and whose next open place is `next`.
abbrev pub by_rules : {S : Type 0} → (S → Moment) → S → (S → Step → Reply × S) → (S → ℕ → Option ℕ) → Machine
by_rules {S} moment start act next =
    record {
      State = S;
      moment = moment;
      fresh = λ s. s ≡ start;
      steps = λ s k r t. (r, t) ≡ guarded moment act s k;
      images = λ s a r. r ≡ image_of (moment s) a;
      opens = λ s p o. o ≡ next s p;
    }
