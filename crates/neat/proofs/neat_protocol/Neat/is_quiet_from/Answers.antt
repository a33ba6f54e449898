-- The places of a quiet core are skipped.
use Rattle.std.proofs.Common.{◌≡◌, ℕ, ◌/◌, ◌<◌, Bool, true, false, Ok, Err, Result, sym, ◌∙◌, subst, rules, arith}
use Rattle.std.specs.Result.{MatchResult}
use Rattle.std.proofs.lemmas.Bool.{false≢true}
use Rattle.protocol.proofs.InRange.{accepted_number}
use Rattle.protocol.specs.Cells.{core_named, numbered}
use Rattle.protocol.specs.declared.cells.Core.{Core}
use Rattle.protocol.specs.declared.steps.Refusal.{Refusal}
use Rattle.protocol.specs.declared.steps.Refusal.TheVariants.{NoSuchCore}
use Rattle.neat_rules.specs.State.{State}
use Rattle.neat.specs.Parts.{quiet}
use Rattle.neat.specs.Whole.{as_state}
use Rattle.neat.proofs.Quiet.{search_skips}
use Rattle.neat.proofs.neat_protocol.Neat.is_quiet_from.Goals as goal

quiet_there : (s : State) (n : ℕ) (r : Result Core Refusal) (t : Bool) (P : Core → Type 0) → MatchResult r P (λ _. t ≡ false) → numbered (λ x. x.number) r ≡ core_named n → ((x : Core) → P x → t ≡ quiet (s.cores x.number)) → t ≡ true → (n < 8) × (quiet (s.cores n) ≡ true)
quiet_there s n (Ok x) t P m h f e = let k = accepted_number 8 n x.number NoSuchCore h in (k.1, subst (λ (d : ℕ). quiet (s.cores d) ≡ true) k.0 (sym (f x m) ∙ e))
quiet_there s n (Err d) t P m h f e = absurd (false≢true (sym m ∙ e))

pub returns-then-number-eq0 : goal.returns-then-number-eq0
returns-then-number-eq0 c e =
    let s = as_state c.args.self.now.caches in
    let there = quiet_there s (c.args.number / 9) c.try_from.result c.is_ok_and.result _ c.is_ok_and.ensures c.try_from.ensures (λ x p. search rules) e in
    let below = there.0 in
    (omega arith, search_skips s c.args.number c.if-number-eq0.true (omega arith) there.1)
