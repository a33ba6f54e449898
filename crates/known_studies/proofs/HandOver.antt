-- A handover under bus MESI: the rules say only that each call ends at once; the byte and the mark are the guarantee's.
use Rattle.std.proofs.Common.{◌≡◌, ℕ, Bool, false, [], ◌∷◌, refl, ap, ◌∙◌, subst}
use Rattle.protocol.specs.declared.steps.Step.{Step}
use Rattle.protocol.specs.declared.steps.Step.TheVariants.{Load, Store, Acquire, Release}
use Rattle.protocol.specs.declared.steps.Ended.{Ended}
use Rattle.protocol.specs.declared.steps.Ended.TheVariants.{Loaded, Stored, Acquired, Released}
use Rattle.protocol.specs.declared.steps.Reply.{Reply}
use Rattle.protocol.specs.declared.steps.Reply.TheVariants.{Ended as AtOnce}
use Rattle.protocol.specs.Meaning.{Meaning}
use Rattle.races.specs.declared.outcomes.Outcome.{Outcome}
use Rattle.races.specs.declared.outcomes.Outcome.TheVariants.{Refused, Waits, Ended as HasEnded, Moved, Finished}
use Rattle.races.specs.declared.table.RaceTable.{RaceTable}
use Rattle.races.specs.Log.{Log, empty_log, feed}
use Rattle.races.specs.Table.{reply_of, mark_of, start}
use Rattle.races.specs.Study.{Watched, Takes, ends_race}
use Rattle.races.proofs.StudyLaw.{coherent}
use Rattle.mesi_rules.specs.Bus.{State, start as bus_start, mesi_machine, load_answers}
use Rattle.bench.specs.Chains.{Chain, nothing, then, AnyStep}
use Rattle.bench.specs.Computed.{state_after, table_after}
use Rattle.bench.proofs.Computing.{comes_to}
use Rattle.known_studies.specs.Cases.{mesi_step, handover}

-- An outcome is its reply and its mark.
ended_is : (r : Outcome) (x : Ended) (race : Bool) → reply_of r ≡ AtOnce x → mark_of r ≡ race → r ≡ HasEnded x race
ended_is (Refused e) x race h m = cc
ended_is Waits x race h m = cc
ended_is (HasEnded y b) x race h m = let e : y ≡ x = cc in λ i. HasEnded (e i) (m i)
ended_is Moved x race h m = cc
ended_is (Finished y b) x race h m = cc

-- A study goes on by the answer that was given.
goes_on : {s t : State} {w v : RaceTable} (k : Step) (r : Outcome) (a : Reply) (log : Log) → Takes mesi_machine s w k r t v → reply_of r ≡ a → Watched mesi_machine s w log → Watched mesi_machine t v (feed log k a)
goes_on {s} {t} {w} {v} k r a log h e g = subst (λ (z : Reply). Watched mesi_machine t v (feed log k z)) e (h.carries log g)

pub handed_over : Meaning mesi_machine → {s₀ s₁ s₂ s₃ s₄ : State} {w₀ w₁ w₂ w₃ w₄ : RaceTable} {r₁ r₂ r₃ r₄ : Outcome} → Watched mesi_machine s₀ w₀ empty_log → Takes mesi_machine s₀ w₀ (Store 0 10 65) r₁ s₁ w₁ → Takes mesi_machine s₁ w₁ (Release 0) r₂ s₂ w₂ → Takes mesi_machine s₂ w₂ (Acquire 1) r₃ s₃ w₃ → Takes mesi_machine s₃ w₃ (Load 1 10) r₄ s₄ w₄ → r₄ ≡ HasEnded (Loaded 1 10 65) false
handed_over means {s₀} {s₁} {s₂} {s₃} {s₄} {w₀} {w₁} {w₂} {w₃} {w₄} {r₁} {r₂} {r₃} {r₄} g h₁ h₂ h₃ h₄ =
    let b = load_answers s₃ 1 10 in
    let e₁ : reply_of r₁ ≡ AtOnce (Stored 0 10 65) = ap (λ (x : Reply × State). x.0) h₁.answers in
    let e₂ : reply_of r₂ ≡ AtOnce (Released 0) = ap (λ (x : Reply × State). x.0) h₂.answers in
    let e₃ : reply_of r₃ ≡ AtOnce (Acquired 1) = ap (λ (x : Reply × State). x.0) h₃.answers in
    let e₄ : reply_of r₄ ≡ AtOnce (Loaded 1 10 b) = ap (λ (x : Reply × State). x.0) h₄.answers in
    let l₁ : Log = feed empty_log (Store 0 10 65) (AtOnce (Stored 0 10 65)) in
    let l₂ : Log = feed l₁ (Release 0) (AtOnce (Released 0)) in
    let l₃ : Log = feed l₂ (Acquire 1) (AtOnce (Acquired 1)) in
    let g₁ = goes_on (Store 0 10 65) r₁ (AtOnce (Stored 0 10 65)) empty_log h₁ e₁ g in
    let g₂ = goes_on (Release 0) r₂ (AtOnce (Released 0)) l₁ h₂ e₂ g₁ in
    let g₃ = goes_on (Acquire 1) r₃ (AtOnce (Acquired 1)) l₂ h₃ e₃ g₂ in
    let g₄ = goes_on (Load 1 10) r₄ (AtOnce (Loaded 1 10 b)) l₃ h₄ e₄ g₃ in
    let byte : b ≡ 65 = (coherent mesi_machine means g₄.study).loads [] (Acquired 1 ∷ (Released 0 ∷ (Stored 0 10 65 ∷ []))) 1 10 b refl refl in
    ended_is r₄ (Loaded 1 10 65) false (e₄ ∙ ap (λ (z : ℕ). AtOnce (Loaded 1 10 z)) byte) (h₄.mark_is l₃ g₃ ∙ ap (ends_race l₃) e₄)

-- What the four calls leave, by the rules.
pub handover_leaves : {s₀ s₁ s₂ s₃ s₄ : State} {w₀ w₁ w₂ w₃ w₄ : RaceTable} {r₁ r₂ r₃ r₄ : Outcome} → s₀ ≡ bus_start → w₀ ≡ start → Takes mesi_machine s₀ w₀ (Store 0 10 65) r₁ s₁ w₁ → Takes mesi_machine s₁ w₁ (Release 0) r₂ s₂ w₂ → Takes mesi_machine s₂ w₂ (Acquire 1) r₃ s₃ w₃ → Takes mesi_machine s₃ w₃ (Load 1 10) r₄ s₄ w₄ → (s₄ ≡ state_after mesi_step bus_start handover) × (w₄ ≡ table_after mesi_step bus_start start handover)
handover_leaves {s₀} {s₁} {s₂} {s₃} {s₄} {w₀} {w₁} {w₂} {w₃} {w₄} e q h₁ h₂ h₃ h₄ =
    let c : Chain mesi_machine (AnyStep mesi_machine) s₀ w₀ handover _ s₄ w₄ = then tt h₁ (then tt h₂ (then tt h₃ (then tt h₄ nothing))) in
    let x = comes_to mesi_machine c mesi_step (λ s k r t h. h) in
    (x.1 ∙ ap (λ (z : State). state_after mesi_step z handover) e, x.2 ∙ (λ i. table_after mesi_step (e i) (q i) handover))
