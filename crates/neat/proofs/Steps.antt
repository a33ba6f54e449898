-- An accepted call is a step of the machine, and leads from a reached state to a reached one.
use Rattle.std.proofs.Common.{◌≡◌, ℕ, ◌<◌, ◌≤◌, Bool, true, false, cond, leb, Some, None, Ok, Err, Option, Result, sym, refl, ap, ◌∙◌, ap₂, arith}
use mathlib.Core.Logic.{∥∥₁_map, ∥∥₁_elim}
use native.Mathlib.Bridge.{le_prop}
use Rattle.std.proofs.lemmas.Bool.{cond-false}
use Rattle.protocol.specs.Cells.{numbered, named_below}
use Rattle.protocol.specs.Steps.{Fit}
use Rattle.protocol.specs.Meaning.{Reached, cleared, stepped, busy, refused_in}
use Rattle.protocol.specs.Rules.{unless_refused, guarded}
use Rattle.protocol.specs.declared.steps.Refusal.{Refusal}
use Rattle.protocol.specs.declared.steps.Refusal.TheVariants.{NoSuchCore, NoSuchAddress}
use Rattle.protocol.specs.declared.steps.Reply.{Reply}
use Rattle.protocol.specs.declared.steps.Step.{Step}
use Rattle.protocol.specs.declared.steps.Step.TheVariants.{Load, Store, Acquire, Release, Evict}
use Rattle.neat_rules.specs.State.{Core, State, start}
use Rattle.neat_rules.specs.Rules.{act, at_core, load, store, acquire, release, evict}
use Rattle.neat_rules.specs.Reading.{moment}
use Rattle.neat_rules.specs.Machine.{neat}
use Rattle.neat_rules.proofs.Keeps.{reached_holds, received_few}
use Rattle.neat.specs.Calls.{refusal_of, or_else}

pub reached_start : (s : State) → s ≡ start → ∥ Reached neat s ∥₁
reached_start s e = ∣ cleared e ∣₁

pub reached_step : (s : State) (k : Step) (q : Reply × State) → Fit k → ∥ Reached neat s ∥₁ → q ≡ guarded moment act s k → ∥ Reached neat q.1 ∥₁
reached_step s k q f h e = ∥∥₁_map h (λ r. stepped r f e)

pub reached_few : (s : State) (c : ℕ) → ∥ Reached neat s ∥₁ → (s.cores c).received < 255
reached_few s c h = ∥∥₁_elim h le_prop (λ r. few (s.cores c).received (received_few (s.cores c) ((reached_holds r).cores c)))
  where
    few : (n : ℕ) → n ≤ 8 → n < 255
    few n l = omega arith

-- A step that is not refused is done.
pub accepted : (s : State) (k : Step) (q : Reply × State) → refused_in (moment s) k ≡ None → q ≡ act s k → q ≡ guarded moment act s k
accepted s k q h e = e ∙ sym (ap (λ (o : Option Refusal). unless_refused o s (act s k)) h)

-- A number that was accepted is below the bound, and the same.
named : (b n x : ℕ) (e : Refusal) → Ok x ≡ cond (leb b n) (Err e) (Ok n) → (leb b n ≡ false) × (x ≡ n)
named b n x e h = go (leb b n) h
  where
    go : (t : Bool) → Ok x ≡ cond t (Err e) (Ok n) → (t ≡ false) × (x ≡ n)
    go true h = absurd cc
    go false h = (refl, cc)

-- What a call names is there, and has the number that was given.
named_there : {X : Type 0} (f : X → ℕ) (b n : ℕ) (e : Refusal) (r : Result X Refusal) (x : X) → numbered f r ≡ named_below b e n → r ≡ Ok x → (leb b n ≡ false) × (f x ≡ n)
named_there f b n e r x h i = named b n (f x) e (sym (ap (numbered f) i) ∙ h)

-- A core whose call is not refused is there, and does not wait.
core_free : (c : ℕ) (o : Option Refusal) → None ≡ cond (leb 8 c) (Some NoSuchCore) o → (leb 8 c ≡ false) × (o ≡ None)
core_free c o h = go (leb 8 c) h
  where
    go : (t : Bool) → None ≡ cond t (Some NoSuchCore) o → (t ≡ false) × (o ≡ None)
    go true h = absurd cc
    go false h = (refl, sym h)

-- The same where the call names something that is there.
caller_free : {X : Type 0} (c : ℕ) (o : Option Refusal) (r : Result X Refusal) (x : X) → None ≡ cond (leb 8 c) (Some NoSuchCore) (or_else (refusal_of r) o) → r ≡ Ok x → (leb 8 c ≡ false) × (o ≡ None)
caller_free c o r x h i = core_free c o (h ∙ ap (λ (p : Option Refusal). cond (leb 8 c) (Some NoSuchCore) (or_else p o)) (ap refusal_of i))

-- A call about what r names, which is x, by the core n, which is the core c that was named.
module _ {X : Type 0} (f : X → ℕ) (s : State) (c n : ℕ) (r : Result X Refusal) (x : X) (refused : None ≡ cond (leb 8 c) (Some NoSuchCore) (or_else (refusal_of r) (busy ((moment s).waits c)))) (called : (n ≡ c) × (r ≡ Ok x)) where
  -- The call about the number a is not refused.
  passes : (b a : ℕ) → numbered f r ≡ named_below b NoSuchAddress a → cond (leb 8 c) (Some NoSuchCore) (cond (leb b a) (Some NoSuchAddress) (busy ((moment s).waits c))) ≡ None
  passes b a h =
      let free = caller_free c (busy ((moment s).waits c)) r x refused called.1 in
      cond-false (leb 8 c) (Some NoSuchCore) (cond (leb b a) (Some NoSuchAddress) (busy ((moment s).waits c))) free.0 ∙ cond-false (leb b a) (Some NoSuchAddress) (busy ((moment s).waits c)) (named_there f b a NoSuchAddress r x h called.1).0 ∙ free.1

  -- What the rule R does at n and x it does at c and a.
  there : (R : ℕ → ℕ → Core → Reply × Core) (b a : ℕ) → numbered f r ≡ named_below b NoSuchAddress a → at_core s n (R n (f x) (s.cores n)) ≡ at_core s c (R c a (s.cores c))
  there R b a h = ap₂ (λ (d k : ℕ). at_core s d (R d k (s.cores d))) called.0 (named_there f b a NoSuchAddress r x h called.1).1

  pub load_step : (a : ℕ) (q : Reply × State) → numbered f r ≡ named_below 64 NoSuchAddress a → q ≡ at_core s n (load n (f x) (s.cores n)) → q ≡ guarded moment act s (Load c a)
  load_step a q h e = accepted s (Load c a) q (passes 64 a h) (e ∙ there load 64 a h)

  pub store_step : (a y : ℕ) (q : Reply × State) → numbered f r ≡ named_below 64 NoSuchAddress a → q ≡ at_core s n (store n (f x) y (s.cores n)) → q ≡ guarded moment act s (Store c a y)
  store_step a y q h e = accepted s (Store c a y) q (passes 64 a h) (e ∙ there (λ d k. store d k y) 64 a h)

  pub evict_step : (l : ℕ) (q : Reply × State) → numbered f r ≡ named_below 8 NoSuchAddress l → q ≡ at_core s n (evict n (f x) (s.cores n)) → q ≡ guarded moment act s (Evict c l)
  evict_step l q h e = accepted s (Evict c l) q (passes 8 l h) (e ∙ there evict 8 l h)

-- A call that names a core alone.
module _ (s : State) (c n : ℕ) (core : n ≡ c) (refused : None ≡ cond (leb 8 c) (Some NoSuchCore) (busy ((moment s).waits c))) where
  pub acquire_step : (q : Reply × State) → q ≡ at_core s n (acquire (s.cores n)) → q ≡ guarded moment act s (Acquire c)
  acquire_step q e = accepted s (Acquire c) q (sym refused) (e ∙ ap (λ (d : ℕ). at_core s d (acquire (s.cores d))) core)

  pub release_step : (q : Reply × State) → q ≡ at_core s n (release (s.cores n)) → q ≡ guarded moment act s (Release c)
  release_step q e = accepted s (Release c) q (sym refused) (e ∙ ap (λ (d : ℕ). at_core s d (release (s.cores d))) core)
