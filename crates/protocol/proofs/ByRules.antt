-- A protocol by rules keeps the meaning if its rules keep an invariant and each sentence under it: refusals are shown here once.
use Rattle.std.proofs.Common.{◌≡◌, ℕ, ◌<◌, false, Some, None, Option, sym, refl, ap, ◌∙◌, subst}
use Rattle.protocol.specs.declared.steps.Step.{Step}
use Rattle.protocol.specs.declared.steps.Refusal.{Refusal}
use Rattle.protocol.specs.declared.steps.Reply.{Reply}
use Rattle.protocol.specs.Moment.{Moment}
use Rattle.protocol.specs.Steps.{Fit}
use Rattle.protocol.specs.Meaning.{Machine, Meaning, Reached, cleared, stepped, Accepted, Cleared, Bytes, FirstOpen, refused_in}
use Rattle.protocol.specs.Rules.{unless_refused, guarded, by_rules}

-- What is owed of the rules `act` where a step is not refused.
pub record Kept {S : Type 0} (moment : S → Moment) (Inv : S → Type 0) (s : S) (k : Step) (r : Reply) (t : S) : Type 0 where
  pub again : Inv t
  pub accepted : Accepted k (moment s) (moment t) r
  pub reach : (moment t).reach ≡ (moment s).reach

pub record Keeps {S : Type 0} (moment : S → Moment) (start : S) (act : S → Step → Reply × S) (next : S → ℕ → Option ℕ) (Inv : S → Type 0) : Type 0 where
  pub starts : Inv start
  pub clear : Cleared (moment start)
  pub step : (s : S) (k : Step) → Inv s → Fit k → refused_in (moment s) k ≡ None → Kept moment Inv s k (act s k).0 (act s k).1
  pub idle : (s : S) → Inv s → ((p : ℕ) → p < 256 → (moment s).open_at p ≡ false) → (c : ℕ) → c < 8 → (moment s).waits c ≡ None
  pub bytes : (s : S) → Inv s → Bytes (moment s).view
  pub next_is : (s : S) (p : ℕ) → Inv s → FirstOpen (moment s) p (next s p)

module _ {S : Type 0} {moment : S → Moment} {start : S} {act : S → Step → Reply × S} {next : S → ℕ → Option ℕ} {Inv : S → Type 0} (K : Keeps moment start act next Inv) where
  abbrev M : Machine
  M = by_rules moment start act next

  -- The invariant after a step, by what the table of refusals says.
  inv_by : (s : S) (k : Step) (o : Option Refusal) → refused_in (moment s) k ≡ o → Inv s → Fit k → Inv (unless_refused o s (act s k)).1
  inv_by s k (Some e) h i f = i
  inv_by s k None h i f = (K.step s k i f h).again

  inv_after : (s : S) (k : Step) (r : Reply) (t : S) → Inv s → Fit k → (r, t) ≡ guarded moment act s k → Inv t
  inv_after s k r t i f e = subst Inv (sym (ap (λ (x : Reply × S). x.1) e)) (inv_by s k (refused_in (moment s) k) refl i f)

  reached_inv : {s : S} → Reached M s → Inv s
  reached_inv (cleared e) = subst Inv (sym e) K.starts
  reached_inv (stepped {s} {t} {k} {r} h f e) = inv_after s k r t (reached_inv h) f e

  -- The step as the table of refusals has it.
  by_table : (s : S) (k : Step) (r : Reply) (t : S) (o : Option Refusal) → (r, t) ≡ guarded moment act s k → refused_in (moment s) k ≡ o → (r, t) ≡ unless_refused o s (act s k)
  by_table s k r t o e h = e ∙ ap (λ (x : Option Refusal). unless_refused x s (act s k)) h

  reach_by : (s : S) (k : Step) (o : Option Refusal) → refused_in (moment s) k ≡ o → Inv s → Fit k → (moment (unless_refused o s (act s k)).1).reach ≡ (moment s).reach
  reach_by s k (Some e) h i f = refl
  reach_by s k None h i f = (K.step s k i f h).reach

  pub keeps_meaning : Meaning M
  keeps_meaning =
      record {
        clears = λ s e. subst (λ (x : S). Cleared (moment x)) (sym e) K.clear;
        refuses = λ s k r t p e h. (ap (λ (x : Reply × S). x.0) (by_table s k r t (Some e) p.step h), ap (λ (x : Reply × S). x.1) (by_table s k r t (Some e) p.step h));
        accepts = λ s k r t p h.
            subst (λ (x : Reply × S). Accepted k (moment s) (moment x.1) x.0) (sym (by_table s k r t None p.step h)) (K.step s k (reached_inv p.reached) p.fit h).accepted;
        reach_stays = λ s k r t p.
            ap (λ (x : Reply × S). (moment x.1).reach) p.step ∙ reach_by s k (refused_in (moment s) k) refl (reached_inv p.reached) p.fit;
        idle = λ s h. K.idle s (reached_inv h);
        bytes = λ s h. K.bytes s (reached_inv h);
        image = λ s a r h e. e;
        next = λ s p o h e. subst (FirstOpen (moment s) p) (sym e) (K.next_is s p (reached_inv h));
      }
