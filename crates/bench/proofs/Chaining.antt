-- Chains grow by one step at their end, and carry studies on.
use Rattle.std.proofs.Common.{◌≡◌, ℕ, suc, ◌+◌, ◌<◌, ◌≤◌, Bool, true, List, [], ◌∷◌, ◌++◌, length, get_or, take, drop, set, is_some, Some, Option, sym, refl, ap, ◌∙◌, subst, arith}
use Rattle.std.proofs.lemmas.List.{take_more, take_more_set, drop-set-lt, drop-drop, length-set, take-append-drop, take_all, length-take-le}
use Rattle.protocol.specs.declared.steps.Step.{Step}
use Rattle.protocol.specs.declared.steps.Step.TheVariants.{Move}
use Rattle.protocol.specs.Meaning.{Machine, Meaning}
use Rattle.races.specs.declared.outcomes.Outcome.{Outcome}
use Rattle.races.specs.declared.table.RaceTable.{RaceTable}
use Rattle.races.specs.Study.{Takes}
use Rattle.bench.proofs.Holding.{holds, holds_along, chain_carries}
use Rattle.bench.proofs.Computing.{comes_to, settle_computed}
use Rattle.bench.specs.Chains.{Chain, nothing, then, AnyStep, FirstPlace, Noted, Ran, Settled}

module _ (M : Machine) (Chosen : M.State → Step → Type 0) where
  -- One step more.
  pub chain_more : {s t u : M.State} {w v x : RaceTable} {ks : List Step} {rs : List Outcome} {k : Step} {r : Outcome} → Chain M Chosen s w ks rs t v → Chosen t k → Takes M t v k r u x → Chain M Chosen s w (ks ++ k ∷ []) (rs ++ r ∷ []) u x
  chain_more nothing c h = then c h nothing
  chain_more (then d g l) c h = then d g (chain_more l c h)

  -- A chain has an outcome for each step.
  pub chain_length : {s t : M.State} {w v : RaceTable} {ks : List Step} {rs : List Outcome} → Chain M Chosen s w ks rs t v → length ks ≡ length rs
  chain_length nothing = refl
  chain_length (then c h l) = ap suc (chain_length l)

  -- A turn of a loop that writes the outcome of its step at its index: what was written so far is a chain, and the rest as it was.
  pub record SoFar (s : M.State) (w : RaceTable) (ks : List Step) (out : List Outcome) (i : ℕ) (t : M.State) (v : RaceTable) (now_out : List Outcome) : Type 0 where
    pub chain : Chain M Chosen s w ks (take i now_out) t v
    pub rest : drop i now_out ≡ drop i out
    pub long : length now_out ≡ length out

  pub far_more : {s t u : M.State} {w v x : RaceTable} {ks : List Step} {out now_out : List Outcome} (i : ℕ) {k : Step} {r : Outcome} → i < length now_out → SoFar s w ks out i t v now_out → Chosen t k → Takes M t v k r u x → SoFar s w (ks ++ k ∷ []) out (i + 1) u x (set now_out i r)
  far_more {s} {t} {u} {w} {v} {x} {ks} {out} {now_out} i {k} {r} l h c g =
      record {
        chain = subst (λ (z : List Outcome). Chain M Chosen s w (ks ++ k ∷ []) z u x) (sym (take_more_set now_out i r l)) (chain_more h.chain c g);
        rest = drop-set-lt (i + 1) now_out i r (omega arith) ∙ (sym (drop-drop 1 i now_out) ∙ (ap (drop 1) h.rest ∙ drop-drop 1 i out));
        long = length-set now_out i r ∙ h.long;
      }

  pub far_none : (s : M.State) (w : RaceTable) (out : List Outcome) → SoFar s w [] out 0 s w out
  far_none s w out = record { chain = nothing; rest = refl; long = refl }

  -- What was written and what was left make the whole list.
  pub far_written : {s t : M.State} {w v : RaceTable} {ks : List Step} {out new : List Outcome} (i : ℕ) → SoFar s w ks out i t v new → new ≡ take i new ++ drop i out
  far_written {new = new} i h = sym (take-append-drop i new) ∙ ap (λ (z : List Outcome). take i new ++ z) h.rest

-- A run's loop has come to its end.
pub run_done : (M : Machine) (means : Meaning M) (s t : M.State) (w v : RaceTable) (ks : List Step) (out new : List Outcome) (i : ℕ) → SoFar M (AnyStep M) s w (take i ks) out i t v new → i ≡ length ks → length ks ≤ length out → Ran M s w ks out t v new
run_done M means s t w v ks out new i h e l =
    let chain : Chain M (AnyStep M) s w ks (take i new) t v = subst (λ (z : List Step). Chain M (AnyStep M) s w z (take i new) t v) (take_all i ks (omega arith)) h.chain in
    record {
      rs = take i new;
      room = l;
      chain = chain;
      written = far_written M (AnyStep M) i h ∙ ap (λ (n : ℕ). take i new ++ drop n out) e;
      computed = comes_to M chain;
      carries = chain_carries M (AnyStep M) chain;
      holds = holds_along M means chain;
    }

-- A settling so far: some steps, each a move of the first open place.
abbrev pub Settling : (M : Machine) → M.State → RaceTable → List Outcome → ℕ → M.State → RaceTable → List Outcome → Type 0
Settling M s w out i t v new = (ks : List Step) × SoFar M (FirstPlace M) s w ks out i t v new

pub settle_more : (M : Machine) (s t u : M.State) (w v x : RaceTable) (out new later : List Outcome) (i p : ℕ) → i < length new → Settling M s w out i t v new → M.opens t 0 (Some p) → Noted M t v (Move p) new i u x later → Settling M s w out (i + 1) u x later
settle_more M s t u w v x out new later i p l h o n =
    subst (λ (z : List Outcome). Settling M s w out (i + 1) u x z) (sym n.written) (h.0 ++ Move p ∷ [], far_more M (FirstPlace M) i l h.1 (p, refl, o) n.takes)

-- A settling has come to its end: no place is open, or the outcomes are full.
pub settle_done : (M : Machine) (means : Meaning M) (s t : M.State) (w v : RaceTable) (out new : List Outcome) (i n : ℕ) (o : Option ℕ) (b : Bool) → Settling M s w out i t v new → n ≡ i → b ≡ is_some o → i ≤ length new → M.opens t 0 o → (b ≡ true → n ≡ length out) → Settled M s w out n b t v new
settle_done M means s t w v out new i n o b h e q l a f =
    let c = h.1.chain in
    record {
      ks = h.0;
      rs = take i new;
      chain = c;
      counted = e ∙ sym (length-take-le i new l);
      room = let k = h.1.long in omega arith;
      written = far_written M (FirstPlace M) i h.1 ∙ ap (λ (j : ℕ). take i new ++ drop j out) (sym e);
      next = o;
      asked = a;
      still_is = q;
      full = f;
      computed = comes_to M c;
      chosen = λ g find fs fi.
          settle_computed M g fs find fi (length out) o c a (let k = length-take-le i new l in let m = h.1.long in omega arith) (λ z. let k = length-take-le i new l in let y = f (q ∙ z) in omega arith);
      carries = chain_carries M (FirstPlace M) c;
      holds = holds_along M means c;
      left = λ log w'. (holds M means t v _ (chain_carries M (FirstPlace M) c log w')).opens 0 o a;
    }

-- A turn of a run.
pub run_more : (M : Machine) (s t u : M.State) (w v x : RaceTable) (ks : List Step) (out new later : List Outcome) (i : ℕ) (d : Step) → i < length ks → i < length new → SoFar M (AnyStep M) s w (take i ks) out i t v new → Noted M t v (get_or ks i d) new i u x later → SoFar M (AnyStep M) s w (take (i + 1) ks) out (i + 1) u x later
run_more M s t u w v x ks out new later i d k l h n =
    subst (λ (z : List Outcome). SoFar M (AnyStep M) s w (take (i + 1) ks) out (i + 1) u x z) (sym n.written)
    (subst (λ (z : List Step). SoFar M (AnyStep M) s w z out (i + 1) u x (set new i n.outcome)) (sym (take_more ks i d k)) (far_more M (AnyStep M) i l h tt n.takes))
