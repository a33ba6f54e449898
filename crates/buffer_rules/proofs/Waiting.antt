-- What a core that waits above waits for below, and what its entries are then.
use Rattle.std.proofs.Common.{◌≡◌, ℕ, ◌<◌, ◌≤◌, Bool, true, false, cond, leb, List, [], ◌∷◌, length, Some, None, Option, refl, ap, ◌∙◌}
use Rattle.std.proofs.lemmas.Bool.{leb-false, lt-leb}
use Rattle.protocol.specs.declared.steps.Step.{Step}
use Rattle.protocol.specs.declared.steps.Step.TheVariants.{Load, Store, Acquire, Release, Evict, Move}
use Rattle.protocol.specs.declared.steps.Refusal.{Refusal}
use Rattle.protocol.specs.declared.steps.Refusal.TheVariants.{NoSuchCore, NoSuchAddress}
use Rattle.protocol.specs.Meaning.{busy}
use Rattle.protocol.specs.Steps.{caller}
use Rattle.buffer_rules.specs.declared.entries.Entry.{Entry}
use Rattle.buffer_rules.specs.Entries.{found}
use Rattle.buffer_rules.proofs.Held.{Sound}

-- The store of the oldest entry, or k where there is none.
abbrev pub oldest_or : ℕ → Step → List Entry → Step
oldest_or c k [] = k
oldest_or c k (e ∷ es) = Store c e.address e.byte

-- The call that a core waits for below, by the call that it waits for above.
abbrev pub call_below : List Entry → Option Step → Option Step
call_below q None = None
call_below q (Some (Load c a)) = Some (Load c a)
call_below q (Some (Store c a b)) = Some (oldest_or c (Store c a b) q)
call_below q (Some (Acquire c)) = Some (Acquire c)
call_below q (Some (Release c)) = Some (oldest_or c (Release c) q)
call_below q (Some (Evict c l)) = Some (Evict c l)
call_below q (Some (Move p)) = Some (Move p)

-- A load waits only where there is no entry for its address, a store only where there is none and all four entries are taken.
abbrev pub Fine : ℕ → List Entry → Option Step → Type 0
Fine c q None = Unit {0}
Fine c q (Some (Load d a)) = (d ≡ c) × (found a q ≡ None)
Fine c q (Some (Store d a b)) = (d ≡ c) × (a < 64) × (b < 256) × (found a q ≡ None) × (length q ≡ 4)
Fine c q (Some (Acquire d)) = d ≡ c
Fine c q (Some (Release d)) = d ≡ c
Fine c q (Some (Evict d l)) = ⊥
Fine c q (Some (Move p)) = ⊥

-- Core c with the entries q, waiting for w above and for b below.
pub record CoreSound (c : ℕ) (q : List Entry) (w b : Option Step) : Type 0 where
  pub sound : Sound q
  pub few : length q ≤ 4
  pub fine : Fine c q w
  pub same : b ≡ call_below q w

-- A core waits above exactly if it waits below.
pub none_below : (q : List Entry) (w : Option Step) → call_below q w ≡ None → w ≡ None
none_below q None h = refl
none_below q (Some (Load c a)) h = cc
none_below q (Some (Store c a b)) h = cc
none_below q (Some (Acquire c)) h = cc
none_below q (Some (Release c)) h = cc
none_below q (Some (Evict c l)) h = cc
none_below q (Some (Move p)) h = cc

-- The table of refusals, test by test.
passed : (n c : ℕ) (e : Refusal) (x : Option Refusal) → cond (leb n c) (Some e) x ≡ None → (c < n) × (x ≡ None)
passed n c e x h = go (leb n c) refl h
  where
    go : (t : Bool) → leb n c ≡ t → cond t (Some e) x ≡ None → (c < n) × (x ≡ None)
    go true q h = cc
    go false q h = (leb-false n c q, h)

not_busy : (w : Option Step) → busy w ≡ None → w ≡ None
not_busy None h = refl
not_busy (Some k) h = cc

pub pass : (n c : ℕ) (e : Refusal) (x : Option Refusal) → c < n → x ≡ None → cond (leb n c) (Some e) x ≡ None
pass n c e x l h = ap (λ (t : Bool). cond t (Some e) x) (lt-leb n c l) ∙ h

-- A core call that is not refused, of a core alone and of a core and an address or a line.
pub core_passed : (c : ℕ) (w : Option Step) → cond (leb 8 c) (Some NoSuchCore) (busy w) ≡ None → (c < 8) × (w ≡ None)
core_passed c w h = let x = passed 8 c NoSuchCore (busy w) h in (x.0, not_busy w x.1)

pub place_passed : (c n a : ℕ) (w : Option Step) → cond (leb 8 c) (Some NoSuchCore) (cond (leb n a) (Some NoSuchAddress) (busy w)) ≡ None → (c < 8) × (w ≡ None) × (a < n)
place_passed c n a w h =
    let x = passed 8 c NoSuchCore (cond (leb n a) (Some NoSuchAddress) (busy w)) h in
    let y = passed n a NoSuchAddress (busy w) x.1 in
    (x.0, not_busy w y.1, y.0)

-- A core waits for its own call.
pub own_call : (c : ℕ) (q : List Entry) (k : Step) → Fine c q (Some k) → caller k ≡ c
own_call c q (Load d a) h = h.0
own_call c q (Store d a b) h = h.0
own_call c q (Acquire d) h = h
own_call c q (Release d) h = h
own_call c q (Evict d l) h = absurd h
own_call c q (Move p) h = absurd h
