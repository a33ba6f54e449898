-- The meaning that every protocol keeps, sentence by sentence.
use Rattle.std.specs.Prelude.{◌≡◌, ℕ, ◌+◌, ◌<◌, ◌≤◌, Bool, true, false, cond, Some, None, Ok, Err, Option, Result, ◌≢◌, nat_le}
use Rattle.protocol.specs.declared.steps.Step.{Step}
use Rattle.protocol.specs.declared.steps.Step.TheVariants.{Load, Store, Acquire, Release, Evict, Move}
use Rattle.protocol.specs.declared.steps.Ended.{Ended}
use Rattle.protocol.specs.declared.steps.Ended.TheVariants.{Loaded, Stored, Acquired, Released, Evicted}
use Rattle.protocol.specs.declared.steps.Refusal.{Refusal}
use Rattle.protocol.specs.declared.steps.Refusal.TheVariants.{NoSuchCore, NoSuchAddress, CoreWaits, PlaceNotOpen}
use Rattle.protocol.specs.declared.steps.Reply.{Reply}
use Rattle.protocol.specs.declared.steps.Reply.TheVariants.{Refused, Waits, Ended as AtOnce, Moved, Finished}
use Rattle.protocol.specs.Moment.{View, Moment, Drifts, StoreLands}
use Rattle.protocol.specs.Steps.{call_of, core_of, caller, Fit}

-- A core that waits turns down a further call.
abbrev pub busy : Option Step → Option Refusal
busy None = None
busy (Some k) = Some CoreWaits

-- The refusal of a step, in the order in which they are checked: core, then address or line, then waiting; and for a move, the place.
abbrev pub refusal : (ℕ → Option Step) → (ℕ → Bool) → Step → Option Refusal
refusal waits open_at (Load c a) = cond (nat_le 8 c) (Some NoSuchCore) (cond (nat_le 64 a) (Some NoSuchAddress) (busy (waits c)))
refusal waits open_at (Store c a b) = cond (nat_le 8 c) (Some NoSuchCore) (cond (nat_le 64 a) (Some NoSuchAddress) (busy (waits c)))
refusal waits open_at (Acquire c) = cond (nat_le 8 c) (Some NoSuchCore) (busy (waits c))
refusal waits open_at (Release c) = cond (nat_le 8 c) (Some NoSuchCore) (busy (waits c))
refusal waits open_at (Evict c l) = cond (nat_le 8 c) (Some NoSuchCore) (cond (nat_le 8 l) (Some NoSuchAddress) (busy (waits c)))
refusal waits open_at (Move p) = cond (open_at p) None (Some PlaceNotOpen)

-- What an ended call brings, from before the step to after it. A load answers what its core sees afterwards. A store makes its
-- core owe and see the byte there, at one moment between drifts. After an acquire its core sees home wherever it owes nothing.
-- After a release its core owes nothing.
abbrev pub Brings : Ended → View → View → Type 0
Brings (Loaded c a b) m n = (Drifts m n) × (b ≡ n.sees c a)
Brings (Stored c a b) m n = (x : View) × (y : View) × (Drifts m x) × (StoreLands c a b x y) × (Drifts y n)
Brings (Acquired c) m n = (Drifts m n) × ((a : ℕ) → a < 64 → n.owes c a ≡ false → n.sees c a ≡ n.home a)
Brings (Released c) m n = (Drifts m n) × ((a : ℕ) → a < 64 → n.owes c a ≡ false)
Brings (Evicted c l) m n = Drifts m n

-- No core's waiting changed.
abbrev pub WaitingStays : Moment → Moment → Type 0
WaitingStays m n = (d : ℕ) → d < 8 → n.waits d ≡ m.waits d

-- Only the waiting of core c changed, to w.
pub record WaitingBecomes (c : ℕ) (w : Option Step) (m n : Moment) : Type 0 where
  pub there : n.waits c ≡ w
  pub elsewhere : (d : ℕ) → d < 8 → (d ≢ c) → n.waits d ≡ m.waits d

-- An evict always ends at once, and a move is no call.
abbrev pub CanWait : Step → Type 0
CanWait (Load c a) = Unit {0}
CanWait (Store c a b) = Unit {0}
CanWait (Acquire c) = Unit {0}
CanWait (Release c) = Unit {0}
CanWait (Evict c l) = ⊥
CanWait (Move p) = ⊥

-- A core call k that leaves its core waiting for it.
pub record Begins (k : Step) (m n : Moment) : Type 0 where
  pub can_wait : CanWait k
  pub drifts : Drifts m.view n.view
  pub waiting : WaitingBecomes (caller k) (Some k) m n
  pub paid : n.due ≤ m.due + m.reach

-- A core call k that ends at once, as e.
pub record Ends (k : Step) (e : Ended) (m n : Moment) : Type 0 where
  pub same : call_of e ≡ k
  pub brings : Brings e m.view n.view
  pub waiting : WaitingStays m n
  pub paid : n.due ≤ m.due + m.reach

-- A move that ends no call.
pub record Passes (m n : Moment) : Type 0 where
  pub drifts : Drifts m.view n.view
  pub waiting : WaitingStays m n
  pub falls : n.due + 1 ≤ m.due

-- A move that ends the call e, for which its core waited.
pub record Finishes (e : Ended) (m n : Moment) : Type 0 where
  pub core : core_of e < 8
  pub waited : m.waits (core_of e) ≡ Some (call_of e)
  pub brings : Brings e m.view n.view
  pub waiting : WaitingBecomes (core_of e) None m n
  pub falls : n.due + 1 ≤ m.due

-- An accepted core call ends at once or leaves its core waiting.
abbrev pub Called : Step → Moment → Moment → Reply → Type 0
Called k m n (Refused e) = ⊥
Called k m n Waits = Begins k m n
Called k m n (AtOnce e) = Ends k e m n
Called k m n Moved = ⊥
Called k m n (Finished e) = ⊥

-- An accepted move ends at most one call.
abbrev pub Delivered : Moment → Moment → Reply → Type 0
Delivered m n (Refused e) = ⊥
Delivered m n Waits = ⊥
Delivered m n (AtOnce e) = ⊥
Delivered m n Moved = Passes m n
Delivered m n (Finished e) = Finishes e m n

abbrev pub Accepted : Step → Moment → Moment → Reply → Type 0
Accepted (Load c a) m n r = Called (Load c a) m n r
Accepted (Store c a b) m n r = Called (Store c a b) m n r
Accepted (Acquire c) m n r = Called (Acquire c) m n r
Accepted (Release c) m n r = Called (Release c) m n r
Accepted (Evict c l) m n r = Called (Evict c l) m n r
Accepted (Move p) m n r = Delivered m n r

-- What a clear leaves: sees and home are 00, nothing is owed, no core waits, no place is open, due is 0.
pub record Cleared (m : Moment) : Type 0 where
  pub sees_zero : (c a : ℕ) → c < 8 → a < 64 → m.view.sees c a ≡ 0
  pub home_zero : (a : ℕ) → a < 64 → m.view.home a ≡ 0
  pub no_debt : (c a : ℕ) → c < 8 → a < 64 → m.view.owes c a ≡ false
  pub no_wait : (c : ℕ) → c < 8 → m.waits c ≡ None
  pub none_open : (p : ℕ) → p < 256 → m.open_at p ≡ false
  pub due_zero : m.due ≡ 0

-- Sees and home are bytes.
pub record Bytes (v : View) : Type 0 where
  pub seen : (c a : ℕ) → c < 8 → a < 64 → v.sees c a < 256
  pub at_home : (a : ℕ) → a < 64 → v.home a < 256

-- Image of an address answers home, or is refused above 63.
abbrev pub image_of : Moment → ℕ → Result ℕ Refusal
image_of m a = cond (nat_le 64 a) (Err NoSuchAddress) (Ok (m.view.home a))

-- Next open of a place answers the first open place at or after it, or none if there is none.
abbrev pub FirstOpen : Moment → ℕ → Option ℕ → Type 0
FirstOpen m p None = (q : ℕ) → p ≤ q → q < 256 → m.open_at q ≡ false
FirstOpen m p (Some q) = (p ≤ q) × (q < 256) × (m.open_at q ≡ true) × ((j : ℕ) → p ≤ j → j < q → m.open_at j ≡ false)

-- A protocol, for a proof: its states; what it has in each; the states that a clear may leave; `steps s k r t`, in s the step k
-- may answer r and leave t; and what an image of an address and a next open of a place may answer in s.
pub record Machine : Type 1 where
  pub State : Type 0
  pub moment : State → Moment
  pub fresh : State → Type 0
  pub steps : State → Step → Reply → State → Type 0
  pub images : State → ℕ → Result ℕ Refusal → Type 0
  pub opens : State → ℕ → Option ℕ → Type 0

-- The states that a clear and any steps after it can lead to.
pub data Reached (M : Machine) : M.State → Type 0 where
  cleared : {s : M.State} → M.fresh s → Reached M s
  stepped : {s t : M.State} {k : Step} {r : Reply} → Reached M s → Fit k → M.steps s k r t → Reached M t

-- A step that may be taken in a reached state.
pub record Possible (M : Machine) (s : M.State) (k : Step) (r : Reply) (t : M.State) : Type 0 where
  pub reached : Reached M s
  pub fit : Fit k
  pub step : M.steps s k r t

-- The step's refusal in a moment.
abbrev pub refused_in : Moment → Step → Option Refusal
refused_in m k = refusal m.waits m.open_at k

-- The meaning. From a clear on: refusals come exactly as tabled and change nothing; what is accepted changes the moment as said
-- above; reach is constant; where no place is open, no core waits; image and next open answer as said.
pub record Meaning (M : Machine) : Type 0 where
  pub clears : (s : M.State) → M.fresh s → Cleared (M.moment s)
  pub refuses : (s : M.State) (k : Step) (r : Reply) (t : M.State) → Possible M s k r t → (e : Refusal) → refused_in (M.moment s) k ≡ Some e → (r ≡ Refused e) × (t ≡ s)
  pub accepts : (s : M.State) (k : Step) (r : Reply) (t : M.State) → Possible M s k r t → refused_in (M.moment s) k ≡ None → Accepted k (M.moment s) (M.moment t) r
  pub reach_stays : (s : M.State) (k : Step) (r : Reply) (t : M.State) → Possible M s k r t → (M.moment t).reach ≡ (M.moment s).reach
  pub idle : (s : M.State) → Reached M s → ((p : ℕ) → p < 256 → (M.moment s).open_at p ≡ false) → (c : ℕ) → c < 8 → (M.moment s).waits c ≡ None
  pub bytes : (s : M.State) → Reached M s → Bytes (M.moment s).view
  pub image : (s : M.State) (a : ℕ) (r : Result ℕ Refusal) → Reached M s → M.images s a r → r ≡ image_of (M.moment s) a
  pub next : (s : M.State) (p : ℕ) (o : Option ℕ) → Reached M s → M.opens s p o → FirstOpen (M.moment s) p o
