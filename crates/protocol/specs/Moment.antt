-- What a protocol has at one moment, and the two ways in which that changes: drift, and a store's one moment.
use Rattle.std.specs.Prelude.{◌≡◌, ℕ, ◌<◌, Bool, true, false, ◌⊎◌, Option}
use Rattle.protocol.specs.declared.steps.Step.{Step}

-- What the cores and the shared cache have of memory. Cores are 0 to 7 and addresses 0 to 63.
-- sees: the byte that a core has of an address.
-- home: the byte that the whole has of an address, which an image answers.
-- owes: the core has stored to the address, and home may not have that byte yet.
pub record View : Type 0 where
  pub sees : ℕ → ℕ → ℕ
  pub home : ℕ → ℕ
  pub owes : ℕ → ℕ → Bool

-- waits: the call that a core waits for, or none.
-- open_at: a place, 0 to 255, carries a message that can be moved.
-- due: a bound on the moves that are still to come.
-- reach: a bound on what one core call adds to due.
pub record Moment : Type 0 where
  pub view : View
  pub waits : ℕ → Option Step
  pub open_at : ℕ → Bool
  pub due : ℕ
  pub reach : ℕ

abbrev pub Owed : View → ℕ → Type 0
Owed m a = (c : ℕ) × (c < 8) × (m.owes c a ≡ true)

abbrev pub NobodyOwes : View → ℕ → Type 0
NobodyOwes m a = (c : ℕ) → c < 8 → m.owes c a ≡ false

-- One change of what is seen, at home and owed, address by address: no core begins to owe; where no core owed, home stays;
-- where some owed and none does after, home becomes what one of those saw; where one still owes, home may become any byte;
-- a core that still owes sees what it saw; any other core sees what it saw or the new home.
pub record Drift (m n : View) : Type 0 where
  pub no_new_debt : (c a : ℕ) → c < 8 → a < 64 → n.owes c a ≡ true → m.owes c a ≡ true
  pub home_stays : (a : ℕ) → a < 64 → NobodyOwes m a → n.home a ≡ m.home a
  pub home_taken : (a : ℕ) → a < 64 → Owed m a → NobodyOwes n a → (c : ℕ) × (c < 8) × (m.owes c a ≡ true) × (n.home a ≡ m.sees c a)
  pub debtor_sees : (c a : ℕ) → c < 8 → a < 64 → n.owes c a ≡ true → n.sees c a ≡ m.sees c a
  pub other_sees : (c a : ℕ) → c < 8 → a < 64 → n.owes c a ≡ false → (n.sees c a ≡ m.sees c a) ⊎ (n.sees c a ≡ n.home a)

-- Drift, any number of times.
pub data Drifts : View → View → Type 0 where
  stay : {m : View} → Drifts m m
  drift : {m n o : View} → Drifts m n → Drift n o → Drifts m o

-- The core or the address is another one.
abbrev pub Elsewhere : ℕ → ℕ → ℕ → ℕ → Type 0
Elsewhere c a d e = (d < 8) × (e < 64) × ((d ≡ c) × (e ≡ a) → ⊥)

-- A store's one moment: core c owes and sees the byte b at a, and all else is as it was.
pub record StoreLands (c a b : ℕ) (m n : View) : Type 0 where
  pub owes_there : n.owes c a ≡ true
  pub sees_there : n.sees c a ≡ b
  pub owes_elsewhere : (d e : ℕ) → Elsewhere c a d e → n.owes d e ≡ m.owes d e
  pub sees_elsewhere : (d e : ℕ) → Elsewhere c a d e → n.sees d e ≡ m.sees d e
  pub home_same : (e : ℕ) → e < 64 → n.home e ≡ m.home e
