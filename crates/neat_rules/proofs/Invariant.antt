-- What holds of every reached state of Neat.
use Rattle.std.proofs.Common.{◌≡◌, ℕ, ◌+◌, ◌<◌, ◌≤◌, false, cond, eqb, refl, arith}
use Rattle.protocol.specs.Cells.{line_of}
use Rattle.neat_rules.specs.State.{total, Block, Line, I, V, Place, Empty, GetLine, Data, Put, PutAck, Commit, Closing, Shut, Close, Noted, PutAllAck, Activity, Idle, Loading, Storing, Acquiring, Releasing, Core, State, start}
use Rattle.neat_rules.specs.Rules.{outstanding}

-- The stage of a slot: at rest, fetched for a waiting load or store, or closed by an acquire or release.
pub data Stage : Type 0 where
  resting : Stage
  fetching : Stage
  closed : Stage

abbrev pub stage : Activity → ℕ → Stage
stage Idle l = resting
stage (Loading a) l = cond (eqb l (line_of a)) fetching resting
stage (Storing a y) l = cond (eqb l (line_of a)) fetching resting
stage Acquiring l = closed
stage Releasing l = closed

abbrev pub Fetching : Stage → Type 0
Fetching resting = ⊥
Fetching fetching = Unit {0}
Fetching closed = ⊥

abbrev pub NotFetching : Stage → Type 0
NotFetching resting = Unit {0}
NotFetching fetching = ⊥
NotFetching closed = Unit {0}

abbrev pub Closed : Stage → Type 0
Closed resting = ⊥
Closed fetching = ⊥
Closed closed = Unit {0}

-- No write bit of a block is set.
abbrev pub Clean : Block → Type 0
Clean b = (o : ℕ) → o < 8 → b.written o ≡ false

-- A V line is at rest, or clean in an acquire or release.
abbrev pub Alone : Stage → Block → Type 0
Alone resting b = Unit {0}
Alone fetching b = ⊥
Alone closed b = Clean b

-- A Commit beside a V line, in a release, has the line's bytes, and the line is clean.
abbrev pub KeptBeside : Stage → Block → Block → Type 0
KeptBeside resting b e = ⊥
KeptBeside fetching b e = ⊥
KeptBeside closed b e = (Clean b) × ((o : ℕ) → b.bytes o ≡ e.bytes o)

-- Which messages may be in the place of a line, by its stage. Put and PutAck only beside I; GetLine and Data only while the line is
-- fetched; Commit only in an acquire or release.
abbrev pub Allowed : Stage → Line → Place → Type 0
Allowed g I Empty = NotFetching g
Allowed g I GetLine = Fetching g
Allowed g I (Data d) = Fetching g
Allowed g I (Put b) = Unit {0}
Allowed g I PutAck = Unit {0}
Allowed g I (Commit b) = Closed g
Allowed g (V b) Empty = Alone g b
Allowed g (V b) GetLine = ⊥
Allowed g (V b) (Data d) = ⊥
Allowed g (V b) (Put e) = ⊥
Allowed g (V b) PutAck = ⊥
Allowed g (V b) (Commit e) = KeptBeside g b e

-- Every byte is below 256.
abbrev pub Bytewise : (ℕ → ℕ) → Type 0
Bytewise d = (o : ℕ) → d o < 256

abbrev pub BytesLine : Line → Type 0
BytesLine I = Unit {0}
BytesLine (V b) = Bytewise b.bytes

abbrev pub BytesPlace : Place → Type 0
BytesPlace Empty = Unit {0}
BytesPlace GetLine = Unit {0}
BytesPlace (Data d) = Bytewise d
BytesPlace (Put b) = Bytewise b.bytes
BytesPlace PutAck = Unit {0}
BytesPlace (Commit b) = Bytewise b.bytes

pub record SlotOk (g : Stage) (k : Line) (p : Place) : Type 0 where
  pub allowed : Allowed g k p
  pub line_bytes : BytesLine k
  pub place_bytes : BytesPlace p

-- One for each Commit.
abbrev pub commit_in : Place → ℕ
commit_in Empty = 0
commit_in GetLine = 0
commit_in (Data d) = 0
commit_in (Put b) = 0
commit_in PutAck = 0
commit_in (Commit b) = 1

abbrev pub commits : Core → ℕ
commits x = total 8 (λ l. commit_in (x.slot l).place)

abbrev pub puts : Core → ℕ
puts x = total 8 (λ l. outstanding (x.slot l).place)

-- In an acquire or release with r Commits received, n on their way and q Puts and PutAcks left: the number of the Close is that of
-- all Commits, and noted only while one is on its way; PutAllAck is there once all are received; and after it a Put or PutAck is left.
abbrev pub Agrees : Closing → ℕ → ℕ → ℕ → Type 0
Agrees Shut r n q = (r ≡ 0) × (n ≡ 0) × (0 < q)
Agrees (Close k) r n q = (k ≡ r + n) × (k ≤ 8)
Agrees (Noted k) r n q = (k ≡ r + n) × (k ≤ 8) × (0 < n)
Agrees PutAllAck r n q = (r ≡ 0) × (n ≡ 0)

-- Outside an acquire or release there is no Close and no count.
abbrev pub NoClose : Closing → ℕ → Type 0
NoClose Shut r = r ≡ 0
NoClose (Close k) r = ⊥
NoClose (Noted k) r = ⊥
NoClose PutAllAck r = ⊥

abbrev pub Counted : Activity → Closing → ℕ → ℕ → ℕ → Type 0
Counted Idle k r n q = NoClose k r
Counted (Loading a) k r n q = NoClose k r
Counted (Storing a y) k r n q = NoClose k r
Counted Acquiring k r n q = Agrees k r n q
Counted Releasing k r n q = Agrees k r n q

-- In an acquire every line is I.
abbrev pub Invalid : Line → Type 0
Invalid I = Unit {0}
Invalid (V b) = ⊥

abbrev pub Gone : Activity → Line → Type 0
Gone Idle k = Unit {0}
Gone (Loading a) k = Unit {0}
Gone (Storing a y) k = Unit {0}
Gone Acquiring k = Invalid k
Gone Releasing k = Unit {0}

-- The address and the byte that a core waits for are in range.
abbrev pub InRange : Activity → Type 0
InRange Idle = Unit {0}
InRange (Loading a) = a < 64
InRange (Storing a y) = (a < 64) × (y < 256)
InRange Acquiring = Unit {0}
InRange Releasing = Unit {0}

pub record CoreOk (x : Core) : Type 0 where
  pub slots : (l : ℕ) → l < 8 → SlotOk (stage x.activity l) (x.slot l).line (x.slot l).place
  pub gone : (l : ℕ) → l < 8 → Gone x.activity (x.slot l).line
  pub counted : Counted x.activity x.closing x.received (commits x) (puts x)
  pub in_range : InRange x.activity

pub record Reachable (s : State) : Type 0 where
  pub cores : (c : ℕ) → CoreOk (s.cores c)
  pub llc : (l : ℕ) → Bytewise (s.llc l)

pub starts : Reachable start
starts =
    record {
      cores = λ c. record { slots = λ l h. record { allowed = tt; line_bytes = tt; place_bytes = tt }; gone = λ l h. tt; counted = refl; in_range = tt };
      llc = λ l o. omega arith;
    }
