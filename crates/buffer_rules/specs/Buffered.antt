-- The store buffer over any protocol, again a protocol.
use Rattle.std.specs.Prelude.{◌≡◌, ℕ, zero, suc, ◌+◌, ◌*◌, Bool, true, ◌↔◌, List, [], length, Some, None, Option}
use Rattle.protocol.specs.declared.steps.Step.{Step}
use Rattle.protocol.specs.declared.steps.Step.TheVariants.{Load, Store, Acquire, Release, Evict, Move}
use Rattle.protocol.specs.declared.steps.Reply.{Reply}
use Rattle.protocol.specs.Moment.{View, Moment}
use Rattle.protocol.specs.Meaning.{Machine}
use Rattle.buffer_rules.specs.declared.entries.Entry.{Entry}
use Rattle.buffer_rules.specs.Entries.{found}
use Rattle.buffer_rules.specs.Scripts.{Runs, run}
use Rattle.buffer_rules.specs.Rules.{Buffer, step_of}

-- The state: that of the protocol below, and each core's buffer.
pub record Pile (S : Type 0) : Type 0 where
  pub below : S
  pub buffers : ℕ → Buffer

-- No entry, and no call to wait for.
abbrev pub empty : Buffer
empty = record { entries = []; pending = None }

-- An entry's byte is seen; without one, what is seen below.
abbrev pub seen : Option ℕ → ℕ → ℕ
seen (Some b) x = b
seen None x = x

-- An entry's byte is owed; without one, what is owed below.
abbrev pub owed : Option ℕ → Bool → Bool
owed (Some b) x = true
owed None x = x

-- A core sees and owes the byte of its entry for an address, and else what it sees and owes below. Home is home below.
abbrev pub seen_over : (ℕ → List Entry) → View → View
seen_over es v =
    record {
      sees = λ c a. seen (found a (es c)) (v.sees c a);
      home = v.home;
      owes = λ c a. owed (found a (es c)) (v.owes c a);
    }

-- The calls below that a waiting call has still to make once the one that it waits for has ended: a release's, one for each
-- entry, since the store of the oldest is under way and the release below comes last.
abbrev pub left_of : List Entry → Option Step → ℕ
left_of es None = 0
left_of es (Some (Load c a)) = 0
left_of es (Some (Store c a b)) = 0
left_of es (Some (Acquire c)) = 0
left_of es (Some (Release c)) = length es
left_of es (Some (Evict c l)) = 0
left_of es (Some (Move p)) = 0

-- The same of a core's buffer.
abbrev pub calls_left : Buffer → ℕ
calls_left b = left_of b.entries b.pending

-- The sum of f over the numbers below n.
abbrev pub total : ℕ → (ℕ → ℕ) → ℕ
total zero f = 0
total (suc n) f = total n f + f n

-- The moment: seen and owed as above; a core waits for its pending call; places are open as below; due is that below and reach
-- below for each call that is still to be made below; over reach R the reach is 5R + 5.
abbrev pub moment_over : Moment → (ℕ → Buffer) → Moment
moment_over m bs =
    record {
      view = seen_over (λ c. (bs c).entries) m.view;
      waits = λ c. (bs c).pending;
      open_at = m.open_at;
      due = m.due + m.reach * total 8 (λ c. calls_left (bs c));
      reach = 5 * m.reach + 5;
    }

-- The buffer over a protocol. A clear leaves it cleared below and every buffer empty; image and next open go straight below.
abbrev pub buffered : Machine → Machine
buffered M =
    record {
      State = Pile M.State;
      moment = λ p. moment_over (M.moment p.below) p.buffers;
      fresh = λ p. (M.fresh p.below) × (p.buffers ≡ (λ c. empty));
      steps = λ p k r t. Runs M.steps (step_of p.buffers k) p.below (r, t.buffers) t.below;
      images = λ p a r. M.images p.below a r;
      opens = λ p q o. M.opens p.below q o;
    }

-- The answers of the machine M are those of the function f.
abbrev pub ByFunction : (M : Machine) → (M.State → Step → Reply × M.State) → Type 0
ByFunction M f = (s : M.State) (k : Step) (r : Reply) (t : M.State) → M.steps s k r t ↔ ((r, t) ≡ f s k)

-- A step of the buffer over a protocol whose answers are those of f.
abbrev pub buffer_step : {S : Type 0} → (S → Step → Reply × S) → Pile S → Step → Reply × Pile S
buffer_step f p k = let x = run f (step_of p.buffers k) p.below in (x.0.0, record { below = x.1; buffers = x.0.1 })

-- Over a protocol whose answers are a function of its state, so are the buffer's.
abbrev pub AgainByFunction : Machine → Type 0
AgainByFunction M = (f : M.State → Step → Reply × M.State) → ByFunction M f → ByFunction (buffered M) (buffer_step f)
