-- What the code's buffers hold, in the words of the rules.
use Rattle.std.specs.Prelude.{ℕ, cond, List, Some, Ok, Err, Option, Result, slice_index_or, nat_le}
use Rattle.protocol.specs.declared.steps.Refusal.{Refusal}
use Rattle.protocol.specs.declared.steps.Refusal.TheVariants.{NoSuchCore}
use Rattle.protocol.specs.declared.steps.Reply.{Reply}
use Rattle.protocol.specs.Meaning.{Machine, busy}
use Rattle.std.specs.Fn.{Once}
use Rattle.std.specs.Borrow.{MutBor}
use Rattle.buffer_rules.specs.declared.entries.Entry.{Entry}
use Rattle.buffer_rules.specs.Scripts.{Runs}
use Rattle.buffer_rules.specs.Rules.{Buffer, Work, Round, unless, of_core}
use Rattle.buffer_rules.specs.Buffered.{Pile, empty}

-- The buffer of each core.
abbrev pub buffers_of : List Buffer → ℕ → Buffer
buffers_of bs c = slice_index_or bs c empty

-- The state: that below, and the buffer of each core.
abbrev pub pile : {S : Type 0} → S → List Buffer → Pile S
pile s bs = record { below = s; buffers = buffers_of bs }

-- A core's work takes the protocol below from s to t, answers r and leaves the buffer b.
abbrev pub Does : (M : Machine) → Work → M.State → Reply → Buffer → M.State → Type 0
Does M w s r b t = Runs M.steps w s (r, b) t

-- The refusal of what a call names, or of a core that waits. (The code of Neat has a step like this one: each leads to the table of refusals
-- of its own rules.)
abbrev pub unless_named : {X : Type 0} → Result X Refusal → Option Refusal → Option Refusal
unless_named (Ok x) later = later
unless_named (Err e) later = Some e

-- The refusal of a call of core c that names the address or the line x too: the core, then x, then waiting.
abbrev pub turned_down_by : {X : Type 0} → Result X Refusal → (ℕ → Buffer) → ℕ → Option Refusal
turned_down_by x bs c = cond (nat_le 8 c) (Some NoSuchCore) (unless_named x (busy (bs c).pending))

-- The work f does what the rule says, whatever protocol state and buffer it is given.
abbrev pub Follows : (M : Machine) {P F : Type 0} → (P → M.State) → Once F (MutBor Buffer × (MutBor P × Unit {0})) (Reply × (MutBor Buffer × (MutBor P × Unit {0}))) → F → (List Entry → Work) → Type 0
Follows M {P} state g f rule =
    (b b' : MutBor Buffer) (s s' : MutBor P) (r : Reply) → g.post f (b, (s, tt)) (r, (b', (s', tt))) → Does M (rule b.now.entries) (state s.now) r b'.now (state s'.now)

-- A call of core c that names x too, by that rule: refused as above, or the core's work.
abbrev pub call_of_core : {X : Type 0} → Result X Refusal → ℕ → (List Entry → Work) → (ℕ → Buffer) → Round
call_of_core x c rule bs = unless (turned_down_by x bs c) bs (of_core bs c (rule (bs c).entries))
