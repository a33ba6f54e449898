-- The rules of the store buffer: what each call does, by the calls that it makes below.
use Rattle.std.specs.Prelude.{ℕ, true, cond, List, [], ◌∷◌, length, Some, None, Option, ◌==◌, nat_lt}
use Rattle.protocol.specs.declared.steps.Step.{Step}
use Rattle.protocol.specs.declared.steps.Step.TheVariants.{Load, Store, Acquire, Release, Evict, Move}
use Rattle.protocol.specs.declared.steps.Ended.{Ended}
use Rattle.protocol.specs.declared.steps.Ended.TheVariants.{Loaded, Stored}
use Rattle.protocol.specs.declared.steps.Refusal.{Refusal}
use Rattle.protocol.specs.declared.steps.Reply.{Reply}
use Rattle.protocol.specs.declared.steps.Reply.TheVariants.{Refused, Waits, Ended as AtOnce, Moved, Finished}
use Rattle.protocol.specs.Steps.{core_of, caller}
use Rattle.protocol.specs.Meaning.{refusal}
use Rattle.buffer_rules.specs.declared.entries.Entry.{Entry}
use Rattle.buffer_rules.specs.Entries.{capacity, found, replaced, added, rest}
use Rattle.buffer_rules.specs.Scripts.{Script, done, call, after}

-- One core's buffer: its entries, oldest first, and the call that the core waits for, or none.
pub record Buffer : Type 0 where
  pub entries : List Entry
  pub pending : Option Step

-- What one core's call makes: calls below, and then its reply and the core's buffer.
abbrev pub Work : Type 0
Work = Script (Reply × Buffer)

-- A call waits exactly if the call below that it stopped at waits.
abbrev pub waiting : Step → Reply → Option Step
waiting k (Refused e) = None
waiting k Waits = Some k
waiting k (AtOnce e) = None
waiting k Moved = None
waiting k (Finished e) = None

-- The call k stops with the reply r and leaves these entries.
abbrev pub stops : Step → List Entry → Reply → Work
stops k es r = done (r, record { entries = es; pending = waiting k r })

-- The call k goes straight below: its reply is the reply below, and the entries stay.
abbrev pub straight : Step → List Entry → Work
straight k es = call k (stops k es)

-- A call below that has ended lets the call above go on; one that has not stops it, with the entries as they were.
abbrev pub once_ended : Step → List Entry → Work → Reply → Work
once_ended k es go_on (Refused e) = stops k es (Refused e)
once_ended k es go_on Waits = stops k es Waits
once_ended k es go_on (AtOnce e) = go_on
once_ended k es go_on Moved = stops k es Moved
once_ended k es go_on (Finished e) = stops k es (Finished e)

-- The oldest entry is stored below, for the call k of core c, and leaves when that store ends; then the call goes on.
abbrev pub store_oldest : ℕ → Step → Entry → List Entry → Work → Work
store_oldest c k e es go_on = call (Store c e.address e.byte) (once_ended k (e ∷ es) go_on)

-- A load answers the byte that was found in an entry, else it goes straight below.
abbrev pub load_by : ℕ → ℕ → List Entry → Option ℕ → Work
load_by c a es (Some b) = stops (Load c a) es (AtOnce (Loaded c a b))
load_by c a es None = straight (Load c a) es

-- A load looks for an entry of its address first.
abbrev pub load : ℕ → ℕ → List Entry → Work
load c a es = load_by c a es (found a es)

-- A store to an address without entry takes a free entry, else the oldest entry is first stored below: the new one is the youngest.
abbrev pub store_new : ℕ → ℕ → ℕ → List Entry → Work
store_new c a b [] = stops (Store c a b) (added a b []) (AtOnce (Stored c a b))
store_new c a b (e ∷ es) =
    cond (nat_lt (length (e ∷ es)) capacity)
    (stops (Store c a b) (added a b (e ∷ es)) (AtOnce (Stored c a b)))
    (store_oldest c (Store c a b) e es (stops (Store c a b) (added a b es) (AtOnce (Stored c a b))))

-- A store to an entry's address replaces its byte in position, and ends without a call below.
abbrev pub store_by : ℕ → ℕ → ℕ → List Entry → Option ℕ → Work
store_by c a b es (Some old) = stops (Store c a b) (replaced a b es) (AtOnce (Stored c a b))
store_by c a b es None = store_new c a b es

-- A store looks for an entry of its address first.
abbrev pub store : ℕ → ℕ → ℕ → List Entry → Work
store c a b es = store_by c a b es (found a es)

-- A release stores all entries below, oldest first, then releases below.
abbrev pub release : ℕ → List Entry → Work
release c [] = straight (Release c) []
release c (e ∷ es) = store_oldest c (Release c) e es (release c es)

-- What a move answers that has made a waiting call go on: it has ended that call, or the call waits on.
abbrev pub moved : Reply → Reply
moved (Refused e) = Refused e
moved Waits = Moved
moved (AtOnce e) = Finished e
moved Moved = Moved
moved (Finished e) = Finished e

-- The same of a core's work: its buffer stays as it was left.
abbrev pub in_move : Reply × Buffer → Reply × Buffer
in_move x = (moved x.0, x.1)

-- A release goes on: with entries the store of the oldest has ended below, and it leaves; with none the release itself has.
abbrev pub release_on : ℕ → Ended → List Entry → Work
release_on c e [] = stops (Release c) [] (Finished e)
release_on c e (x ∷ xs) = after in_move (release c xs)

-- A waiting call goes on when a move has ended its call below, as e. A store enters its byte once the oldest entry has left;
-- a load or an acquire has ended as the same call below.
abbrev pub goes_on : Ended → List Entry → Step → Work
goes_on e es (Load c a) = stops (Load c a) es (Finished e)
goes_on e es (Store c a b) = stops (Store c a b) (added a b (rest es)) (Finished (Stored c a b))
goes_on e es (Acquire c) = stops (Acquire c) es (Finished e)
goes_on e es (Release c) = release_on c e es
goes_on e es (Evict c l) = stops (Evict c l) es (Finished e)
goes_on e es (Move p) = stops (Move p) es (Finished e)

-- A move has ended a call of this core below, as e: the call that the core waits for goes on.
abbrev pub ended_below : Ended → Buffer → Option Step → Work
ended_below e b None = done (Finished e, b)
ended_below e b (Some k) = goes_on e b.entries k

-- At c there is x now, and all else stays.
abbrev pub put : {X : Type 0} → (ℕ → X) → ℕ → X → ℕ → X
put f c x d = cond (d == c) x (f d)

-- What a step makes: calls below, and then its reply and the buffers of all cores.
abbrev pub Round : Type 0
Round = Script (Reply × (ℕ → Buffer))

-- The work of core c changes its own buffer alone.
abbrev pub of_core : (ℕ → Buffer) → ℕ → Work → Round
of_core bs c w = after (λ x. (x.0, put bs c x.1)) w

-- A call that is refused changes nothing and calls nothing below.
abbrev pub unless : Option Refusal → (ℕ → Buffer) → Round → Round
unless (Some e) bs go_on = done (Refused e, bs)
unless None bs go_on = go_on

-- The refusal of a core call, by the table: a core waits for its pending call. No core call asks which places are open.
abbrev pub turned_down : (ℕ → Buffer) → Step → Option Refusal
turned_down bs k = refusal (λ c. (bs c).pending) (λ p. true) k

-- A move goes straight below; where it ended a call of a core, that core's call goes on.
abbrev pub after_move : (ℕ → Buffer) → Reply → Round
after_move bs (Refused e) = done (Refused e, bs)
after_move bs Waits = done (Waits, bs)
after_move bs (AtOnce e) = done (AtOnce e, bs)
after_move bs Moved = done (Moved, bs)
after_move bs (Finished e) =
    cond (nat_lt (core_of e) 8) (of_core bs (core_of e) (ended_below e (bs (core_of e)) (bs (core_of e)).pending)) (done (Finished e, bs))

-- A core call: refused before its core's entries are looked at, or that core's work.
abbrev pub core_call : (ℕ → Buffer) → Step → (List Entry → Work) → Round
core_call bs k work = unless (turned_down bs k) bs (of_core bs (caller k) (work (bs (caller k)).entries))

-- A step of the buffer. Acquire and evict go straight below, as a move does.
abbrev pub step_of : (ℕ → Buffer) → Step → Round
step_of bs (Load c a) = core_call bs (Load c a) (load c a)
step_of bs (Store c a b) = core_call bs (Store c a b) (store c a b)
step_of bs (Acquire c) = core_call bs (Acquire c) (straight (Acquire c))
step_of bs (Release c) = core_call bs (Release c) (release c)
step_of bs (Evict c l) = core_call bs (Evict c l) (straight (Evict c l))
step_of bs (Move p) = call (Move p) (after_move bs)
