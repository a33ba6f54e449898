-- The rules once more, a sentence each, as a program that follows them needs them.
use Rattle.std.proofs.Common.{◌≡◌, ℕ, ◌<◌, ◌≤◌, Bool, cond, List, [], ◌∷◌, length, Some, None, Option, sym, refl, ◌∙◌, subst}
use Rattle.std.proofs.lemmas.Bool.{lt-ltb, le-ltb}
use Rattle.protocol.specs.declared.steps.Step.{Step}
use Rattle.protocol.specs.declared.steps.Step.TheVariants.{Load, Store, Acquire, Release, Evict, Move}
use Rattle.protocol.specs.declared.steps.Ended.{Ended}
use Rattle.protocol.specs.declared.steps.Ended.TheVariants.{Loaded, Stored}
use Rattle.protocol.specs.declared.steps.Refusal.{Refusal}
use Rattle.protocol.specs.declared.steps.Reply.{Reply}
use Rattle.protocol.specs.declared.steps.Reply.TheVariants.{Refused, Waits, Ended as AtOnce, Moved, Finished}
use Rattle.protocol.specs.Steps.{core_of}
use Rattle.buffer_rules.specs.declared.entries.Entry.{Entry}
use Rattle.buffer_rules.specs.Entries.{capacity, found, replaced, added}
use Rattle.buffer_rules.specs.Scripts.{Script, done, call, after, Runs, ends, calls}
use Rattle.buffer_rules.specs.Rules.{Buffer, Work, waiting, stops, straight, once_ended, store_oldest, load, load_by, store, store_by, store_new, release, moved, in_move, release_on, goes_on, put, of_core, unless, after_move, ended_below}

-- The reply is no ended call.
abbrev pub NotEnded : Reply → Type 0
NotEnded (Refused e) = Unit {0}
NotEnded Waits = Unit {0}
NotEnded (AtOnce e) = ⊥
NotEnded Moved = Unit {0}
NotEnded (Finished e) = Unit {0}

pub not_ended_from : (r : Reply) → ((e : Ended) → r ≡ AtOnce e → ⊥) → NotEnded r
not_ended_from (Refused e) n = tt
not_ended_from Waits n = tt
not_ended_from (AtOnce e) n = n e refl
not_ended_from Moved n = tt
not_ended_from (Finished e) n = tt

module _ {S : Type 0} (steps : S → Step → Reply → S → Type 0) where
  -- A script that is done, and what came of it.
  pub is_done : {X : Type 0} {s : S} (x y : X) → y ≡ x → Runs steps (done x) s y s
  is_done {X} {s} x y e = subst (λ (z : X). Runs steps (done x) s z s) (sym e) ends

  pub straight_below : (k : Step) (es : List Entry) (s t : S) (r : Reply) (x : Reply × Buffer) → steps s k r t → x ≡ (r, record { entries = es; pending = waiting k r }) → Runs steps (straight k es) s x t
  straight_below k es s t r x h e = calls h (is_done (r, record { entries = es; pending = waiting k r }) x e)

  pub load_entry : (c a b : ℕ) (es : List Entry) (s : S) (x : Reply × Buffer) → found a es ≡ Some b → x ≡ (AtOnce (Loaded c a b), record { entries = es; pending = None }) → Runs steps (load c a es) s x s
  load_entry c a b es s x f e = subst (λ (o : Option ℕ). Runs steps (load_by c a es o) s x s) (sym f) (is_done (AtOnce (Loaded c a b), record { entries = es; pending = None }) x e)

  pub load_below : (c a : ℕ) (es : List Entry) (s t : S) (r : Reply) (x : Reply × Buffer) → found a es ≡ None → steps s (Load c a) r t → x ≡ (r, record { entries = es; pending = waiting (Load c a) r }) → Runs steps (load c a es) s x t
  load_below c a es s t r x f h e = subst (λ (o : Option ℕ). Runs steps (load_by c a es o) s x t) (sym f) (straight_below (Load c a) es s t r x h e)

  pub store_entry : (c a b y : ℕ) (es : List Entry) (s : S) (x : Reply × Buffer) → found a es ≡ Some y → x ≡ (AtOnce (Stored c a b), record { entries = replaced a b es; pending = None }) → Runs steps (store c a b es) s x s
  store_entry c a b y es s x f e = subst (λ (o : Option ℕ). Runs steps (store_by c a b es o) s x s) (sym f) (is_done (AtOnce (Stored c a b), record { entries = replaced a b es; pending = None }) x e)

  pub store_else : (c a b : ℕ) (es : List Entry) (s t : S) (x : Reply × Buffer) → found a es ≡ None → Runs steps (store_new c a b es) s x t → Runs steps (store c a b es) s x t
  store_else c a b es s t x f h = subst (λ (o : Option ℕ). Runs steps (store_by c a b es o) s x t) (sym f) h

  -- The store of the oldest entry ends, and the call goes on; or it does not, and the call stops.
  pub oldest_ended : (c : ℕ) (k : Step) (e : Entry) (es : List Entry) (go_on : Work) (y : Ended) (s t u : S) (x : Reply × Buffer) → steps s (Store c e.address e.byte) (AtOnce y) t → Runs steps go_on t x u → Runs steps (store_oldest c k e es go_on) s x u
  oldest_ended c k e es go_on y s t u x h more = calls h more

  not_ended : (k : Step) (es : List Entry) (go_on : Work) {t : S} (r : Reply) → NotEnded r → Runs steps (once_ended k es go_on r) t (r, record { entries = es; pending = waiting k r }) t
  not_ended k es go_on (Refused e) n = ends
  not_ended k es go_on Waits n = ends
  not_ended k es go_on (AtOnce e) n = absurd n
  not_ended k es go_on Moved n = ends
  not_ended k es go_on (Finished e) n = ends

  pub oldest_stops : (c : ℕ) (k : Step) (e : Entry) (es : List Entry) (go_on : Work) (r : Reply) (s t : S) (x : Reply × Buffer) → steps s (Store c e.address e.byte) r t → NotEnded r → x ≡ (r, record { entries = e ∷ es; pending = waiting k r }) → Runs steps (store_oldest c k e es go_on) s x t
  oldest_stops c k e es go_on r s t x h n i = subst (λ (y : Reply × Buffer). Runs steps (store_oldest c k e es go_on) s y t) (sym i) (calls h (not_ended k (e ∷ es) go_on r n))

  -- A store to an address without entry takes a free entry; or all are taken, and the oldest entry's store ends, or stops it.
  pub store_free : (c a b : ℕ) (es : List Entry) (s : S) (x : Reply × Buffer) → length es < capacity → x ≡ (AtOnce (Stored c a b), record { entries = added a b es; pending = None }) → Runs steps (store_new c a b es) s x s
  store_free c a b [] s x l e = is_done (AtOnce (Stored c a b), record { entries = added a b []; pending = None }) x e
  store_free c a b (y ∷ ys) s x l e =
      subst (λ (z : Bool). Runs steps (cond z (stops (Store c a b) (added a b (y ∷ ys)) (AtOnce (Stored c a b))) (store_oldest c (Store c a b) y ys (stops (Store c a b) (added a b ys) (AtOnce (Stored c a b))))) s x s)
      (sym (lt-ltb (length (y ∷ ys)) 4 l)) (is_done (AtOnce (Stored c a b), record { entries = added a b (y ∷ ys); pending = None }) x e)

  store_taken : (c a b : ℕ) (e : Entry) (xs es : List Entry) {s t : S} {x : Reply × Buffer} → es ≡ e ∷ xs → capacity ≤ length es → Runs steps (store_oldest c (Store c a b) e xs (stops (Store c a b) (added a b xs) (AtOnce (Stored c a b)))) s x t → Runs steps (store_new c a b es) s x t
  store_taken c a b e xs es {s} {t} {x} i l h =
      subst (λ (z : List Entry). Runs steps (store_new c a b z) s x t) (sym i)
      (subst (λ (z : Bool). Runs steps (cond z (stops (Store c a b) (added a b (e ∷ xs)) (AtOnce (Stored c a b))) (store_oldest c (Store c a b) e xs (stops (Store c a b) (added a b xs) (AtOnce (Stored c a b))))) s x t)
      (sym (le-ltb (length (e ∷ xs)) 4 (subst (λ (z : List Entry). 4 ≤ length z) i l))) h)

  pub store_full : (c a b : ℕ) (e : Entry) (xs es : List Entry) (y : Ended) (s t : S) (x : Reply × Buffer) → es ≡ e ∷ xs → capacity ≤ length es → steps s (Store c e.address e.byte) (AtOnce y) t → x ≡ (AtOnce (Stored c a b), record { entries = added a b xs; pending = None }) → Runs steps (store_new c a b es) s x t
  store_full c a b e xs es y s t x i l h j =
      store_taken c a b e xs es i l (oldest_ended c (Store c a b) e xs (stops (Store c a b) (added a b xs) (AtOnce (Stored c a b))) y s t t x h (is_done (AtOnce (Stored c a b), record { entries = added a b xs; pending = None }) x j))

  pub store_stops : (c a b : ℕ) (e : Entry) (xs es : List Entry) (r : Reply) (s t : S) (x : Reply × Buffer) → es ≡ e ∷ xs → capacity ≤ length es → steps s (Store c e.address e.byte) r t → NotEnded r → x ≡ (r, record { entries = es; pending = waiting (Store c a b) r }) → Runs steps (store_new c a b es) s x t
  store_stops c a b e xs es r s t x i l h n j =
      store_taken c a b e xs es i l (oldest_stops c (Store c a b) e xs (stops (Store c a b) (added a b xs) (AtOnce (Stored c a b))) r s t x h n (j ∙ (λ k. (r, record { entries = i k; pending = waiting (Store c a b) r }))))

  -- A release with an oldest entry, and one with none.
  pub release_oldest : (c : ℕ) (e : Entry) (xs es : List Entry) (y : Ended) (s t u : S) (x : Reply × Buffer) → es ≡ e ∷ xs → steps s (Store c e.address e.byte) (AtOnce y) t → Runs steps (release c xs) t x u → Runs steps (release c es) s x u
  release_oldest c e xs es y s t u x i h more = subst (λ (z : List Entry). Runs steps (release c z) s x u) (sym i) (calls h more)

  pub release_stops : (c : ℕ) (e : Entry) (xs es : List Entry) (r : Reply) (s t : S) (x : Reply × Buffer) → es ≡ e ∷ xs → steps s (Store c e.address e.byte) r t → NotEnded r → x ≡ (r, record { entries = es; pending = waiting (Release c) r }) → Runs steps (release c es) s x t
  release_stops c e xs es r s t x i h n =
      subst (λ (z : List Entry). x ≡ (r, record { entries = z; pending = waiting (Release c) r }) → Runs steps (release c z) s x t) (sym i) (oldest_stops c (Release c) e xs (release c xs) r s t x h n)

  pub release_last : (c : ℕ) (es : List Entry) (r : Reply) (s t : S) (x : Reply × Buffer) → es ≡ [] → steps s (Release c) r t → x ≡ (r, record { entries = es; pending = waiting (Release c) r }) → Runs steps (release c es) s x t
  release_last c es r s t x i h =
      subst (λ (z : List Entry). x ≡ (r, record { entries = z; pending = waiting (Release c) r }) → Runs steps (release c z) s x t) (sym i) (straight_below (Release c) [] s t r x h)

  -- The same calls, and what comes of them changed.
  pub runs_after : {X Y : Type 0} (g : X → Y) {w : Script X} {s t : S} {x : X} → Runs steps w s x t → Runs steps (after g w) s (g x) t
  runs_after g ends = ends
  runs_after g (calls h more) = calls h (runs_after g more)

  -- A release goes on: the release itself has ended below, or the store of the oldest entry.
  pub release_ended : (c : ℕ) (e : Ended) (es : List Entry) (s : S) (x : Reply × Buffer) → es ≡ [] → x ≡ (Finished e, record { entries = es; pending = None }) → Runs steps (release_on c e es) s x s
  release_ended c e es s x i =
      subst (λ (z : List Entry). x ≡ (Finished e, record { entries = z; pending = None }) → Runs steps (release_on c e z) s x s) (sym i) (is_done (Finished e, record { entries = []; pending = None }) x)

  pub release_further : (c : ℕ) (e : Ended) (y : Entry) (ys es : List Entry) (s t : S) (r : Reply) (b : Buffer) (x : Reply × Buffer) → es ≡ y ∷ ys → Runs steps (release c ys) s (r, b) t → x ≡ (moved r, b) → Runs steps (release_on c e es) s x t
  release_further c e y ys es s t r b x i h j =
      subst (λ (z : List Entry). Runs steps (release_on c e z) s x t) (sym i) (subst (λ (z : Reply × Buffer). Runs steps (after in_move (release c ys)) s z t) (sym j) (runs_after in_move h))

  -- A load or an acquire ends as the same call below.
  pub goes_straight : (e : Ended) (es : List Entry) (k : Step) (s : S) (x : Reply × Buffer) → ((c a b : ℕ) → k ≡ Store c a b → ⊥) → ((c : ℕ) → k ≡ Release c → ⊥) → x ≡ (Finished e, record { entries = es; pending = None }) → Runs steps (goes_on e es k) s x s
  goes_straight e es (Load c a) s x n m i = is_done (Finished e, record { entries = es; pending = None }) x i
  goes_straight e es (Store c a b) s x n m i = absurd (n c a b refl)
  goes_straight e es (Acquire c) s x n m i = is_done (Finished e, record { entries = es; pending = None }) x i
  goes_straight e es (Release c) s x n m i = absurd (m c refl)
  goes_straight e es (Evict c l) s x n m i = is_done (Finished e, record { entries = es; pending = None }) x i
  goes_straight e es (Move p) s x n m i = is_done (Finished e, record { entries = es; pending = None }) x i

  -- A call has ended below, and its core waits for none.
  pub none_waits : (e : Ended) (b : Buffer) (w : Option Step) (s : S) (x : Reply × Buffer) → w ≡ None → x ≡ (Finished e, b) → Runs steps (ended_below e b w) s x s
  none_waits e b w s x i j = subst (λ (z : Option Step). Runs steps (ended_below e b z) s x s) (sym i) (is_done (Finished e, b) x j)

  -- A call of core c among the buffers of all cores: refused, or that core's work.
  pub call_refused : (bs : ℕ → Buffer) (o : Option Refusal) (c : ℕ) (work : List Entry → Work) (s : S) (e : Refusal) → o ≡ Some e → Runs steps (unless o bs (of_core bs c (work (bs c).entries))) s (Refused e, bs) s
  call_refused bs o c work s e h = subst (λ (o : Option Refusal). Runs steps (unless o bs (of_core bs c (work (bs c).entries))) s (Refused e, bs) s) (sym h) ends

  pub call_works : (bs new : ℕ → Buffer) (o : Option Refusal) (c : ℕ) (work : List Entry → Work) (s t : S) (r : Reply) (b : Buffer) → o ≡ None → Runs steps (work (bs c).entries) s (r, b) t → new ≡ put bs c b → Runs steps (unless o bs (of_core bs c (work (bs c).entries))) s (r, new) t
  call_works bs new o c work s t r b h w i =
      subst (λ (o : Option Refusal). Runs steps (unless o bs (of_core bs c (work (bs c).entries))) s (r, new) t) (sym h)
      (subst (λ (z : ℕ → Buffer). Runs steps (of_core bs c (work (bs c).entries)) s (r, z) t) (sym i) (runs_after (λ x. (x.0, put bs c x.1)) w))

  -- A move that has ended no call, one that has ended a call of no core, and one after which a core's call goes on.
  pub move_passes : (bs : ℕ → Buffer) (p : ℕ) (s t : S) (r : Reply) → steps s (Move p) r t → ((e : Ended) → r ≡ Finished e → ⊥) → Runs steps (call (Move p) (after_move bs)) s (r, bs) t
  move_passes bs p s t r h n = calls h (go r n)
    where
      go : (r : Reply) → ((e : Ended) → r ≡ Finished e → ⊥) → Runs steps (after_move bs r) t (r, bs) t
      go (Refused e) n = ends
      go Waits n = ends
      go (AtOnce e) n = ends
      go Moved n = ends
      go (Finished e) n = absurd (n e refl)

  pub move_strays : (bs : ℕ → Buffer) (p : ℕ) (s t : S) (e : Ended) → steps s (Move p) (Finished e) t → 8 ≤ core_of e → Runs steps (call (Move p) (after_move bs)) s (Finished e, bs) t
  move_strays bs p s t e h l =
      calls h (subst (λ (z : Bool). Runs steps (cond z (of_core bs (core_of e) (ended_below e (bs (core_of e)) (bs (core_of e)).pending)) (done (Finished e, bs))) t (Finished e, bs) t) (sym (le-ltb (core_of e) 8 l)) ends)

  pub move_goes_on : (bs new : ℕ → Buffer) (p : ℕ) (s t u : S) (e : Ended) (r : Reply) (b : Buffer) → steps s (Move p) (Finished e) t → core_of e < 8 → Runs steps (ended_below e (bs (core_of e)) (bs (core_of e)).pending) t (r, b) u → new ≡ put bs (core_of e) b → Runs steps (call (Move p) (after_move bs)) s (r, new) u
  move_goes_on bs new p s t u e r b h l w i =
      calls h
      (subst (λ (z : Bool). Runs steps (cond z (of_core bs (core_of e) (ended_below e (bs (core_of e)) (bs (core_of e)).pending)) (done (Finished e, bs))) t (r, new) u) (sym (lt-ltb (core_of e) 8 l))
      (subst (λ (z : ℕ → Buffer). Runs steps (of_core bs (core_of e) (ended_below e (bs (core_of e)) (bs (core_of e)).pending)) t (r, z) u) (sym i) (runs_after (λ x. (x.0, put bs (core_of e) x.1)) w)))
