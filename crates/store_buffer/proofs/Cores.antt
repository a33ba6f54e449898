-- One core's buffer in the array is one core's buffer in the rules.
use Rattle.std.proofs.Common.{◌≡◌, ℕ, ◌<◌, ◌≤◌, ◌⊎◌, Bool, true, false, cond, nat_le, List, length, get_or, set, Some, None, Ok, Err, Option, Result, sym, refl, ap, ◌∙◌, subst, inl, inr}
use Rattle.std.proofs.lemmas.Bool.{cases_eq, cases_lt}
use Rattle.std.specs.Array.{AllOfLen}
use Rattle.std.proofs.lemmas.List.{get_or-set_same, get_or-set_other, get_or_default, get_or_past}
use Rattle.protocol.specs.Cells.{numbered, address_named, line_named}
use Rattle.protocol.specs.Meaning.{busy}
use Rattle.protocol.specs.declared.cells.Address.{Address}
use Rattle.protocol.specs.declared.cells.Line.{Line}
use Rattle.protocol.specs.declared.steps.Refusal.TheVariants.{NoSuchCore, NoSuchAddress}
use Rattle.protocol.specs.declared.steps.Refusal.{Refusal}
use Rattle.protocol.specs.declared.steps.Step.{Step}
use Rattle.protocol.specs.declared.steps.Step.TheVariants.{Load, Evict, Move}
use Rattle.protocol.specs.declared.steps.Ended.{Ended}
use Rattle.protocol.specs.declared.steps.Reply.{Reply}
use Rattle.protocol.specs.declared.steps.Reply.TheVariants.{Finished}
use Rattle.protocol.specs.Steps.{core_of}
use Rattle.buffer_rules.specs.declared.entries.Entry.{Entry}
use Rattle.buffer_rules.specs.Scripts.{Runs, call}
use Rattle.buffer_rules.specs.Buffered.{empty}
use Rattle.buffer_rules.specs.Rules.{Buffer, Work, put, unless, of_core, core_call, after_move, ended_below}
use Rattle.buffer_rules.proofs.Sentences.{call_works, move_goes_on}
use Rattle.buffer_rules.proofs.Views.{put_here, put_other}
use Rattle.store_buffer.specs.Held.{buffers_of, unless_named, call_of_core}

pub buffers_set : (bs : List Buffer) (i : ℕ) (b : Buffer) → i < length bs → buffers_of (set bs i b) ≡ put (buffers_of bs) i b
buffers_set bs i b l = λ j d. each d (cases_eq d i) j
  where
    each : (d : ℕ) → (d ≡ i) ⊎ (d ≡ i → ⊥) → buffers_of (set bs i b) d ≡ put (buffers_of bs) i b d
    each d (inl e) = subst (λ (x : ℕ). buffers_of (set bs i b) x ≡ put (buffers_of bs) i b x) (sym e) (get_or-set_same bs i b empty l ∙ sym (put_here (buffers_of bs) i b))
    each d (inr n) = get_or-set_other bs i d b empty n ∙ sym (put_other (buffers_of bs) i b d n)

-- The refusal of what a call names beside its core, as the table has it.
refused_by : {X : Type 0} (f : X → ℕ) (r : Result X Refusal) (n a : ℕ) (e : Refusal) (later : Option Refusal) → numbered f r ≡ cond (nat_le n a) (Err e) (Ok a) → cond (nat_le n a) (Some e) later ≡ unless_named r later
refused_by {X} f r n a e later h = go r (nat_le n a) h
  where
    go : (r : Result X Refusal) (t : Bool) → numbered f r ≡ cond t (Err e) (Ok a) → cond t (Some e) later ≡ unless_named r later
    go (Ok x) true k = cc
    go (Ok x) false k = refl
    go (Err d) true k = cc
    go (Err d) false k = cc

-- Eight buffers that are each made empty.
pub all_empty : {P : Buffer → Type 0} (bs : List Buffer) → AllOfLen P bs 8 → ((b : Buffer) → P b → b ≡ empty) → buffers_of bs ≡ (λ c. empty)
all_empty bs h made = λ i c. each c (cases_lt c 8) i
  where
    each : (c : ℕ) → (c < 8) ⊎ (8 ≤ c) → buffers_of bs c ≡ empty
    each c (inl l) = made _ (h.at c empty l)
    each c (inr l) = get_or_past bs c empty (subst (λ (n : ℕ). n ≤ c) (sym h.long) l)

module _ {S : Type 0} (steps : S → Step → Reply → S → Type 0) (bs : List Buffer) (i n : ℕ) (d b : Buffer) where
  -- The work of a core on its buffer, which stands at i, the number n of the core.
  pub call_in : (o : Option Refusal) (c : ℕ) (work : List Entry → Work) (s t : S) (r : Reply) → o ≡ None → i ≡ n → n ≡ c → i < length bs → Runs steps (work (get_or bs i d).entries) s (r, b) t → Runs steps (unless o (buffers_of bs) (of_core (buffers_of bs) c (work (buffers_of bs c).entries))) s (r, buffers_of (set bs i b)) t
  call_in o c work s t r h ei en l w =
      call_works steps (buffers_of bs) (buffers_of (set bs i b)) o c work s t r b h (subst (λ (x : ℕ). Runs steps (work (buffers_of bs x).entries) s (r, b) t) (ei ∙ en)
      (subst (λ (x : Buffer). Runs steps (work x.entries) s (r, b) t) (get_or_default bs i d empty l) w))
      (buffers_set bs i b l ∙ ap (λ (x : ℕ). put (buffers_of bs) x b) (ei ∙ en))

  -- The same of a waiting call that goes on with a move.
  pub move_in : (p : ℕ) (s t u : S) (e : Ended) (r : Reply) → steps s (Move p) (Finished e) t → i ≡ n → n ≡ core_of e → n < 8 → i < length bs → Runs steps (ended_below e (get_or bs i d) (get_or bs i d).pending) t (r, b) u → Runs steps (call (Move p) (after_move (buffers_of bs))) s (r, buffers_of (set bs i b)) u
  move_in p s t u e r h ei en lc l w =
      move_goes_on steps (buffers_of bs) (buffers_of (set bs i b)) p s t u e r b h (subst (λ (x : ℕ). x < 8) en lc)
      (subst (λ (x : ℕ). Runs steps (ended_below e (buffers_of bs x) (buffers_of bs x).pending) t (r, b) u) (ei ∙ en)
      (subst (λ (x : Buffer). Runs steps (ended_below e x x.pending) t (r, b) u) (get_or_default bs i d empty l) w))
      (buffers_set bs i b l ∙ ap (λ (x : ℕ). put (buffers_of bs) x b) (ei ∙ en))

module _ {S : Type 0} (steps : S → Step → Reply → S → Type 0) (bs : ℕ → Buffer) (c : ℕ) (work : List Entry → Work) {s t : S} {x : Reply × (ℕ → Buffer)} where
  -- A call that names an address, and one that names a line.
  pub at_address : (a : ℕ) (r : Result Address Refusal) → numbered (λ y. y.number) r ≡ address_named a → Runs steps (call_of_core r c work bs) s x t → Runs steps (core_call bs (Load c a) work) s x t
  at_address a r h =
      subst (λ (o : Option Refusal). Runs steps (unless (cond (nat_le 8 c) (Some NoSuchCore) o) bs (of_core bs c (work (bs c).entries))) s x t) (sym (refused_by (λ y. y.number) r 64 a NoSuchAddress (busy (bs c).pending) h))

  pub at_line : (l : ℕ) (r : Result Line Refusal) → numbered (λ y. y.number) r ≡ line_named l → Runs steps (call_of_core r c work bs) s x t → Runs steps (core_call bs (Evict c l) work) s x t
  at_line l r h =
      subst (λ (o : Option Refusal). Runs steps (unless (cond (nat_le 8 c) (Some NoSuchCore) o) bs (of_core bs c (work (bs c).entries))) s x t) (sym (refused_by (λ y. y.number) r 8 l NoSuchAddress (busy (bs c).pending) h))
