-- Each core call of the buffer, where it is not refused, does what the meaning says, with at most five calls below.
use Rattle.std.proofs.Common.{◌≡◌, ℕ, ◌+◌, ◌<◌, ◌≤◌, Bool, true, false, cond, ltb, List, [], ◌∷◌, length, Some, None, Option, sym, refl, ap, ◌∙◌, arith}
use Rattle.std.proofs.lemmas.Bool.{ltb-true, ltb-false}
use Rattle.protocol.specs.declared.steps.Step.{Step}
use Rattle.protocol.specs.declared.steps.Step.TheVariants.{Load, Store, Acquire, Release, Evict}
use Rattle.protocol.specs.declared.steps.Ended.TheVariants.{Loaded, Stored}
use Rattle.protocol.specs.declared.steps.Refusal.TheVariants.{NoSuchCore, NoSuchAddress}
use Rattle.protocol.specs.declared.steps.Reply.{Reply}
use Rattle.protocol.specs.declared.steps.Reply.TheVariants.{Ended as AtOnce}
use Rattle.protocol.specs.Moment.{stay, drift}
use Rattle.protocol.specs.Meaning.{Machine, Meaning, busy}
use Rattle.buffer_rules.specs.declared.entries.Entry.{Entry}
use Rattle.buffer_rules.specs.Entries.{found, replaced, added}
use Rattle.buffer_rules.specs.Rules.{Buffer, stops, straight, load, load_by, store, store_by, store_new, store_oldest, release}
use Rattle.buffer_rules.specs.Buffered.{seen, seen_over}
use Rattle.buffer_rules.proofs.Always.{Always, always_so}
use Rattle.buffer_rules.proofs.Held.{found_replaced, found_replaced_other, sound_replaced, length_replaced, found_none, found_added, found_added_other, sound_added, length_added}
use Rattle.buffer_rules.proofs.Names.{load_straight, acquire_straight, release_straight, evict_straight}
use Rattle.buffer_rules.proofs.Views.{same_drift, same_entries, entry_comes}
use Rattle.buffer_rules.proofs.Waiting.{pass}
use Rattle.buffer_rules.proofs.Work.{Idle, Worked, BringsAbove, ends_here, worked_within, straight_worked, oldest_worked, worked_then}

module _ (M : Machine) (mean : Meaning M) where
  -- P of a core's work, wherever it may end.
  abbrev pub Works : ℕ → Step → ℕ → M.State → List Entry → Reply × Buffer → M.State → Type 0
  Works c k n s q x t = Worked M mean c k n s q x.0 x.1 t

  pub load_worked : (c a : ℕ) (s : M.State) (q : List Entry) → c < 8 → a < 64 → Idle M mean c s q → Always M.steps (load c a q) s (Works c (Load c a) 1 s q)
  load_worked c a s q lc la h = go (found a q) refl
    where
      go : (o : Option ℕ) → found a q ≡ o → Always M.steps (load_by c a q o) s (Works c (Load c a) 1 s q)
      go (Some b) f =
          worked_within M mean 1 (AtOnce (Loaded c a b)) (omega arith)
          (ends_here M mean (Loaded c a b) h.ready refl h.sound h.few
          (λ E E' i. (drift stay (same_drift (same_entries (M.moment s).view i)), sym (ap (λ (o : Option ℕ). seen o ((M.moment s).view.sees c a)) (ap (found a) i.afterwards ∙ f)))))
      go None f =
          straight_worked M mean
          (record {
            called = λ s t r. mean.accepts s (Load c a) r t;
            core = refl;
            ended = load_straight c a q f;
            fine = λ w. (refl, f);
            same = refl;
            last = refl;
          })
          h (omega arith, omega arith) (pass 8 c NoSuchCore _ lc (pass 64 a NoSuchAddress _ la (ap busy h.ready.free)))

  -- A store that enters its byte.
  entered : (c a b : ℕ) (s : M.State) (q q' : List Entry) → found a q' ≡ Some b → ((x : ℕ) → (x ≡ a → ⊥) → found x q' ≡ found x q) → BringsAbove M mean c (Stored c a b) s q s q'
  entered c a b s q q' f g E E' i = (seen_over E (M.moment s).view, seen_over E' (M.moment s).view, stay, entry_comes (M.moment s).view i f g, stay)

  pub added_worked : (c a b : ℕ) (s : M.State) (q : List Entry) → a < 64 → b < 256 → found a q ≡ None → length q < 4 → Idle M mean c s q → Works c (Store c a b) 0 s q (AtOnce (Stored c a b), record { entries = added a b q; pending = None }) s
  added_worked c a b s q la lb n l h =
      ends_here M mean (Stored c a b) h.ready refl (sound_added a b q la lb n h.sound) (let z = length_added a b q in omega arith)
      (entered c a b s q (added a b q) (found_added a b q n) (λ x i. found_added_other a b x q i))

  full_worked : (c a b : ℕ) (s : M.State) (e : Entry) (es : List Entry) → a < 64 → b < 256 → found a (e ∷ es) ≡ None → 4 ≤ length (e ∷ es) → Idle M mean c s (e ∷ es) → Always M.steps (store_oldest c (Store c a b) e es (stops (Store c a b) (added a b es) (AtOnce (Stored c a b)))) s (Works c (Store c a b) 1 s (e ∷ es))
  full_worked c a b s e es la lb n l h =
      oldest_worked M mean (stops (Store c a b) (added a b es) (AtOnce (Stored c a b)))
      (record { can_wait = tt; fine = (refl, la, lb, n, let f = h.few in omega arith); same = refl; within = omega arith })
      h
      (λ t left.
      worked_then M mean (AtOnce (Stored c a b)) (record { entries = added a b es; pending = None }) t left
      (added_worked c a b t es la lb (found_none a e es n).1 (let f = h.few in omega arith)
      (record { ready = left.ready; sound = h.sound.3; few = let f = h.few in omega arith })))

  pub store_worked : (c a b : ℕ) (s : M.State) (q : List Entry) → a < 64 → b < 256 → Idle M mean c s q → Always M.steps (store c a b q) s (Works c (Store c a b) 1 s q)
  store_worked c a b s q la lb h = go (found a q) refl
    where
      new : (q : List Entry) → found a q ≡ None → Idle M mean c s q → Always M.steps (store_new c a b q) s (Works c (Store c a b) 1 s q)
      new [] n h = worked_within M mean 1 (AtOnce (Stored c a b)) (omega arith) (added_worked c a b s [] la lb n (omega arith) h)
      new (e ∷ es) n h = room (ltb (length (e ∷ es)) 4) refl
        where
          room : (t : Bool) → ltb (length (e ∷ es)) 4 ≡ t → Always M.steps (cond t (stops (Store c a b) (added a b (e ∷ es)) (AtOnce (Stored c a b))) (store_oldest c (Store c a b) e es (stops (Store c a b) (added a b es) (AtOnce (Stored c a b))))) s (Works c (Store c a b) 1 s (e ∷ es))
          room true i = worked_within M mean 1 (AtOnce (Stored c a b)) (omega arith) (added_worked c a b s (e ∷ es) la lb n (ltb-true (length (e ∷ es)) 4 i) h)
          room false i = full_worked c a b s e es la lb n (ltb-false (length (e ∷ es)) 4 i) h

      go : (o : Option ℕ) → found a q ≡ o → Always M.steps (store_by c a b q o) s (Works c (Store c a b) 1 s q)
      go (Some y) f =
          worked_within M mean 1 (AtOnce (Stored c a b)) (omega arith)
          (ends_here M mean (Stored c a b) h.ready refl (sound_replaced a b q la lb h.sound) (let z = length_replaced a b q in let f = h.few in omega arith)
          (entered c a b s q (replaced a b q) (found_replaced a b q y f) (λ x i. found_replaced_other a b x q i)))
      go None f = new q f h

  pub release_worked : (c : ℕ) (q : List Entry) (s : M.State) → c < 8 → Idle M mean c s q → Always M.steps (release c q) s (Works c (Release c) (length q + 1) s q)
  release_worked c [] s lc h =
      straight_worked M mean
      (record {
        called = λ s t r. mean.accepts s (Release c) r t;
        core = refl;
        ended = release_straight c;
        fine = λ w. refl;
        same = refl;
        last = refl;
      })
      h (omega arith) (pass 8 c NoSuchCore _ lc (ap busy h.ready.free))
  release_worked c (e ∷ es) s lc h =
      oldest_worked M mean (release c es) (record { can_wait = tt; fine = refl; same = refl; within = omega arith }) h
      (λ t left.
      always_so M.steps (release c es) t (λ x u w. worked_within M mean (length (e ∷ es) + 1) x.0 (omega arith) (worked_then M mean x.0 x.1 u left w))
      (release_worked c es t lc (record { ready = left.ready; sound = h.sound.3; few = let f = h.few in omega arith })))

  pub acquire_worked : (c : ℕ) (s : M.State) (q : List Entry) → c < 8 → Idle M mean c s q → Always M.steps (straight (Acquire c) q) s (Works c (Acquire c) 1 s q)
  acquire_worked c s q lc h =
      straight_worked M mean
      (record {
        called = λ s t r. mean.accepts s (Acquire c) r t;
        core = refl;
        ended = acquire_straight c q;
        fine = λ w. refl;
        same = refl;
        last = refl;
      })
      h (omega arith) (pass 8 c NoSuchCore _ lc (ap busy h.ready.free))

  pub evict_worked : (c l : ℕ) (s : M.State) (q : List Entry) → c < 8 → l < 8 → Idle M mean c s q → Always M.steps (straight (Evict c l) q) s (Works c (Evict c l) 1 s q)
  evict_worked c l s q lc ll h =
      straight_worked M mean
      (record {
        called = λ s t r. mean.accepts s (Evict c l) r t;
        core = refl;
        ended = evict_straight c l q;
        fine = λ w. w;
        same = refl;
        last = refl;
      })
      h (omega arith, omega arith) (pass 8 c NoSuchCore _ lc (pass 8 l NoSuchAddress _ ll (ap busy h.ready.free)))
