-- What a core's work over a protocol that keeps the meaning does: call by call below, and so above.
use Rattle.std.proofs.Common.{◌≡◌, ℕ, ◌+◌, ◌*◌, ◌<◌, ◌≤◌, List, ◌∷◌, length, Some, None, sym, refl, ap, ◌∙◌, subst, mul-le-mul_left, mul-add, arith}
use Rattle.protocol.specs.declared.steps.Step.{Step}
use Rattle.protocol.specs.declared.steps.Step.TheVariants.{Store}
use Rattle.protocol.specs.declared.steps.Ended.{Ended}
use Rattle.protocol.specs.declared.steps.Ended.TheVariants.{Stored}
use Rattle.protocol.specs.declared.steps.Refusal.TheVariants.{NoSuchCore, NoSuchAddress}
use Rattle.protocol.specs.declared.steps.Reply.{Reply}
use Rattle.protocol.specs.declared.steps.Reply.TheVariants.{Refused, Waits, Ended as AtOnce, Moved, Finished}
use Rattle.protocol.specs.Moment.{Moment, Drifts, drift}
use Rattle.protocol.specs.Steps.{call_of, Fit, caller}
use Rattle.protocol.specs.Meaning.{Machine, Meaning, Reached, stepped, Possible, Brings, Called, CanWait, busy, refused_in}
use Rattle.buffer_rules.specs.declared.entries.Entry.{Entry}
use Rattle.buffer_rules.specs.Rules.{Buffer, Work, waiting, straight, store_oldest, once_ended, put}
use Rattle.buffer_rules.specs.Buffered.{seen_over, calls_left}
use Rattle.buffer_rules.proofs.Always.{Always}
use Rattle.buffer_rules.proofs.Held.{Sound}
use Rattle.buffer_rules.proofs.Names.{stored_is}
use Rattle.buffer_rules.proofs.Views.{Around, Straight, put_here, put_other, drifts_on, over_drifts, same_drift, oldest_leaves, brings_after, straight_drifts, straight_brings}
use Rattle.buffer_rules.proofs.Waiting.{CoreSound, Fine, call_below, pass}

module _ (M : Machine) (mean : Meaning M) where
  abbrev m : M.State → Moment
  m = M.moment

  -- Drift above, and what an ended call brings above, as core c's entries go from q to q'.
  abbrev pub DriftsAbove : ℕ → M.State → List Entry → M.State → List Entry → Type 0
  DriftsAbove c s q t q' = (E E' : ℕ → List Entry) → Around c q q' E E' → Drifts (seen_over E (M.moment s).view) (seen_over E' (M.moment t).view)

  abbrev pub BringsAbove : ℕ → Ended → M.State → List Entry → M.State → List Entry → Type 0
  BringsAbove c e s q t q' = (E E' : ℕ → List Entry) → Around c q q' E E' → Brings e (seen_over E (M.moment s).view) (seen_over E' (M.moment t).view)

  -- One after the other.
  between : {c : ℕ} {q q' q'' : List Entry} {E E' : ℕ → List Entry} → Around c q q'' E E' → (Around c q q' E (put E c q')) × (Around c q' q'' (put E c q') E')
  between {c} {q} {q'} {q''} {E} {E'} h =
      (record { before = h.before; afterwards = put_here E c q'; others = λ d n. put_other E c q' d n }, record { before = put_here E c q'; afterwards = h.afterwards; others = λ d n. h.others d n ∙ sym (put_other E c q' d n) })

  pub drifts_then : {c : ℕ} {s t u : M.State} {q q' q'' : List Entry} → DriftsAbove c s q t q' → DriftsAbove c t q' u q'' → DriftsAbove c s q u q''
  drifts_then {c} {q' = q'} a b E E' h = let x = between {q' = q'} h in drifts_on (a E (put E c q') x.0) (b (put E c q') E' x.1)

  pub brings_then : {c : ℕ} {s t : M.State} {q q' q'' : List Entry} (u : M.State) (e : Ended) → DriftsAbove c s q t q' → BringsAbove c e t q' u q'' → BringsAbove c e s q u q''
  brings_then {c} {s} {t} {q' = q'} u e a b E E' h =
      let x = between {q' = q'} h in
      brings_after (seen_over E (M.moment s).view) (seen_over (put E c q') (M.moment t).view) (seen_over E' (M.moment u).view) e (a E (put E c q') x.0) (b (put E c q') E' x.1)

  -- Core c may call below.
  pub record Ready (c : ℕ) (s : M.State) : Type 0 where
    pub reached : Reached M s
    pub core : c < 8
    pub free : (M.moment s).waits c ≡ None

  -- How the work of core c for the call k came out, by its reply.
  abbrev pub Outcome : ℕ → Step → M.State → List Entry → Buffer → M.State → Reply → Type 0
  Outcome c k s q b t (Refused e) = ⊥
  Outcome c k s q b t Waits = (CanWait k) × (b.pending ≡ Some k) × (DriftsAbove c s q t b.entries)
  Outcome c k s q b t (AtOnce e) = (call_of e ≡ k) × (b.pending ≡ None) × (BringsAbove c e s q t b.entries)
  Outcome c k s q b t Moved = ⊥
  Outcome c k s q b t (Finished e) = ⊥

  -- The work of core c for the call k, with at most n calls below, from s and the entries q to t and the buffer b.
  pub record Worked (c : ℕ) (k : Step) (n : ℕ) (s : M.State) (q : List Entry) (r : Reply) (b : Buffer) (t : M.State) : Type 0 where
    pub reached : Reached M t
    pub reach : (M.moment t).reach ≡ (M.moment s).reach
    pub others : (d : ℕ) → d < 8 → (d ≡ c → ⊥) → (M.moment t).waits d ≡ (M.moment s).waits d
    pub sound : CoreSound c b.entries b.pending ((M.moment t).waits c)
    pub paid : (M.moment t).due + (M.moment s).reach * calls_left b ≤ (M.moment s).due + (M.moment s).reach * n
    pub outcome : Outcome c k s q b t r

  -- One call below, accepted.
  pub record Below (c : ℕ) (k : Step) (s : M.State) (r : Reply) (t : M.State) : Type 0 where
    pub reached : Reached M t
    pub reach : (M.moment t).reach ≡ (M.moment s).reach
    pub called : Called k (M.moment s) (M.moment t) r

  abbrev CalledStep : Step → Type 0
  CalledStep k = (s t : M.State) (r : Reply) → Possible M s k r t → refused_in (M.moment s) k ≡ None → Called k (M.moment s) (M.moment t) r

  below_by : {c : ℕ} (k : Step) {s t : M.State} {r : Reply} → CalledStep k → Ready c s → Fit k → refused_in (M.moment s) k ≡ None → M.steps s k r t → Below c k s r t
  below_by k {s} {t} {r} called h f n e =
      let p : Possible M s k r t = record { reached = h.reached; fit = f; step = e } in
      record { reached = stepped h.reached f e; reach = mean.reach_stays s k r t p; called = called s t r p n }

  -- A core that may call, and its entries.
  pub record Idle (c : ℕ) (s : M.State) (q : List Entry) : Type 0 where
    pub ready : Ready c s
    pub sound : Sound q
    pub few : length q ≤ 4

  -- A call that ends without a call below.
  pub ends_here : {c : ℕ} {k : Step} {s : M.State} {q q' : List Entry} (e : Ended) → Ready c s → call_of e ≡ k → Sound q' → length q' ≤ 4 → BringsAbove c e s q s q' → Worked c k 0 s q (AtOnce e) (record { entries = q'; pending = None }) s
  ends_here e h i snd few br =
      record {
        reached = h.reached;
        reach = refl;
        others = λ d l n. refl;
        sound = record { sound = snd; few = few; fine = tt; same = h.free };
        paid = omega arith;
        outcome = (i, refl, br);
      }

  at_most : (d d' R x n n' : ℕ) → n ≤ n' → d' + R * x ≤ d + R * n → d' + R * x ≤ d + R * n'
  at_most d d' R x n n' h p = let z = mul-le-mul_left R h in omega arith

  pub worked_within : {c : ℕ} {k : Step} {s t : M.State} {q : List Entry} {b : Buffer} {n : ℕ} (n' : ℕ) (r : Reply) → n ≤ n' → Worked c k n s q r b t → Worked c k n' s q r b t
  worked_within {c} {k} {s} {t} {q} {b} {n} n' r h w =
      record {
        reached = w.reached;
        reach = w.reach;
        others = w.others;
        sound = w.sound;
        paid = at_most (m s).due (m t).due (m s).reach (calls_left b) n n' h w.paid;
        outcome = w.outcome;
      }

  -- A call that goes straight below.
  pub record StraightCall (c : ℕ) (k : Step) (q : List Entry) : Type 0 where
    pub called : CalledStep k
    pub core : caller k ≡ c
    pub ended : (e : Ended) → call_of e ≡ k → Straight c q e
    pub fine : CanWait k → Fine c q (Some k)
    pub same : call_below q (Some k) ≡ Some k
    pub last : calls_left (record { entries = q; pending = Some k }) ≡ 0

  pub straight_worked : {c : ℕ} {k : Step} {s : M.State} {q : List Entry} → StraightCall c k q → Idle c s q → Fit k → refused_in (M.moment s) k ≡ None → Always M.steps (straight k q) s (λ x t. Worked c k 1 s q x.0 x.1 t)
  straight_worked {c} {k} {s} {q} sc h f n r t e = go r (below_by k sc.called h.ready f n e)
    where
      go : (r : Reply) → Below c k s r t → Worked c k 1 s q r (record { entries = q; pending = waiting k r }) t
      go (Refused x) b = absurd b.called
      go Waits b =
          record {
            reached = b.reached;
            reach = b.reach;
            others = λ d l i. b.called.waiting.elsewhere d l (λ j. i (j ∙ sc.core));
            sound =
                record {
                  sound = h.sound;
                  few = h.few;
                  fine = sc.fine b.called.can_wait;
                  same = ap (M.moment t).waits (sym sc.core) ∙ b.called.waiting.there ∙ sym sc.same;
                };
            paid = subst (λ (i : ℕ). (M.moment t).due + (M.moment s).reach * i ≤ (M.moment s).due + (M.moment s).reach * 1) (sym sc.last) (let p = b.called.paid in omega arith);
            outcome = (b.called.can_wait, refl, λ E E' a. straight_drifts a b.called.drifts);
          }
      go (AtOnce x) b =
          record {
            reached = b.reached;
            reach = b.reach;
            others = λ d l i. b.called.waiting d l;
            sound = record { sound = h.sound; few = h.few; fine = tt; same = b.called.waiting c h.ready.core ∙ h.ready.free };
            paid = let p = b.called.paid in omega arith;
            outcome = (b.called.same, refl, λ E E' a. straight_brings (M.moment s).view (M.moment t).view x (sc.ended x b.called.same) a b.called.brings);
          }
      go Moved b = absurd b.called
      go (Finished x) b = absurd b.called

  -- The oldest entry has left: its store has ended below.
  pub record Left (c : ℕ) (s : M.State) (e : Entry) (es : List Entry) (t : M.State) : Type 0 where
    pub ready : Ready c t
    pub reach : (M.moment t).reach ≡ (M.moment s).reach
    pub others : (d : ℕ) → d < 8 → (d ≡ c → ⊥) → (M.moment t).waits d ≡ (M.moment s).waits d
    pub drifts : DriftsAbove c s (e ∷ es) t es
    pub paid : (M.moment t).due ≤ (M.moment s).due + (M.moment s).reach

  -- Its store below brings no more than drift above.
  pub leaving : {c : ℕ} {e : Entry} {es : List Entry} (s t : M.State) → c < 8 → Sound (e ∷ es) → Brings (Stored c e.address e.byte) (M.moment s).view (M.moment t).view → DriftsAbove c s (e ∷ es) t es
  leaving s t lc snd br E E' h =
      drifts_on (drift (over_drifts E br.2) (same_drift (oldest_leaves lc snd h br.3))) (over_drifts E' br.4)

  store_free : (c a b : ℕ) (s : M.State) → c < 8 → a < 64 → (M.moment s).waits c ≡ None → refused_in (M.moment s) (Store c a b) ≡ None
  store_free c a b s lc la n = pass 8 c NoSuchCore _ lc (pass 64 a NoSuchAddress _ la (ap busy n))

  -- The store of the oldest entry for the call k: the call stops there, or goes on without that entry.
  pub record ForOldest (c : ℕ) (k : Step) (n : ℕ) (e : Entry) (es : List Entry) : Type 0 where
    pub can_wait : CanWait k
    pub fine : Fine c (e ∷ es) (Some k)
    pub same : call_below (e ∷ es) (Some k) ≡ Some (Store c e.address e.byte)
    pub within : calls_left (record { entries = e ∷ es; pending = Some k }) + 1 ≤ n

  stopped_paid : (d d' R x n : ℕ) → x + 1 ≤ n → d' ≤ d + R → d' + R * x ≤ d + R * n
  stopped_paid d d' R x n h p = let z = mul-le-mul_left R h in omega arith

  pub oldest_worked : {c : ℕ} {k : Step} {n : ℕ} {s : M.State} {e : Entry} {es : List Entry} (go_on : Work) → ForOldest c k n e es → Idle c s (e ∷ es) → ((t : M.State) → Left c s e es t → Always M.steps go_on t (λ x u. Worked c k n s (e ∷ es) x.0 x.1 u)) → Always M.steps (store_oldest c k e es go_on) s (λ x u. Worked c k n s (e ∷ es) x.0 x.1 u)
  oldest_worked {c} {k} {n} {s} {e} {es} go_on f h next r t step =
      let lc = h.ready.core in
      let snd = h.sound in
      go r (below_by (Store c e.address e.byte) (λ s t r. mean.accepts s (Store c e.address e.byte) r t) h.ready (omega arith, omega (arith, snd.0), snd.1) (store_free c e.address e.byte s lc snd.0 h.ready.free) step)
    where
      go : (r : Reply) → Below c (Store c e.address e.byte) s r t → Always M.steps (once_ended k (e ∷ es) go_on r) t (λ x u. Worked c k n s (e ∷ es) x.0 x.1 u)
      go (Refused x) b = absurd b.called
      go Waits b =
          record {
            reached = b.reached;
            reach = b.reach;
            others = λ d l i. b.called.waiting.elsewhere d l i;
            sound = record { sound = h.sound; few = h.few; fine = f.fine; same = b.called.waiting.there ∙ sym f.same };
            paid = stopped_paid (m s).due (m t).due (m s).reach (calls_left (record { entries = e ∷ es; pending = Some k })) n f.within b.called.paid;
            outcome = (f.can_wait, refl, λ E E' a. straight_drifts a b.called.drifts);
          }
      go (AtOnce x) b =
          next t
          (record {
            ready = record { reached = b.reached; core = h.ready.core; free = b.called.waiting c h.ready.core ∙ h.ready.free };
            reach = b.reach;
            others = λ d l i. b.called.waiting d l;
            drifts =
                leaving s t h.ready.core h.sound (subst (λ (y : Ended). Brings y (M.moment s).view (M.moment t).view) (stored_is c e.address e.byte x b.called.same) b.called.brings);
            paid = b.called.paid;
          })
      go Moved b = absurd b.called
      go (Finished x) b = absurd b.called

  -- What a call still did after its oldest entry had left.
  then_paid : (d d' d'' R R' x n : ℕ) → R' ≡ R → d' ≤ d + R → d'' + R' * x ≤ d' + R' * n → d'' + R * x ≤ d + R * (n + 1)
  then_paid d d' d'' R R' x n e p q = let q' : d'' + R * x ≤ d' + R * n = subst (λ (y : ℕ). d'' + y * x ≤ d' + y * n) e q in let z = mul-add R n 1 in omega arith

  pub worked_then : {c : ℕ} {k : Step} {n : ℕ} {s t : M.State} {e : Entry} {es : List Entry} (r : Reply) (b : Buffer) (u : M.State) → Left c s e es t → Worked c k n t es r b u → Worked c k (n + 1) s (e ∷ es) r b u
  worked_then {c} {k} {n} {s} {t} {e} {es} r b u l w =
      record {
        reached = w.reached;
        reach = w.reach ∙ l.reach;
        others = λ d i j. w.others d i j ∙ l.others d i j;
        sound = w.sound;
        paid = then_paid (m s).due (m t).due (m u).due (m s).reach (m t).reach (calls_left b) n l.reach l.paid w.paid;
        outcome = go r w.outcome;
      }
    where
      go : (r : Reply) → Outcome c k t es b u r → Outcome c k s (e ∷ es) b u r
      go (Refused x) o = o
      go Waits o = (o.0, o.1, drifts_then l.drifts o.2)
      go (AtOnce x) o = (o.0, o.1, brings_then u x l.drifts o.2)
      go Moved o = o
      go (Finished x) o = o
