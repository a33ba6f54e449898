-- A call that has ended, by the call that it was.
use Rattle.std.proofs.Common.{◌≡◌, ℕ, List, [], None, refl}
use Rattle.protocol.specs.declared.steps.Step.TheVariants.{Load, Store, Acquire, Release, Evict}
use Rattle.protocol.specs.declared.steps.Ended.{Ended}
use Rattle.protocol.specs.declared.steps.Ended.TheVariants.{Loaded, Stored, Acquired, Released, Evicted}
use Rattle.protocol.specs.Steps.{call_of}
use Rattle.buffer_rules.specs.declared.entries.Entry.{Entry}
use Rattle.buffer_rules.specs.Entries.{found}
use Rattle.buffer_rules.proofs.Views.{Straight}

pub stored_is : (c a b : ℕ) (e : Ended) → call_of e ≡ Store c a b → e ≡ Stored c a b
stored_is c a b (Loaded d x y) h = cc
stored_is c a b (Stored d x y) h = cc
stored_is c a b (Acquired d) h = cc
stored_is c a b (Released d) h = cc
stored_is c a b (Evicted d l) h = cc

pub load_straight : (c a : ℕ) (q : List Entry) → found a q ≡ None → (e : Ended) → call_of e ≡ Load c a → Straight c q e
load_straight c a q n (Loaded d x y) h = (cc, let i : x ≡ a = cc in rw i n)
load_straight c a q n (Stored d x y) h = cc
load_straight c a q n (Acquired d) h = cc
load_straight c a q n (Released d) h = cc
load_straight c a q n (Evicted d l) h = cc

pub acquire_straight : (c : ℕ) (q : List Entry) (e : Ended) → call_of e ≡ Acquire c → Straight c q e
acquire_straight c q (Loaded d x y) h = cc
acquire_straight c q (Stored d x y) h = cc
acquire_straight c q (Acquired d) h = cc
acquire_straight c q (Released d) h = cc
acquire_straight c q (Evicted d l) h = cc

pub release_straight : (c : ℕ) (e : Ended) → call_of e ≡ Release c → Straight c [] e
release_straight c (Loaded d x y) h = cc
release_straight c (Stored d x y) h = cc
release_straight c (Acquired d) h = cc
release_straight c (Released d) h = (cc, refl)
release_straight c (Evicted d l) h = cc

pub evict_straight : (c l : ℕ) (q : List Entry) (e : Ended) → call_of e ≡ Evict c l → Straight c q e
evict_straight c l q (Loaded d x y) h = cc
evict_straight c l q (Stored d x y) h = cc
evict_straight c l q (Acquired d) h = cc
evict_straight c l q (Released d) h = cc
evict_straight c l q (Evicted d i) h = cc
