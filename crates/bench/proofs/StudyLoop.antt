-- A study's loop: the requests so far are answered, their outcomes are written one after the other, and the rest is as it was.
use Rattle.std.proofs.Common.{◌≡◌, ℕ, ◌+◌, ◌<◌, ◌≤◌, List, [], ◌∷◌, ◌++◌, length, get_or, take, drop, set, sym, refl, ap, ◌∙◌, subst, zero-le, arith}
use borrow.Rule.Slice.PartMut.{put_mid}
use Rattle.std.proofs.lemmas.List.{append_assoc, length-append, length-take-le, length-drop, take-append-drop, take_at, drop_at, take_all, take_more, take_more_set, drop-append-le, drop-drop, drop-set-lt}
use Rattle.protocol.specs.Meaning.{Machine, Meaning}
use Rattle.races.specs.declared.outcomes.Outcome.{Outcome}
use Rattle.races.specs.declared.table.RaceTable.{RaceTable}
use Rattle.races.specs.Log.{empty_log}
use Rattle.races.specs.Table.{start}
use Rattle.races.specs.Study.{set_up, Watched}
use Rattle.bench.specs.declared.requests.Request.{Request}
use Rattle.bench.specs.declared.requests.Answer.{Answer}
use Rattle.bench.specs.Requests.{AsksAll, no_more, room_of, rooms_of, Answered, Whole}
use Rattle.bench.proofs.Rooms.{rooms_less}
use Rattle.bench.proofs.Studying.{asks_more, holds_throughout, watched_all}

-- What stands after a part of a list is overwritten at its start.
module _ {X : Type 0} (xs rs part new : List X) (at k n : ℕ) (fits : at + k ≤ length xs) (is_part : part ≡ take k (drop at xs)) (is_new : new ≡ rs ++ drop n part) (long : length rs ≡ n) (few : n ≤ k) where
  over : put_mid at k xs new ≡ (take at xs ++ rs) ++ drop n (drop at xs)
  over =
      let ys = drop at xs in
      let l : length (take k ys) ≡ k = length-take-le k ys (let d = length-drop at xs in omega arith) in
      let tail : drop n (take k ys) ++ drop k ys ≡ drop n ys = sym (drop-append-le n (take k ys) (drop k ys) (omega arith)) ∙ ap (drop n) (take-append-drop k ys) in
      let e : new ≡ rs ++ drop n (take k ys) = is_new ∙ ap (λ (z : List X). rs ++ drop n z) is_part in
      ap (λ (z : List X). take at xs ++ (z ++ drop k ys)) e
      ∙ (ap (λ (z : List X). take at xs ++ z) (append_assoc rs (drop n (take k ys)) (drop k ys) ∙ ap (λ (z : List X). rs ++ z) tail) ∙ sym (append_assoc (take at xs) rs (drop n ys)))

  front_long : length (take at xs ++ rs) ≡ at + n
  front_long = length-append (take at xs) rs ∙ (let l : length (take at xs) ≡ at = length-take-le at xs (omega arith) in omega arith)

  pub over_take : take (at + n) (put_mid at k xs new) ≡ take at xs ++ rs
  over_take = ap (take (at + n)) over ∙ take_at (take at xs ++ rs) (drop n (drop at xs)) (at + n) front_long

  pub over_drop : drop (at + n) (put_mid at k xs new) ≡ drop (at + n) xs
  over_drop = ap (drop (at + n)) over ∙ (drop_at (take at xs ++ rs) (drop n (drop at xs)) (at + n) front_long ∙ drop-drop n at xs)

  pub over_long : length (put_mid at k xs new) ≡ length xs
  over_long =
      ap length over
      ∙ (length-append (take at xs ++ rs) (drop n (drop at xs)) ∙ (let a = front_long in let b = length-drop n (drop at xs) in let c = length-drop at xs in omega arith))

-- The loop so far.
pub record SoFar (M : Machine) (f : M.State) (x : RaceTable) (qs : List Request) (answers : List Answer) (out : List Outcome) (i at : ℕ) (t : M.State) (v : RaceTable) (now_answers : List Answer) (now_out : List Outcome) : Type 0 where
  pub asked : AsksAll M f x (take i qs) (take i now_answers) (take at now_out) t v
  pub told : drop i now_answers ≡ drop i answers
  pub rest : drop at now_out ≡ drop at out
  pub room : at + rooms_of (drop i qs) ≤ length out
  pub long : length now_out ≡ length out
  pub inside : at ≤ length now_out

pub far_none : (M : Machine) (s : M.State) (w : RaceTable) (qs : List Request) (answers : List Answer) (out : List Outcome) → rooms_of qs ≤ length out → SoFar M s w qs answers out 0 0 s w answers out
far_none M s w qs answers out h = record { asked = no_more; told = refl; rest = refl; room = omega arith; long = refl; inside = zero-le }

pub room_left : {M : Machine} {f t : M.State} {x v : RaceTable} (qs : List Request) {answers now_answers : List Answer} {out now_out : List Outcome} (i at room : ℕ) (d : Request) → SoFar M f x qs answers out i at t v now_answers now_out → i < length qs → room ≡ room_of (get_or qs i d) → at + room ≤ length now_out
room_left qs i at room d h l e = let a = rooms_less qs i d l in let b = h.room in let c = h.long in omega arith

pub far_more : (M : Machine) {f t u : M.State} {x v y : RaceTable} (qs : List Request) {answers now_answers : List Answer} {out : List Outcome} (now_out part new : List Outcome) (i at k n : ℕ) (d : Request) (a : Answer) → SoFar M f x qs answers out i at t v now_answers now_out → i < length qs → i < length now_answers → k ≡ room_of (get_or qs i d) → part ≡ take k (drop at now_out) → Answered M t v (get_or qs i d) part a n u y new → SoFar M f x qs answers out (i + 1) (at + n) u y (set now_answers i a) (put_mid at k now_out new)
far_more M {f} {t} {u} {x} {v} {y} qs {answers} {now_answers} {out} now_out part new i at k n d a h l m e p g =
    let left = room_left qs i at k d h l e in
    let fits : at + k ≤ length now_out = left in
    let few : n ≤ k = let q = g.few in let r = g.counted in omega arith in
    let less = rooms_less qs i d l in
    record {
      asked =
          subst (λ (z : List Request). AsksAll M f x z (take (i + 1) (set now_answers i a)) (take (at + n) (put_mid at k now_out new)) u y) (sym (take_more qs i d l))
          (subst (λ (z : List Answer). AsksAll M f x (take i qs ++ get_or qs i d ∷ []) z (take (at + n) (put_mid at k now_out new)) u y) (sym (take_more_set now_answers i a m))
          (subst (λ (z : List Outcome). AsksAll M f x (take i qs ++ get_or qs i d ∷ []) (take i now_answers ++ a ∷ []) z u y) (sym (over_take now_out g.rs part new at k n fits p g.written (sym g.counted) few))
          (asks_more h.asked g.asks)));
      told = drop-set-lt (i + 1) now_answers i a (omega arith) ∙ (sym (drop-drop 1 i now_answers) ∙ (ap (drop 1) h.told ∙ drop-drop 1 i answers));
      rest = over_drop now_out g.rs part new at k n fits p g.written (sym g.counted) few ∙ (sym (drop-drop n at now_out) ∙ (ap (drop n) h.rest ∙ drop-drop n at out));
      room = let r = h.room in omega arith;
      long = over_long now_out g.rs part new at k n fits p g.written (sym g.counted) few ∙ h.long;
      inside = let z = over_long now_out g.rs part new at k n fits p g.written (sym g.counted) few in omega arith;
    }

-- A fresh state with a starting table begins a study.
pub begins : (M : Machine) (f : M.State) (x : RaceTable) → M.fresh f → x ≡ start → Watched M f x empty_log
begins M f x h e = record { study = set_up h; table = e }

pub study_done : (M : Machine) → Meaning M → (f t : M.State) (x v : RaceTable) (qs : List Request) (answers now_answers : List Answer) (out now_out : List Outcome) (i at : ℕ) → M.fresh f → x ≡ start → SoFar M f x qs answers out i at t v now_answers now_out → i ≡ length qs → length qs ≤ length answers → rooms_of qs ≤ length out → Whole M qs answers out at t v now_answers now_out
study_done M means f t x v qs answers now_answers out now_out i at h e far is enough room =
    let asked : AsksAll M f start qs (take i now_answers) (take at now_out) t v =
    subst (λ (z : List Request). AsksAll M f start z (take i now_answers) (take at now_out) t v) (take_all i qs (omega arith)) (subst (λ (z : RaceTable). AsksAll M f z (take i qs) (take i now_answers) (take at now_out) t v) e far.asked) in
    record {
      first = f;
      begins = h;
      said = take i now_answers;
      rs = take at now_out;
      asked = asked;
      holds = holds_throughout M means asked empty_log (begins M f start h refl);
      carries = watched_all M means asked empty_log (begins M f start h refl);
      enough = enough;
      room = room;
      counted = sym (length-take-le at now_out far.inside);
      told = sym (take-append-drop i now_answers) ∙ (ap (λ (z : List Answer). take i now_answers ++ z) far.told ∙ ap (λ (z : ℕ). take i now_answers ++ drop z answers) is);
      written = sym (take-append-drop at now_out) ∙ ap (λ (z : List Outcome). take at now_out ++ z) far.rest;
    }
