-- The room that some requests want, and whether it fits, as `try_fold` finds it.
use Rattle.std.proofs.Common.{◌≡◌, ℕ, ◌+◌, ◌-◌, ◌<◌, ◌≤◌, leb, List, [], ◌∷◌, ◌++◌, length, get_or, take, drop, sym, ap, ◌∙◌, arith}
use Rattle.std.proofs.lemmas.List.{take-append-drop, drop_more, take_more}
use Rattle.std.proofs.lemmas.Bool.{le-leb, lt-leb}
use Rattle.std.proofs.Common.{Iter, Option, Some, None, is_some, subst, refl}
use Rattle.std.specs.Prelude.{MatchOption, SomeIff}
use Rattle.std.specs.declared.ops.ControlFlow.{ControlFlow}
use Rattle.std.specs.ControlFlow.{continue_value}
use Rattle.std.specs.Fn.{Called}
use Rattle.std.specs.Iterator.{Yields, TryFoldTurn, TryFoldsItems}
use Rattle.std.specs.List.{FoldsTo}
use Rattle.std.specs.Slice.Iter.{iter_steps, iter_rest}
use denote.Param.Members.{Mut}
use denote.Ref.{Bor}
use Rattle.bench.specs.declared.requests.Request.{Request}
use Rattle.bench.specs.Requests.{room_of, rooms_of}

pub rooms_append : (xs ys : List Request) → rooms_of (xs ++ ys) ≡ rooms_of xs + rooms_of ys
rooms_append [] ys = omega arith
rooms_append (x ∷ xs) ys = let h = rooms_append xs ys in omega arith

pub rooms_split : (xs : List Request) (i : ℕ) → rooms_of xs ≡ rooms_of (take i xs) + rooms_of (drop i xs)
rooms_split xs i = ap rooms_of (sym (take-append-drop i xs)) ∙ rooms_append (take i xs) (drop i xs)

-- One request more.
pub rooms_more : (xs : List Request) (i : ℕ) (d : Request) → i < length xs → rooms_of (take (i + 1) xs) ≡ rooms_of (take i xs) + room_of (get_or xs i d)
rooms_more xs i d h = let p = rooms_append (take i xs) (get_or xs i d ∷ []) in ap rooms_of (take_more xs i d h) ∙ omega arith

pub rooms_less : (xs : List Request) (i : ℕ) (d : Request) → i < length xs → rooms_of (drop i xs) ≡ room_of (get_or xs i d) + rooms_of (drop (i + 1) xs)
rooms_less xs i d h = ap rooms_of (drop_more xs i d h)

none_left : (xs : List Request) → length xs ≡ 0 → rooms_of xs ≡ 0
none_left [] h = refl
none_left (x ∷ xs) h = absurd (omega arith)

-- The room of one request is taken from what is left, or there is too little.
abbrev pub TakesRoom : ℕ → ℕ → Option ℕ → Type 0
TakesRoom left room o = MatchOption o (left < room) (λ n. n + room ≡ left)

pub taken : (left room : ℕ) (o : Option ℕ) → SomeIff o (room ≤ left) (left - room) → TakesRoom left room o
taken left room None h = omega arith
taken left room (Some n) h = let a = h.0 in let b = h.1 in omega arith

-- A walk over some requests that takes the room of each from what is left, and stops where there is too little.
module _ {F : Type 0} (E : Type 0) (g : Mut F (ℕ × (Bor Request × Unit {0})) (Option ℕ)) (takes : (p q : F) (left : ℕ) (x : Bor Request) (o : Option ℕ) → Called g p (left, (x, tt)) o q → TakesRoom left (room_of x.now) o) where
  abbrev Branches : Option ℕ → ControlFlow E ℕ → Type 0
  Branches o r = o ≡ continue_value r

  walk : (xs : List (Bor Request)) (p q : F × ℕ) (s t : Iter Request) → Yields iter_steps s xs t → FoldsTo (TryFoldTurn g Branches) p xs q → rooms_of (iter_rest s) + q.1 ≡ p.1 + rooms_of (iter_rest t)
  walk [] p q s t y f = let a = ap (λ (z : Iter Request). rooms_of (iter_rest z)) y in let b = ap (λ (z : F × ℕ). z.1) f in omega arith
  walk (x ∷ xs) p q s t y (j, (o, k, b), f) =
      let a = walk xs j q y.0 t y.2 f in
      let turn = subst (TakesRoom p.1 (room_of x.now)) b (takes p.0 j.0 p.1 x o k) in
      let c = ap rooms_of y.1 in
      omega arith

  ended : (s t u : Iter Request) (q : F) (most left : ℕ) (o : Option (Bor Request)) (r : Option ℕ) → rooms_of (iter_rest s) + left ≡ most + rooms_of (iter_rest t) → iter_steps t o u → MatchOption o (r ≡ Some left) (λ x. (v : Option ℕ) × (h : F) × E × Called g q (left, (x, tt)) v h × (v ≡ None) × (r ≡ None)) → is_some r ≡ leb (rooms_of (iter_rest s)) most
  ended s t u q most left None r w y m = let a = none_left (iter_rest t) y.0 in ap is_some m ∙ sym (le-leb (rooms_of (iter_rest s)) most (omega arith))
  ended s t u q most left (Some x) r w y (v, h, e, c, b, z) =
      let a = ap rooms_of y in
      let l : left < room_of x.now = subst (TakesRoom left (room_of x.now)) b (takes q h left x v c) in
      ap is_some z ∙ sym (lt-leb (rooms_of (iter_rest s)) most (omega arith))

  pub fits_is : {s u : Iter Request} {f : F} (most : ℕ) (r : Option ℕ) → TryFoldsItems iter_steps g Branches (λ _ o. o ≡ None) s f most r u → is_some r ≡ leb (rooms_of (iter_rest s)) most
  fits_is {s} {u} {f} most r (xs, o, q, left, (t, y, z), w, m) = ended s t u q most left o r (walk xs (f, most) (q, left) s t y w) z m
