-- A place by its number: whether it is open, its move, and the search for the first that is open.
use Rattle.std.proofs.Common.{◌≡◌, ℕ, suc, ◌+◌, ◌-◌, ◌/◌, ◌%◌, ◌<◌, ◌≤◌, Bool, true, false, cond, eqb, ltb, Some, None, Ok, Err, Result, sym, refl, ap, ◌∙◌, ap₂, arith}
use Rattle.std.proofs.lemmas.Bool.{eq-eqb, ne_eqb, cond-true, cond-false}
use Rattle.protocol.specs.Rules.{guarded}
use Rattle.protocol.specs.declared.steps.Refusal.{Refusal}
use Rattle.protocol.specs.declared.steps.Refusal.TheVariants.{PlaceNotOpen}
use Rattle.protocol.specs.declared.steps.Reply.{Reply}
use Rattle.protocol.specs.declared.steps.Step.TheVariants.{Move}
use Rattle.neat_rules.specs.State.{State}
use Rattle.neat_rules.specs.Rules.{act, line_move, close_move}
use Rattle.neat_rules.specs.Reading.{moment, carries, close_carries, open_in, first_open, next_open}
use Rattle.neat.specs.declared.place.Place.{Place}
use Rattle.neat.specs.declared.place.Place.TheVariants.{Line, Close}
use Rattle.neat.specs.Places.{located, place_at}
use Rattle.neat.specs.Whole.{open_there, moved_there}
use Rattle.neat.proofs.Steps.{accepted}

-- A located place is one of the 72, and has the core and the line of its number.
placed : (n x y : ℕ) → ◌≡◌ {A = Result (ℕ × ℕ) Refusal} (Ok (x, y)) (place_at n) → (ltb n 72 ≡ true) × (x ≡ n / 9) × (y ≡ n % 9)
placed n x y h = go (ltb n 72) h
  where
    go : (t : Bool) → ◌≡◌ {A = Result (ℕ × ℕ) Refusal} (Ok (x, y)) (cond t (Ok (n / 9, n % 9)) (Err PlaceNotOpen)) → (t ≡ true) × (x ≡ n / 9) × (y ≡ n % 9)
    go true h = let e : ◌≡◌ {A = ℕ × ℕ} (x, y) (n / 9, n % 9) = cc in (refl, ap (λ p. p.0) e, ap (λ p. p.1) e)
    go false h = absurd cc

open_placed : (s : State) (p : Place) (n : ℕ) → located (Ok p) ≡ place_at n → open_in s n ≡ open_there s p
open_placed s (Line c l) n h =
    let q = placed n c.number l.number h in
    let l_is = q.2 in
    let range = l.in_range in
    cond-true (ltb n 72) (cond (eqb (n % 9) 8) (close_carries (s.cores (n / 9)).closing) (carries ((s.cores (n / 9)).slot (n % 9)).place)) false q.0
    ∙ cond-false (eqb (n % 9) 8) (close_carries (s.cores (n / 9)).closing) (carries ((s.cores (n / 9)).slot (n % 9)).place) (ne_eqb (n % 9) 8 (omega arith))
    ∙ sym (ap₂ (λ (d k : ℕ). carries ((s.cores d).slot k).place) q.1 q.2)
open_placed s (Close c) n h =
    let q = placed n c.number 8 h in
    cond-true (ltb n 72) (cond (eqb (n % 9) 8) (close_carries (s.cores (n / 9)).closing) (carries ((s.cores (n / 9)).slot (n % 9)).place)) false q.0
    ∙ cond-true (eqb (n % 9) 8) (close_carries (s.cores (n / 9)).closing) (carries ((s.cores (n / 9)).slot (n % 9)).place) (eq-eqb (n % 9) 8 (sym q.2))
    ∙ sym (ap (λ (d : ℕ). close_carries (s.cores d).closing) q.1)

moved_placed : (s : State) (p : Place) (n : ℕ) → located (Ok p) ≡ place_at n → moved_there s p ≡ act s (Move n)
moved_placed s (Line c l) n h =
    let q = placed n c.number l.number h in
    let l_is = q.2 in
    let range = l.in_range in
    ap₂ (λ (d k : ℕ). line_move s d k) q.1 q.2 ∙ sym (cond-false (eqb (n % 9) 8) (close_move s (n / 9)) (line_move s (n / 9) (n % 9)) (ne_eqb (n % 9) 8 (omega arith)))
moved_placed s (Close c) n h =
    let q = placed n c.number 8 h in
    ap (close_move s) q.1 ∙ sym (cond-true (eqb (n % 9) 8) (close_move s (n / 9)) (line_move s (n / 9) (n % 9)) (eq-eqb (n % 9) 8 (sym q.2)))

pub move_step : (s : State) (p : Place) (n : ℕ) (q : Reply × State) → located (Ok p) ≡ place_at n → true ≡ open_there s p → q ≡ moved_there s p → q ≡ guarded moment act s (Move n)
move_step s p n q h o e =
    accepted s (Move n) q (cond-true (open_in s n) None (Some PlaceNotOpen) (open_placed s p n h ∙ sym o)) (e ∙ moved_placed s p n h)

-- The search goes on past a place that is not open, and ends at one that is.
more : (n : ℕ) → n < 72 → 72 - n ≡ suc (72 - (n + 1))
more n h = omega arith

pub search_more : (s : State) (n : ℕ) → n < 72 → open_in s n ≡ false → next_open s n ≡ next_open s (n + 1)
search_more s n h e = ap (λ (k : ℕ). first_open k s n) (more n h) ∙ cond-false (open_in s n) (Some n) (first_open (72 - (n + 1)) s (n + 1)) e

pub search_found : (s : State) (n : ℕ) → n < 72 → open_in s n ≡ true → Some n ≡ next_open s n
search_found s n h e = sym (ap (λ (k : ℕ). first_open k s n) (more n h) ∙ cond-true (open_in s n) (Some n) (first_open (72 - (n + 1)) s (n + 1)) e)

pub search_done : (s : State) (n : ℕ) → 72 ≤ n → None ≡ next_open s n
search_done s n h = sym (ap (λ (k : ℕ). first_open k s n) (none n h))
  where
    none : (n : ℕ) → 72 ≤ n → 72 - n ≡ 0
    none n h = omega arith
