-- The search for an open place skips the nine places of a core of which none carries a message.
use Rattle.std.proofs.Common.{◌≡◌, ℕ, zero, suc, ◌+◌, ◌/◌, ◌%◌, ◌<◌, ◌≤◌, true, false, cond, not, eqb, ltb, sym, ap, ◌∙◌, subst, ⊎_elim, add-zero, arith}
use Rattle.std.proofs.lemmas.Bool.{cases_eq, eq-eqb, ne_eqb, cond-true, cond-false, cases_Bool, and_parts, not-true}
use Rattle.neat_rules.specs.State.{State, some_below}
use Rattle.neat_rules.specs.Reading.{carries, close_carries, open_in, next_open}
use Rattle.neat_rules.proofs.Tables.{none_below}
use Rattle.neat.specs.Parts.{quiet}
use Rattle.neat.proofs.Opening.{search_more}

-- A place of a quiet core is not open.
shut_there : (s : State) (p : ℕ) → quiet (s.cores (p / 9)) ≡ true → open_in s p ≡ false
shut_there s p q =
    let x = s.cores (p / 9) in
    let parts = and_parts (not (some_below 8 (λ l. carries (x.slot l).place))) (not (close_carries x.closing)) q in
    let lines = not-true (some_below 8 (λ l. carries (x.slot l).place)) parts.0 in
    let close = not-true (close_carries x.closing) parts.1 in
    let inner : cond (eqb (p % 9) 8) (close_carries x.closing) (carries (x.slot (p % 9)).place) ≡ false =
    ⊎_elim
    (λ (e : p % 9 ≡ 8). cond-true (eqb (p % 9) 8) _ _ (eq-eqb (p % 9) 8 e) ∙ close)
    (λ (e : p % 9 ≡ 8 → ⊥). cond-false (eqb (p % 9) 8) _ _ (ne_eqb (p % 9) 8 e) ∙ none_below 8 (λ l. carries (x.slot l).place) lines (p % 9) (omega arith))
    (cases_eq (p % 9) 8) in
    ⊎_elim (λ (e : ltb p 72 ≡ true). cond-true (ltb p 72) _ _ e ∙ inner) (λ (e : ltb p 72 ≡ false). cond-false (ltb p 72) _ _ e) (cases_Bool (ltb p 72))

-- The search goes on past k places that are not open.
search_past : (s : State) (n k : ℕ) → n + k ≤ 72 → ((i : ℕ) → i < k → open_in s (n + i) ≡ false) → next_open s n ≡ next_open s (n + k)
search_past s n zero l h = ap (next_open s) (sym (add-zero n))
search_past s n (suc k) l h =
    let next : n + k + 1 ≡ n + suc k = omega arith in
    search_past s n k (omega arith) (λ i m. h i (omega arith)) ∙ (search_more s (n + k) (omega arith) (h k (omega arith)) ∙ ap (next_open s) next)

pub search_skips : (s : State) (n : ℕ) → n % 9 ≡ 0 → n < 72 → quiet (s.cores (n / 9)) ≡ true → next_open s n ≡ next_open s (n + 9)
search_skips s n e l q =
    search_past s n 9 (omega arith)
    (λ i m. let same : n / 9 ≡ (n + i) / 9 = omega arith in shut_there s (n + i) (subst (λ (c : ℕ). quiet (s.cores c) ≡ true) same q))
