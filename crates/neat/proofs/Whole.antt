-- A write into the table of cores' parts, or into that and the LLC, read as the rules' change of the state.
use Rattle.std.proofs.Common.{◌≡◌, ℕ, zero, suc, ◌<◌, List, [], length, get_or, set, replicate, ap, ◌∙◌, ap₂, arith}
use Rattle.std.proofs.lemmas.List.{get_or_default}
use Rattle.protocol.specs.declared.steps.Reply.{Reply}
use Rattle.neat_rules.specs.State.{with_at, Core, State}
use Rattle.neat_rules.specs.Rules.{message_moved, given, line_move, at_core}
use Rattle.neat.specs.declared.core_part.CorePart.{CorePart}
use Rattle.neat.specs.Blocks.{as_bytes}
use Rattle.neat.specs.Parts.{as_core}
use Rattle.neat.specs.declared.caches.Caches.{Caches}
use Rattle.neat.specs.Whole.{no_part, as_state}
use Rattle.neat.proofs.Arrays.{array_set}

abbrev cores_of : List CorePart → ℕ → Core
cores_of xs c = as_core (get_or xs c no_part)

abbrev llc_of : List (List ℕ) → ℕ → ℕ → ℕ
llc_of ds l = as_bytes (get_or ds l [])

-- The cores' parts when that of core c is written.
cores_changed : (xs : List CorePart) (i c : ℕ) (y : CorePart) → length xs ≡ 8 → c < 8 → i ≡ c → cores_of (set xs i y) ≡ with_at (cores_of xs) c (as_core y)
cores_changed xs i c y h lt e = array_set as_core no_part xs i y (omega arith) ∙ ap (λ (k : ℕ). with_at (cores_of xs) k (as_core y)) e

-- A part that is read at any default.
read_there : (xs : List CorePart) (i c : ℕ) (z : CorePart) → length xs ≡ 8 → c < 8 → i ≡ c → as_core (get_or xs i z) ≡ cores_of xs c
read_there xs i c z h lt e = ap as_core (get_or_default xs i z no_part (omega arith)) ∙ ap (cores_of xs) e

-- The part of core c becomes y by the rule R.
pub core_changed : (R : Core → Reply × Core) (x : Caches) (i c : ℕ) (y z : CorePart) (r : Reply) → length x.cores ≡ 8 → c < 8 → i ≡ c → (r, as_core y) ≡ R (as_core (get_or x.cores i z)) → ◌≡◌ {A = Reply × State} (r, as_state (record { cores = set x.cores i y; llc = x.llc })) (at_core (as_state x) c (R ((as_state x).cores c)))
core_changed R x i c y z r h lt e f =
    ap (λ (g : ℕ → Core). whole r g) (cores_changed x.cores i c y h lt e)
    ∙ ap (at_core (as_state x) c) (f ∙ ap R (read_there x.cores i c z h lt e))
  where
    whole : Reply → (ℕ → Core) → Reply × State
    whole q g = (q, record { cores = g; llc = llc_of x.llc })

pub line_changed : (xs : List CorePart) (ds : List (List ℕ)) (i c j l : ℕ) (y z : CorePart) (e : List ℕ) (r : Reply) → length xs ≡ 8 → length ds ≡ 8 → c < 8 → l < 8 → i ≡ c → j ≡ l → (r, as_core y) ≡ message_moved ((as_core (get_or xs i z)).slot l).place c l (as_bytes (get_or ds j [])) (as_core (get_or xs i z)) → as_bytes e ≡ given ((as_core (get_or xs i z)).slot l).place (as_bytes (get_or ds j [])) → ◌≡◌ {A = Reply × State} (r, record { cores = cores_of (set xs i y); llc = llc_of (set ds j e) }) (line_move (record { cores = cores_of xs; llc = llc_of ds }) c l)
line_changed xs ds i c j l y z e r h k lt in_line p q f g =
    ap₂ (λ (m : ℕ → Core) (n : ℕ → ℕ → ℕ). whole r m n) (cores_changed xs i c y h lt p)
    (array_set as_bytes [] ds j e (omega arith) ∙ ap (with_at (llc_of ds) j) (g ∙ ap₂ (λ (x : Core) (b : ℕ). given (x.slot l).place (llc_of ds b)) x_is q) ∙ ap (λ (b : ℕ). with_at (llc_of ds) b (given ((cores_of xs c).slot l).place (llc_of ds l))) q)
    ∙ ap moved (f ∙ ap₂ (λ (x : Core) (b : ℕ). message_moved (x.slot l).place c l (llc_of ds b) x) x_is q)
  where
    x_is : as_core (get_or xs i z) ≡ cores_of xs c
    x_is = read_there xs i c z h lt p

    whole : Reply → (ℕ → Core) → (ℕ → ℕ → ℕ) → Reply × State
    whole a m n = (a, record { cores = m; llc = n })

    moved : Reply × Core → Reply × State
    moved a = (a.0, record { cores = with_at (cores_of xs) c a.1; llc = with_at (llc_of ds) l (given ((cores_of xs c).slot l).place (llc_of ds l)) })

-- A table of equal elements.
pub all_same : {X Y : Type 0} (f : X → Y) (x d : X) (y : Y) → f x ≡ y → f d ≡ y → (k n : ℕ) → f (get_or (replicate k x) n d) ≡ y
all_same f x d y e g zero n = g
all_same f x d y e g (suc k) zero = e
all_same f x d y e g (suc k) (suc n) = all_same f x d y e g k n
