-- What was put into a page piece by piece: the lines of some steps, the digits of an image, and a whole report.
use Rattle.std.proofs.Common.{◌≡◌, ℕ, zero, suc, ◌+◌, ◌*◌, ◌<◌, ◌≤◌, Bool, cond, leb, List, [], ◌∷◌, ◌++◌, length, get_or, take, drop, Ok, Err, Result, sym, refl, ap, ◌∙◌, subst, add-one, arith}
use Rattle.std.proofs.lemmas.List.{append_assoc, append-nil, length-append, take_more}
use Rattle.protocol.specs.declared.steps.Step.{Step}
use Rattle.protocol.specs.Meaning.{Machine, Meaning}
use Rattle.races.specs.declared.outcomes.Outcome.{Outcome}
use Rattle.races.specs.declared.table.RaceTable.{RaceTable}
use Rattle.races.specs.Log.{Log, empty_log}
use Rattle.races.specs.Table.{start}
use Rattle.races.specs.Study.{set_up, Watched, Takes}
use Rattle.bench.specs.Chains.{Chain, AnyStep, logged}
use Rattle.bench.proofs.Chaining.{chain_more, chain_length}
use Rattle.bench.proofs.Holding.{holds_along, chain_carries}
use Rattle.bench.proofs.Computing.{comes_to}
use Rattle.report.specs.declared.page.Page.{Page}
use Rattle.report.specs.Page.{written, rest, Puts}
use Rattle.report.proofs.Paging.{IsWhole, puts_more, puts_whole}
use Rattle.report.proofs.Pieces.{line_length}
use Rattle.report.specs.Lines.{step_line, ended_line, line_end}
use Rattle.std.proofs.lemmas.Bool.{lt-leb}
use Rattle.std.specs.Result.{result_unwrap_or}
use Rattle.protocol.specs.declared.steps.Refusal.{Refusal}
use Rattle.protocol.specs.declared.steps.Refusal.TheVariants.{NoSuchAddress}
use Rattle.report.specs.Digits.{byte_digits}
use Rattle.printing.specs.Page.{step_lines, image_digits, image_line, StepsPrinted, Printed}

-- One step's line more.
lines_more : (ks : List Step) (rs : List Outcome) (k : Step) (r : Outcome) → length ks ≡ length rs → step_lines (ks ++ k ∷ []) (rs ++ r ∷ []) ≡ step_lines ks rs ++ step_line k r
lines_more [] [] k r h = append-nil (step_line k r)
lines_more [] (y ∷ ys) k r h = absurd (omega arith)
lines_more (x ∷ xs) [] k r h = absurd (omega arith)
lines_more (x ∷ xs) (y ∷ ys) k r h = ap (λ (z : List ℕ). step_line x y ++ z) (lines_more xs ys k r (omega arith)) ∙ sym (append_assoc (step_line x y) (step_lines xs ys) (step_line k r))

pub steps_more : (M : Machine) {s t u : M.State} {w v x : RaceTable} {p q o : Page} (ks : List Step) (i : ℕ) (d : Step) (r : Outcome) (bytes : List ℕ) → i < length ks → StepsPrinted M s w (take i ks) p q t v → Takes M t v (get_or ks i d) r u x → bytes ≡ step_line (get_or ks i d) r → Puts q o bytes → StepsPrinted M s w (take (i + 1) ks) p o u x
steps_more M {s} {t} {u} {w} {v} {x} {p} {q} {o} ks i d r bytes l h g e f =
    let k = get_or ks i d in
    let lines : step_lines (take i ks) h.rs ++ bytes ≡ step_lines (take i ks ++ k ∷ []) (h.rs ++ r ∷ []) =
    ap (λ (z : List ℕ). step_lines (take i ks) h.rs ++ z) e ∙ sym (lines_more (take i ks) h.rs k r (chain_length M (AnyStep M) h.chain)) in
    subst (λ (z : List Step). StepsPrinted M s w z p o u x) (sym (take_more ks i d l)) (record {
      rs = h.rs ++ r ∷ [];
      chain = chain_more M (AnyStep M) h.chain tt g;
      puts = subst (Puts p o) lines (puts_more (step_lines (take i ks) h.rs) bytes h.puts f);
    })

-- One address more.
pub image_more : (home : ℕ → ℕ) {p q o : Page} (bytes : List ℕ) (n byte : ℕ) (r : Result ℕ Refusal) → n < 64 → Puts p q (image_digits home n) → bytes ≡ byte_digits byte → byte ≡ result_unwrap_or r 0 → r ≡ cond (leb 64 n) (Err NoSuchAddress) (Ok (home n)) → Puts q o bytes → Puts p o (image_digits home (n + 1))
image_more home {p} {q} {o} bytes n byte r l h e b i f =
    let is : byte ≡ home n = b ∙ ap (λ (z : Result ℕ Refusal). result_unwrap_or z 0) (i ∙ ap (λ (t : Bool). cond t (Err NoSuchAddress) (Ok (home n))) (lt-leb 64 n l)) in
    let digits : image_digits home n ++ bytes ≡ image_digits home (n + 1) = ap (λ (z : List ℕ). image_digits home n ++ z) (e ∙ ap byte_digits is) ∙ sym (ap (image_digits home) (add-one n)) in
    subst (Puts p o) digits (puts_more (image_digits home n) bytes h f)

-- A step's line has fourteen bytes, so n of them have fourteen times n.
lines_length : (ks : List Step) (rs : List Outcome) → length ks ≡ length rs → length (step_lines ks rs) ≡ 14 * length ks
lines_length [] rs h = refl
lines_length (k ∷ ks) [] h = absurd (omega arith)
lines_length (k ∷ ks) (r ∷ rs) h = let n = lines_length ks rs (omega arith) in let l = line_length k r in length-append (step_line k r) (step_lines ks rs) ∙ omega arith

digits_length : (home : ℕ → ℕ) (n : ℕ) → length (image_digits home n) ≡ 2 * n
digits_length home zero = refl
digits_length home (suc n) = let h = digits_length home n in length-append (image_digits home n) (byte_digits (home n)) ∙ omega arith

-- A whole page: the heading, the lines of the steps, the counts, the image and the line end, one behind the other.
pub page_done : (M : Machine) (means : Meaning M) (s t : M.State) (w v : RaceTable) (ks : List Step) (heading counts out : List ℕ) {p₀ p₁ p₂ p₃ p₄ p₅ : Page} → M.fresh s → w ≡ start → length heading ≡ 11 → written p₀ ≡ [] → rest p₀ ≡ out → Puts p₀ p₁ heading → StepsPrinted M s w ks p₁ p₂ t v → counts ≡ ended_line v.ended v.first_race → Puts p₂ p₃ counts → ((log : Log) → Watched M t v log → Puts p₃ p₄ (image_digits (M.moment t).view.home 64)) → Puts p₄ p₅ line_end → 163 + 14 * length ks ≤ length out → Printed M heading ks out p₅.buffer.now (length (written p₅))
page_done M means s t w v ks heading counts out {p₀} {p₁} {p₂} {p₃} {p₄} {p₅} fresh table n₁ empty all f₁ steps e₃ f₃ f₄ f₅ room =
    let home = (M.moment t).view.home in
    let begun : Watched M s w empty_log = record { study = set_up fresh; table = table } in
    let chain : Chain M (AnyStep M) s start ks steps.rs t v = subst (λ (z : RaceTable). Chain M (AnyStep M) s z ks steps.rs t v) table steps.chain in
    let lines = step_lines ks steps.rs in
    let n₂ : length lines ≡ 14 * length ks = lines_length ks steps.rs (chain_length M (AnyStep M) steps.chain) in
    let n₃ : length counts ≡ 23 = ap length e₃ in
    let n₄ : length (image_line home) ≡ 129 = let n = digits_length home 64 in length-append (image_digits home 64) line_end ∙ omega arith in
    let page = heading ++ (lines ++ (counts ++ image_line home)) in
    let long : length page ≡ 163 + 14 * length ks = length-append heading (lines ++ (counts ++ image_line home)) ∙ (let a = length-append lines (counts ++ image_line home) in let b = length-append counts (image_line home) in omega arith) in
    let image = f₄ (logged empty_log ks steps.rs) (chain_carries M (AnyStep M) steps.chain empty_log begun) in
    let done : IsWhole p₀ p₅ page = puts_whole page empty (let r = ap length all in omega arith) (puts_more heading _ f₁ (puts_more lines _ steps.puts (puts_more counts _ f₃ (puts_more (image_digits home 64) line_end image f₅)))) in
    let count : length (written p₅) ≡ 163 + 14 * length ks = ap length done.wrote ∙ long in
    record {
      first = s;
      last = t;
      table = v;
      rs = steps.rs;
      begins = fresh;
      chain = chain;
      computed = comes_to M chain;
      holds = holds_along M means chain empty_log (subst (λ (z : RaceTable). Watched M s z empty_log) table begun);
      written = done.holds ∙ (λ i. (heading ++ (lines ++ (e₃ i ++ image_line home))) ++ drop ((long ∙ sym count) i) (all i));
      counted = count;
      room = omega arith;
    }

-- The same buffer, by what it holds and how much was written.
pub printed_as : {M : Machine} {heading : List ℕ} {ks : List Step} {out now new : List ℕ} {n m : ℕ} → new ≡ now → m ≡ n → Printed M heading ks out now n → Printed M heading ks out new m
printed_as {M} {heading} {ks} {out} {now} {new} {n} {m} e q h = subst (λ (z : List ℕ). Printed M heading ks out z m) (sym e) (subst (λ (k : ℕ). Printed M heading ks out now k) (sym q) h)
