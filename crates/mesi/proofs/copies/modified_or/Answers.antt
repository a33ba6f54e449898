-- The line of the first M copy.
use Rattle.std.proofs.Common.{◌≡◌, List, ℕ, [], ◌∷◌, Some, None, Option, Bor, refl, ap, ◌∙◌, rules}
use Rattle.std.specs.Option.{option_map, unwrap_or}
use Rattle.mesi_rules.specs.declared.copies.PrivateLine.{PrivateLine}
use Rattle.mesi_rules.specs.Copies.{modified_line, modified_or}
use Rattle.mesi.proofs.FindMap.{first, first_from_find_map}
use Rattle.mesi.proofs.copies.modified_or.Goals as goal

first_or : (o : Option (List ℕ)) (line below : List ℕ) (rest : Option (List ℕ)) → unwrap_or rest line ≡ below → unwrap_or (elim o [ None ↦ rest | Some y ↦ Some y ]) line ≡ unwrap_or o below
first_or None line below rest e = e
first_or (Some y) line below rest e = refl

first_modified : (line : List ℕ) (xs : List PrivateLine) → unwrap_or (first modified_line xs) line ≡ modified_or line xs
first_modified line [] = refl
first_modified line (x ∷ xs) = first_or (modified_line x) line (modified_or line xs) (first modified_line xs) (first_modified line xs)

unwrapped : (r : Option (Bor (List ℕ))) (line : Bor (List ℕ)) → (unwrap_or r line).now ≡ unwrap_or (option_map (λ x. x.now) r) line.now
unwrapped None line = refl
unwrapped (Some x) line = refl

pub returns : goal.returns
returns c =
    let p = c.find_map.ensures.runs in
    let found : option_map (λ x. x.now) c.find_map.result ≡ first modified_line p.0.from.rest.now =
    first_from_find_map (λ x. x.now) (λ x. x.now) _ _ modified_line (λ x r k. search rules) _ c.find_map.result p.0 (λ x r q k. search rules) (c.iter.ensures.runs p.0 p.0.seen) p.2 in
    let all : p.0.from.rest.now ≡ c.args.copies.now = ap (λ s. s.rest.now) p.1 ∙ c.iter.ensures.rest in
    ap (λ x. x.now) c.unwrap_or.ensures ∙ unwrapped c.find_map.result c.args.line ∙ ap (λ r. unwrap_or r c.args.line.now) (found ∙ ap (first modified_line) all)
    ∙ first_modified c.args.line.now c.args.copies.now
