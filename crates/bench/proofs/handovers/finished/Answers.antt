-- What `find_map` found is the definition's.
use Rattle.std.proofs.Common.{rules, ap, ◌∙◌}
use Rattle.bench.specs.Handovers.{first_finished}
use Rattle.bench.proofs.Finding.{first_found}
use Rattle.bench.proofs.handovers.finished.Goals as goal

pub returns : goal.returns
returns c = first_found _ _ (λ x b q k. search rules) c.find_map.result c.find_map.ensures.runs c.iter.ensures.runs ∙ ap first_finished c.iter.ensures.rest
