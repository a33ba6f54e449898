use Rattle.neat_rules.proofs.Keeps.{neat_keeps}
use Rattle.neat_rules.proofs.rules_keep_the_meaning.Goals as goal

pub returns : goal.returns
returns c = neat_keeps
