use Rattle.mesi_rules.proofs.Law.{keeps}
use Rattle.mesi_rules.proofs.rules_keep_the_meaning.Goals as goal

pub returns : goal.returns
returns c = keeps
