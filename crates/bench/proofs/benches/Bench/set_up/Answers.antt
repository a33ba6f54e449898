-- A cleared protocol and a starting table begin a study.
use Rattle.std.proofs.Common.{rules}
use Rattle.bench.proofs.StudyLoop.{begins}
use Rattle.bench.proofs.benches.Bench.set_up.Goals as goal

pub returns-clause-begins : goal.returns-clause-begins
returns-clause-begins g c = search (rules, begins)
