-- The table's number is the log's.
use Rattle.races.proofs.Watching.{counted}
use Rattle.bench.proofs.benches.Bench.ended.Goals as goal

pub returns-clause-counts : goal.returns-clause-counts
returns-clause-counts g c = λ log h. (counted g.P.Protocol.machine g.met.P.Protocol.keeps _ _ log h).ended
