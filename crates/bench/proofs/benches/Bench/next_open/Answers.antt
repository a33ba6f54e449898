-- In a study the protocol's answer is what the meaning says.
use Rattle.bench.proofs.Holding.{holds}
use Rattle.bench.proofs.benches.Bench.next_open.Goals as goal

pub returns-clause-means : goal.returns-clause-means
returns-clause-means g c = λ log h. (holds g.P.Protocol.machine g.met.P.Protocol.keeps _ _ log h).opens c.args.place c.next_open.result c.next_open.ensures
