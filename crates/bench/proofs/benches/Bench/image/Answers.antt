-- In a study the protocol's answer is what the meaning says, and so what the guarantee says of the image.
use Rattle.std.proofs.Common.{ℕ, List, Some, None, Option, Result, sym, subst}
use Rattle.protocol.specs.declared.steps.Refusal.{Refusal}
use Rattle.protocol.specs.declared.steps.Ended.{Ended}
use Rattle.protocol.specs.Moment.{Moment}
use Rattle.protocol.specs.Meaning.{image_of}
use Rattle.races.specs.Races.{Written, newest}
use Rattle.races.specs.Guarantee.{ImageIs, ImageAnswers}
use Rattle.bench.proofs.Holding.{holds}
use Rattle.bench.proofs.benches.Bench.image.Goals as goal

answered_image : (m : Moment) (a : ℕ) (xs : List Ended) (o : Option Written) → ImageIs m a xs o → ImageAnswers (image_of m a) a xs o
answered_image m a xs None h = h
answered_image m a xs (Some w) h = h

pub returns-clause-means : goal.returns-clause-means
returns-clause-means g c = λ log h. (holds g.P.Protocol.machine g.met.P.Protocol.keeps _ _ log h).images c.args.address c.image.result c.image.ensures

pub returns-clause-right : goal.returns-clause-right
returns-clause-right g c = λ log h no l.
    let m = g.P.Protocol.machine.moment (g.P.Protocol.state c.args.self.now.protocol) in
    let a = c.args.address in
    let at = holds g.P.Protocol.machine g.met.P.Protocol.keeps _ _ log h in
    subst (λ (r : Result ℕ Refusal). ImageAnswers r a log.ended (newest a log.ended)) (sym (at.images a c.image.result c.image.ensures)) (answered_image m a log.ended (newest a log.ended) (at.coherent.image no a l))
