-- Each turn takes the room of one request from what is left, and stops where there is too little.
use Rattle.std.proofs.Common.{rules, ap, ◌∙◌, leb}
use Rattle.bench.specs.Requests.{rooms_of}
use Rattle.bench.proofs.Rooms.{fits_is, taken}
use Rattle.bench.proofs.studies.fit.Goals as goal

pub returns : goal.returns
returns c =
    c.is_some.ensures ∙ fits_is _ _ (λ p q left x v k. search (rules, taken)) c.args.outcomes c.try_fold.result c.try_fold.ensures.ran
    ∙ ap (λ (z : _). leb (rooms_of z) c.args.outcomes) c.iter.ensures.rest
