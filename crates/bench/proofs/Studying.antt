-- The guarantee holds at every point of every study, whatever is asked: what the bench answered carries the study on.
use Rattle.std.proofs.Common.{List, [], ◌∷◌, ◌++◌, sym, subst}
use Rattle.std.proofs.lemmas.List.{append-nil, append_assoc}
use Rattle.protocol.specs.Meaning.{Machine, Meaning}
use Rattle.races.specs.declared.outcomes.Outcome.{Outcome}
use Rattle.races.specs.declared.table.RaceTable.{RaceTable}
use Rattle.races.specs.Log.{Log, feed}
use Rattle.races.specs.Table.{reply_of}
use Rattle.races.specs.Study.{Watched}
use Rattle.bench.specs.declared.requests.Request.{Request}
use Rattle.bench.specs.declared.requests.Answer.{Answer}
use Rattle.bench.specs.Chains.{AnyStep, FirstPlace}
use Rattle.bench.specs.Requests.{Asks, stepped, ran, no_room, settled, imaged, found, AsksAll, no_more, more, log_after, log_after_all, HoldsDuring, HoldsThroughout}
use Rattle.bench.proofs.Holding.{holds, holds_along, chain_carries}

-- One request more at the end.
pub asks_more : {M : Machine} {s t u : M.State} {w v x : RaceTable} {q : Request} {a : Answer} {qs : List Request} {said : List Answer} {rs new : List Outcome} → AsksAll M s w qs said rs t v → Asks M t v q a new u x → AsksAll M s w (qs ++ q ∷ []) (said ++ a ∷ []) (rs ++ new) u x
asks_more {M} {s} {t} {u} {w} {v} {x} {q} {a} {new = new} no_more h = subst (λ (z : List Outcome). AsksAll M s w (q ∷ []) (a ∷ []) z u x) (append-nil new) (more h no_more)
asks_more {M} {u = u} {x = x} {q = q} {a = a} {new = new} (more {s} {t} {w = w} {q = p} {a = b} {qs = qs} {said = said} {rs = rs} {more_rs = rest} h l) g =
    subst (λ (z : List Outcome). AsksAll M s w (p ∷ (qs ++ q ∷ [])) (b ∷ (said ++ a ∷ [])) z u x) (sym (append_assoc rs rest new)) (more h (asks_more l g))

module _ (M : Machine) (means : Meaning M) where
  holds_during : {s t : M.State} {w v : RaceTable} {q : Request} {a : Answer} {rs : List Outcome} (g : Asks M s w q a rs t v) (log : Log) → Watched M s w log → HoldsDuring log g
  holds_during (stepped {s} {t} {w} {v} {k} {r} g) log h = (holds M means s w log h, g.mark_is log h, holds M means t v (feed log k (reply_of r)) (g.carries log h))
  holds_during (ran l c) log h = holds_along M means c log h
  holds_during (no_room {s} {w} l) log h = holds M means s w log h
  holds_during (settled {o = o} c l a f) log h = (holds_along M means c log h, (holds M means _ _ _ (chain_carries M (FirstPlace M) c log h)).opens 0 o a)
  holds_during (imaged {s} {w} {a} {r} g) log h = (holds M means s w log h, (holds M means s w log h).images a r g)
  holds_during (found {s} {w} {p} {o} g) log h = (holds M means s w log h, (holds M means s w log h).opens p o g)

  watched_after : {s t : M.State} {w v : RaceTable} {q : Request} {a : Answer} {rs : List Outcome} (g : Asks M s w q a rs t v) (log : Log) → Watched M s w log → Watched M t v (log_after log g)
  watched_after (stepped g) log h = g.carries log h
  watched_after (ran l c) log h = chain_carries M (AnyStep M) c log h
  watched_after (no_room l) log h = h
  watched_after (settled c l o f) log h = chain_carries M (FirstPlace M) c log h
  watched_after (imaged g) log h = h
  watched_after (found g) log h = h

  pub holds_throughout : {s t : M.State} {w v : RaceTable} {qs : List Request} {said : List Answer} {rs : List Outcome} (g : AsksAll M s w qs said rs t v) (log : Log) → Watched M s w log → HoldsThroughout log g
  holds_throughout (no_more {s} {w}) log h = holds M means s w log h
  holds_throughout (more g l) log h = (holds_during g log h, holds_throughout l (log_after log g) (watched_after g log h))

  pub watched_all : {s t : M.State} {w v : RaceTable} {qs : List Request} {said : List Answer} {rs : List Outcome} (g : AsksAll M s w qs said rs t v) (log : Log) → Watched M s w log → Watched M t v (log_after_all log g)
  watched_all no_more log h = h
  watched_all (more g l) log h = watched_all l (log_after log g) (watched_after g log h)
