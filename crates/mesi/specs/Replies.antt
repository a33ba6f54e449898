-- What a call on the bus is answered.
use Rattle.std.specs.Prelude.{Ok, Err, Result}
use Rattle.protocol.specs.declared.steps.Ended.{Ended}
use Rattle.protocol.specs.declared.steps.Refusal.{Refusal}
use Rattle.protocol.specs.declared.steps.Reply.{Reply}
use Rattle.protocol.specs.declared.steps.Reply.TheVariants.{Refused, Ended as AtOnce}

-- The reply to a call that is refused, or that ends at once.
abbrev pub replied : Result Ended Refusal → Reply
replied (Ok e) = AtOnce e
replied (Err e) = Refused e
