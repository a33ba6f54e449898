-- Calls below, one after the other, each chosen by the replies before it.
use Rattle.protocol.specs.declared.steps.Step.{Step}
use Rattle.protocol.specs.declared.steps.Reply.{Reply}

-- Nothing more is to be done, and x comes of it; or the call k is made below, and its reply says how to go on.
pub data Script (X : Type 0) : Type 0 where
  done : X → Script X
  call : Step → (Reply → Script X) → Script X

-- The same calls, and what comes of them is changed by g.
abbrev pub after : {X Y : Type 0} → (X → Y) → Script X → Script Y
after g (done x) = done (g x)
after g (call k f) = call k (λ r. after g (f r))

-- A script over a protocol's steps, from the state s to the state t, with x coming of it.
pub data Runs {S X : Type 0} (steps : S → Step → Reply → S → Type 0) : Script X → S → X → S → Type 0 where
  ends : {x : X} {s : S} → Runs steps (done x) s x s
  calls : {k : Step} {f : Reply → Script X} {s t u : S} {r : Reply} {x : X} → steps s k r t → Runs steps (f r) t x u → Runs steps (call k f) s x u

-- The same over a protocol whose answers are a function of its state.
abbrev pub run : {S X : Type 0} → (S → Step → Reply × S) → Script X → S → X × S
run step (done x) s = (x, s)
run step (call k f) s = run step (f (step s k).0) (step s k).1
