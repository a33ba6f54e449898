-- What holds of every run of a script, shown call by call.
use Rattle.protocol.specs.declared.steps.Step.{Step}
use Rattle.protocol.specs.declared.steps.Reply.{Reply}
use Rattle.buffer_rules.specs.Scripts.{Script, done, call, after, Runs, ends, calls}

module _ {S : Type 0} (steps : S → Step → Reply → S → Type 0) where
  -- P holds wherever the script may end from s.
  abbrev pub Always : {X : Type 0} → Script X → S → (X → S → Type 0) → Type 0
  Always (done x) s P = P x s
  Always (call k f) s P = (r : Reply) (t : S) → steps s k r t → Always (f r) t P

  pub always_runs : {X : Type 0} (P : X → S → Type 0) {w : Script X} {s : S} {x : X} {t : S} → Runs steps w s x t → Always w s P → P x t
  always_runs P ends h = h
  always_runs P (calls {t = t} {r = r} e more) h = always_runs P more (h r t e)

  pub always_after : {X Y : Type 0} (g : X → Y) (P : Y → S → Type 0) (w : Script X) (s : S) → Always w s (λ x t. P (g x) t) → Always (after g w) s P
  always_after g P (done x) s h = h
  always_after g P (call k f) s h = λ r t e. always_after g P (f r) t (h r t e)

  pub always_so : {X : Type 0} {P Q : X → S → Type 0} (w : Script X) (s : S) → ((x : X) (t : S) → P x t → Q x t) → Always w s P → Always w s Q
  always_so (done x) s i h = i x s h
  always_so (call k f) s i h = λ r t e. always_so (f r) t i (h r t e)
