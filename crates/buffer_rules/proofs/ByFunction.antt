-- Over a protocol whose answers are a function of its state, so are the buffer's.
use Rattle.std.proofs.Common.{◌≡◌, ℕ, ◌↔◌, sym, refl, ap, ◌∙◌, subst}
use Rattle.protocol.specs.declared.steps.Step.{Step}
use Rattle.protocol.specs.declared.steps.Reply.{Reply}
use Rattle.protocol.specs.Meaning.{Machine}
use Rattle.buffer_rules.specs.Scripts.{Script, done, call, Runs, ends, calls, run}
use Rattle.buffer_rules.specs.Rules.{Buffer, step_of}
use Rattle.buffer_rules.specs.Buffered.{Pile, AgainByFunction}

module _ {S : Type 0} (steps : S → Step → Reply → S → Type 0) (f : S → Step → Reply × S) (by_f : (s : S) (k : Step) (r : Reply) (t : S) → steps s k r t ↔ ((r, t) ≡ f s k)) where
  run_is : {X : Type 0} {w : Script X} {s : S} {x : X} {t : S} → Runs steps w s x t → (x, t) ≡ run f w s
  run_is ends = refl
  run_is (calls {k = k} {f = g} {s = s} {t = t} {r = r} e more) = run_is more ∙ ap (λ (y : Reply × S). run f (g y.0) y.1) ((by_f s k r t).0 e)

  run_runs : {X : Type 0} (w : Script X) (s : S) → Runs steps w s (run f w s).0 (run f w s).1
  run_runs (done x) s = ends
  run_runs (call k g) s = calls ((by_f s k (f s k).0 (f s k).1).1 refl) (run_runs (g (f s k).0) (f s k).1)

pub buffered_by_function : (M : Machine) → AgainByFunction M
buffered_by_function M f by_f p k r t = (
  λ h. ap (λ (y : (Reply × (ℕ → Buffer)) × M.State). (y.0.0, record { below = y.1; buffers = y.0.1 })) (run_is M.steps f by_f h),
  λ e.
      subst (λ (y : Reply × Pile M.State). Runs M.steps (step_of p.buffers k) p.below (y.0, y.1.buffers) y.1.below) (sym e) (run_runs M.steps f by_f (step_of p.buffers k) p.below),
)
