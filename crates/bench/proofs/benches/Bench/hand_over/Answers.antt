-- Each call has ended before the next, so the load is the guarantee's; where one has not, a field or the room is to blame.
use Rattle.std.proofs.Common.{Some, sym, refl, ap, arith}
use Rattle.protocol.specs.declared.steps.Ended.{Ended}
use Rattle.races.specs.Log.{answered}
use Rattle.bench.specs.Handovers.{stops, ends, goes_on, loaded_byte}
use Rattle.bench.proofs.HandingOver.{at_start, made_after, after_store, after_release, after_acquire, after_load, handed_over, loaded_is, core_free, address_free}
use Rattle.bench.proofs.benches.Bench.hand_over.Goals as goal

pub returns-in_err-await_call : goal.returns-in_err-await_call
returns-in_err-await_call g c =
    let q₀ = at_start g.P.Protocol.machine g.met.P.Protocol.keeps c.set_up.ensures.fresh c.set_up.ensures.begins in
    simp c.from_residual.ensures
    (record {
      made = made_after c.set_up.ensures.fresh c.set_up.ensures.table (stops c.in_err-await_call.ensures.made) refl;
      right = λ l k m. let h = c.in_err-await_call.ensures.right _ q₀ (address_free c.args.from c.args.address q₀ l m) in omega arith;
    })

pub returns-in_err-await_call-2 : goal.returns-in_err-await_call-2
returns-in_err-await_call-2 g c =
    let q₀ = at_start g.P.Protocol.machine g.met.P.Protocol.keeps c.set_up.ensures.fresh c.set_up.ensures.begins in
    let q₁ = after_store q₀ c.in_ok-await_call.ensures.right in
    simp c.from_residual-in_err-await_call-2.ensures
    (record {
      made = made_after c.set_up.ensures.fresh c.set_up.ensures.table (goes_on c.in_ok-await_call.ensures.made (stops c.in_err-await_call-2.ensures.made)) refl;
      right = λ l k m. let h = c.in_err-await_call-2.ensures.right _ q₁ (core_free c.args.from q₁ l) in omega arith;
    })

pub returns-in_err-await_call-3 : goal.returns-in_err-await_call-3
returns-in_err-await_call-3 g c =
    let q₀ = at_start g.P.Protocol.machine g.met.P.Protocol.keeps c.set_up.ensures.fresh c.set_up.ensures.begins in
    let q₁ = after_store q₀ c.in_ok-await_call.ensures.right in
    let q₂ = after_release q₁ c.in_ok-await_call-2.ensures.right in
    simp c.from_residual-in_err-await_call-3.ensures
    (record {
      made = made_after c.set_up.ensures.fresh c.set_up.ensures.table (goes_on c.in_ok-await_call.ensures.made (goes_on c.in_ok-await_call-2.ensures.made (stops c.in_err-await_call-3.ensures.made))) refl;
      right = λ l k m. let h = c.in_err-await_call-3.ensures.right _ q₂ (core_free c.args.to q₂ k) in omega arith;
    })

pub returns-in_err-byte : goal.returns-in_err-byte
returns-in_err-byte g c =
    let q₀ = at_start g.P.Protocol.machine g.met.P.Protocol.keeps c.set_up.ensures.fresh c.set_up.ensures.begins in
    let q₁ = after_store q₀ c.in_ok-await_call.ensures.right in
    let q₂ = after_release q₁ c.in_ok-await_call-2.ensures.right in
    let q₃ = after_acquire q₂ c.in_ok-await_call-3.ensures.right in
    simp c.from_residual-in_err-byte.ensures
    (record {
      made = made_after c.set_up.ensures.fresh c.set_up.ensures.table (goes_on c.in_ok-await_call.ensures.made (goes_on c.in_ok-await_call-2.ensures.made (goes_on c.in_ok-await_call-3.ensures.made (stops c.in_err-byte.ensures.made)))) refl;
      right = λ l k m. let h = c.in_err-byte.ensures.right _ q₃ (address_free c.args.to c.args.address q₃ k m) in omega arith;
    })

pub returns-in-Loaded : goal.returns-in-Loaded
returns-in-Loaded g c =
    let q₀ = at_start g.P.Protocol.machine g.met.P.Protocol.keeps c.set_up.ensures.fresh c.set_up.ensures.begins in
    let q₁ = after_store q₀ c.in_ok-await_call.ensures.right in
    let q₂ = after_release q₁ c.in_ok-await_call-2.ensures.right in
    let q₃ = after_acquire q₂ c.in_ok-await_call-3.ensures.right in
    record {
      made = made_after c.set_up.ensures.fresh c.set_up.ensures.table (goes_on c.in_ok-await_call.ensures.made (goes_on c.in_ok-await_call-2.ensures.made (goes_on c.in_ok-await_call-3.ensures.made (ends c.in_ok-byte.ensures.made)))) (ap (λ (x : Ended). loaded_byte (Some x)) (sym c.in-Loaded.is));
      right = handed_over g.P.Protocol.machine g.met.P.Protocol.keeps (after_load c.in-Loaded.byte q₃ c.in_ok-byte.ensures.right (ap answered c.in-Loaded.is));
    }

pub returns-in_default : goal.returns-in_default
returns-in_default g c =
    let q₀ = at_start g.P.Protocol.machine g.met.P.Protocol.keeps c.set_up.ensures.fresh c.set_up.ensures.begins in
    let q₁ = after_store q₀ c.in_ok-await_call.ensures.right in
    let q₂ = after_release q₁ c.in_ok-await_call-2.ensures.right in
    let q₃ = after_acquire q₂ c.in_ok-await_call-3.ensures.right in
    absurd (c.in_default.not-Loaded _ _ _ (loaded_is c.in_ok-byte.field-0 c.args.to c.args.address (c.in_ok-byte.ensures.right _ q₃).0))
