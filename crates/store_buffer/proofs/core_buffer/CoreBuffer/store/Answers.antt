-- A store to an entry's address, and one to another.
use Rattle.std.proofs.Common.{None as Nothing, ◌∙◌, refl}
use Rattle.buffer_rules.specs.Entries.{entry}
use Rattle.buffer_rules.proofs.Sentences.{store_entry, store_else}
use Rattle.store_buffer.proofs.Answered.{answered, entries_shown}
use Rattle.store_buffer.proofs.Places.{found_at, found_none, written_at}
use Rattle.store_buffer.proofs.core_buffer.CoreBuffer.store.Goals as goal

pub returns-in-Some : goal.returns-in-Some
returns-in-Some g c =
    let e = written_at c.args.address c.args.byte c.in-Some.index _ _ _ c.deref_mut.ensures.value (entries_shown c.self.view_is) c.in-Some.ensures.value in
    store_entry g.P.Protocol.machine.steps c.args.core c.args.address c.args.byte _ _ _ _ (found_at c.args.address c.in-Some.index c.args.self.now.entries c.args.self.now.entries (entry 0 0) refl c.in-Some.ensures.value)
    (answered c.end_store.ensures.answer (c.end_store.ensures.left ∙ (λ i. record { entries = e i; pending = Nothing })))

pub returns-in-None : goal.returns-in-None
returns-in-None g c = store_else g.P.Protocol.machine.steps c.args.core c.args.address c.args.byte _ _ _ _ (found_none c.args.address c.args.self.now.entries c.in-None.ensures.value) c.store_new.ensures
