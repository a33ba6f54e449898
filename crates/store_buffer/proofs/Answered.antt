-- A reply and a buffer, from what a call ensures of each; and a buffer's entries, from the fields that it shows.
use Rattle.std.proofs.Common.{◌≡◌, List, Option, ap}
use Rattle.protocol.specs.declared.steps.Step.{Step}
use Rattle.protocol.specs.declared.steps.Reply.{Reply}
use Rattle.buffer_rules.specs.declared.entries.Entry.{Entry}
use Rattle.buffer_rules.specs.Rules.{Buffer}

pub answered : {r r' : Reply} {b b' : Buffer} → r ≡ r' → b ≡ b' → ◌≡◌ {A = Reply × Buffer} (r, b) (r', b')
answered p q = λ i. (p i, q i)

pub entries_shown : {es : List Entry} {w : Option Step} {b : Buffer} → ◌≡◌ {A = Buffer} (record { entries = es; pending = w }) b → es ≡ b.entries
entries_shown v = ap (λ (c : Buffer). c.entries) v

pub pending_shown : {es : List Entry} {w : Option Step} {b : Buffer} → ◌≡◌ {A = Buffer} (record { entries = es; pending = w }) b → w ≡ b.pending
pending_shown v = ap (λ (c : Buffer). c.pending) v
