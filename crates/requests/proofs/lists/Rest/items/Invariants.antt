-- No item makes the rest longer.
use Rattle.std.proofs.Common.{◌≤◌, length}
use Rattle.requests.proofs.lists.Rest.items.Given as goal

abbrev pub invariant-loop : goal.invariant-loop
invariant-loop g l = length l.self ≤ length l.fn.self
