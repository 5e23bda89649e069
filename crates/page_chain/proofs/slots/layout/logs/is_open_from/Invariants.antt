use Rattle.std.proofs.Common.{◌≢◌, ◌≤◌, ◌<◌, ◌*◌, ℕ, slice_index}
use Rattle.page_chain.proofs.slots.layout.logs.is_open_from.Given as goal

abbrev pub invariant-loop-entry : goal.invariant-loop-entry
invariant-loop-entry l = (k : ℕ) → l.first ≤ k → k < l.entry → slice_index l.page (64 * k) ≢ 1
