use Rattle.std.proofs.Common.{◌≡◌, take, reverse}
use Rattle.event_core.specs.Replay.{core_at}
use Rattle.test_changes.proofs.steps.push_steps.Given as goal

abbrev pub invariant-loop-entry : goal.invariant-loop-entry
invariant-loop-entry l = l.core ≡ core_at l.fn.base (reverse (take l.entry-index l.fn.entries))
