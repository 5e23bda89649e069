use Rattle.std.proofs.Common.{◌≡◌, ◌++◌, map, take, drop}
use Rattle.plan_changes.specs.Changes.{with_version}
use Rattle.plan_changes.proofs.names.raise_all.Given as goal

abbrev pub invariant-loop-entry : goal.invariant-loop-entry
invariant-loop-entry l = l.arrays ≡ map (with_version l.fn.name) (take l.entry-index l.initial.arrays) ++ drop l.entry-index l.initial.arrays
