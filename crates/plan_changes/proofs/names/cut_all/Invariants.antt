use Rattle.std.proofs.Common.{◌≡◌, ◌++◌, map, take, drop}
use Rattle.plan_changes.specs.Changes.{without_below}
use Rattle.plan_changes.proofs.names.cut_all.Given as goal

abbrev pub invariant-loop-entry : goal.invariant-loop-entry
invariant-loop-entry l = l.arrays ≡ map (without_below l.fn.name l.fn.below) (take l.entry-index l.initial.arrays) ++ drop l.entry-index l.initial.arrays
