use Rattle.std.proofs.Common.{◌++◌}
use Rattle.std.specs.List.{AllByRecursion, AllZip}
use Rattle.std.specs.Vec.Iter.{into_iter_items}
use Rattle.exec_box.proofs.arrays.turns.in_turn.Given as goal

abbrev pub invariant-loop-number : goal.invariant-loop-number
invariant-loop-number g l = AllByRecursion (g.W.Work.accepts l.work) (into_iter_items l.number-iterator)
    × ((rest : _) → AllZip (g.W.Work.gives l.work) (into_iter_items l.number-iterator) rest → AllZip (g.W.Work.gives l.work) l.fn.numbers (l.made ++ rest))
