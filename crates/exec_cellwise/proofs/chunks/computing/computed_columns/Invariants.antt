use Rattle.std.proofs.Common.{◌≡◌, map, take}
use Rattle.array_rows.specs.Boxes.{by_pairs}
use Rattle.exec_cellwise.specs.Inner.Computed.{value_there}
use Rattle.exec_cellwise.proofs.chunks.computing.computed_columns.Given as goal

abbrev pub invariant-loop-applied : goal.invariant-loop-applied
invariant-loop-applied l =
    l.columns.items ≡ map (λ applied. by_pairs (value_there l.grid.low.items l.grid.lengths.items applied.value) l.places l.rows) (take l.applied-index l.values)
