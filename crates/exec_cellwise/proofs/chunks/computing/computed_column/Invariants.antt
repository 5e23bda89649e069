use Rattle.std.proofs.Common.{◌≡◌, ◌<◌, take}
use Rattle.array_geom.specs.Geometry.{coordinate_in, volume}
use Rattle.array_rows.specs.Boxes.{by_pairs}
use Rattle.exec_cellwise.specs.Inner.Computed.{value_there}
use Rattle.exec_cellwise.proofs.chunks.computing.computed_column.Given as goal

abbrev pub invariant-loop-k : goal.invariant-loop-k
invariant-loop-k l =
    (l.from < volume l.grid.lengths.items) × (l.at.items ≡ coordinate_in l.grid.low.items l.grid.lengths.items l.from)
    × (l.column ≡ take l.k (by_pairs (value_there l.grid.low.items l.grid.lengths.items l.value) l.places l.rows))
