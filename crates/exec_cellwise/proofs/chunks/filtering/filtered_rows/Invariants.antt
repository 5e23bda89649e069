use Rattle.std.proofs.Common.{◌≡◌, ◌<◌, drop, map}
use Rattle.cell_values.specs.declared.datum.Cell.TheVariants.{Full}
use Rattle.array_geom.specs.Geometry.{coordinate_in, volume}
use Rattle.logical_plan.specs.CellOps.{filter_cell}
use Rattle.array_parts.proofs.Steps.{IsOngoing}
use Rattle.exec_cellwise.proofs.chunks.filtering.filtered_rows.Given as goal

abbrev pub invariant-loop-k : goal.invariant-loop-k
invariant-loop-k l =
    (l.from < volume l.grid.lengths.items) × (l.at.items ≡ coordinate_in l.grid.low.items l.grid.lengths.items l.from)
    × (IsOngoing (filter_cell l.test) l.grid.low.items l.grid.lengths.items l.chunk l.made (drop l.k l.places) (drop l.k (map Full l.rows)))
