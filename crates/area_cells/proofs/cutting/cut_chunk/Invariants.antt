use Rattle.std.proofs.Common.{drop}
use Rattle.array_rows.specs.Inner.CellsIn.{cells_in}
use Rattle.array_parts.proofs.Steps.{IsOngoing}
use Rattle.area_cells.specs.Cut.{cell_inside}
use Rattle.area_cells.proofs.cutting.cut_chunk.Given as goal

abbrev pub invariant-loop-k : goal.invariant-loop-k
invariant-loop-k l = IsOngoing (cell_inside l.area) l.grid.low.items l.grid.lengths.items l.chunk l.made (drop l.k l.places) (drop l.k (cells_in l.form))
