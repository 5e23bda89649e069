use Rattle.std.specs.Vec.Iter.{into_iter_items}
use Rattle.area_cells.proofs.FillLaws.{IsFilling}
use Rattle.area_cells.proofs.framing.chunk_of_rows.Given as goal

abbrev pub invariant-loop-row : goal.invariant-loop-row
invariant-loop-row l = IsFilling l.grid.low.items l.grid.lengths.items l.number l.fn.rows (into_iter_items l.row-iterator) l.chunk
