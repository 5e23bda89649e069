use Rattle.std.proofs.Common.{drop}
use Rattle.std.specs.Vec.Iter.{into_iter_items}
use Rattle.chunk_source.proofs.ChunkRows.{AreAdded}
use Rattle.chunk_source.proofs.leaves.parts.gathering.push_rows.Given as goal

abbrev pub invariant-loop-position : goal.invariant-loop-position
invariant-loop-position l = AreAdded l.grid.low.items l.grid.lengths.items l.fn.rows l.rows (drop l.position-index l.position-items) (into_iter_items l.cells) l.position-items l.fn.chunk.cells
