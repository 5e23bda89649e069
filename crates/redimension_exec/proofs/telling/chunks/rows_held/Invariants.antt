use Rattle.std.proofs.Common.{drop}
use Rattle.std.specs.Vec.Iter.{into_iter_items}
use Rattle.redimension_exec.proofs.TellLaws.{IsOnTheWay}
use Rattle.redimension_exec.proofs.telling.chunks.rows_held.Given as goal

abbrev pub invariant-loop-position : goal.invariant-loop-position
invariant-loop-position l = IsOnTheWay l.grid.low.items l.grid.lengths.items l.rows (drop l.position-index l.position-items) (into_iter_items l.cells) l.position-items l.fn.chunk.cells
