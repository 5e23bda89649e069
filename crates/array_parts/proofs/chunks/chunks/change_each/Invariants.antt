use Rattle.std.proofs.Common.{drop}
use Rattle.array_geom.specs.CellsIn.{cells_in}
use Rattle.array_parts.proofs.Steps.{IsOngoing}
use Rattle.array_parts.proofs.chunks.chunks.change_each.Given as goal

abbrev pub invariant-loop-k : goal.invariant-loop-k
invariant-loop-k g l =
    IsOngoing (g.C.CellChange.changed l.change) l.grid.low.items l.grid.lengths.items l.fn.chunk l.made (drop l.k l.places) (drop l.k (cells_in l.form))
