use Rattle.std.proofs.Common.{ℕ}
use Rattle.array_rows.specs.Inner.CellsIn.{cells_in}
use Rattle.area_cells.specs.Inner.Taking.{IsTaken}
use Rattle.area_cells.proofs.finding.push_stretch.Given as goal

abbrev pub invariant-loop-k : goal.invariant-loop-k
invariant-loop-k l = IsTaken l.source l.target l.core l.area l.places (cells_in l.form) l.initial.found l.from
    → IsTaken l.source l.target l.core l.area l.places (cells_in l.form) l.found l.k
