use Rattle.std.proofs.Common.{length, ◌-◌, ◌≤◌}
use Rattle.array_rows.specs.Inner.CellsIn.{cells_in}
use Rattle.area_cells.specs.Inner.Taking.{IsTaken}
use Rattle.area_cells.proofs.finding.found_in_chunk.Given as goal

abbrev pub invariant-taking : goal.invariant-taking
invariant-taking l = record {
  taken : IsTaken l.source l.target l.core l.area l.places (cells_in l.form) l.found l.at;
  within : l.at ≤ length l.places;
}

abbrev pub decreases-taking : goal.decreases-taking
decreases-taking l = length l.places - l.at
