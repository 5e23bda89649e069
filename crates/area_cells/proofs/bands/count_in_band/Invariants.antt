use Rattle.std.proofs.Common.{◌-◌, length}
use Rattle.area_cells.proofs.BandLaws.{IsInBand}
use Rattle.area_cells.proofs.bands.count_in_band.Given as goal

abbrev pub invariant-loop-count : goal.invariant-loop-count
invariant-loop-count l = IsInBand l.first l.count l.chunks

abbrev pub decreases-loop-count : goal.decreases-loop-count
decreases-loop-count l = length l.chunks - l.count
