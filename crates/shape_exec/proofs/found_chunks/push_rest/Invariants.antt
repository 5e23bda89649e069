use Rattle.std.proofs.Common.{◌≡◌, List}
use Rattle.area_cells.specs.declared.finding.Found.{Found}
use Rattle.shape_exec.specs.Inner.Merged.{Holds}
use Rattle.shape_exec.proofs.MergedCells.{RestSoFar}
use Rattle.shape_exec.proofs.found_chunks.push_rest.Given as goal

abbrev pub invariant-loop-k : goal.invariant-loop-k
invariant-loop-k l = record {
  number : l.chunk.at ≡ l.initial.chunk.at;
  so_far : (made : List Found) → Holds l.grid made l.initial.chunk → RestSoFar l.grid l.from made l.start l.k l.chunk;
}
