use Rattle.std.proofs.Common.{◌≡◌, map, take}
use Rattle.exec_cellwise.specs.Picked.{picked}
use Rattle.exec_cellwise.proofs.chunks.projecting.project_cells.Given as goal

abbrev pub invariant-loop-k : goal.invariant-loop-k
invariant-loop-k l = l.made ≡ map (picked l.kept) (take l.k l.cells)
