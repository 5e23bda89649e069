use Rattle.std.proofs.Common.{◌≡◌, take}
use Rattle.logical_plan.specs.BoxOps.{slice_rows}
use Rattle.exec_box.proofs.rows.slices.slice_of_rows.Given as goal

abbrev pub invariant-loop-row : goal.invariant-loop-row
invariant-loop-row l = l.slice ≡ slice_rows l.fixed (take l.row-index l.row-items)
