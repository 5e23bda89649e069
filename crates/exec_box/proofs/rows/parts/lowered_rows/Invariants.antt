use Rattle.std.proofs.Common.{◌≡◌, map, take}
use Rattle.array_rows.specs.Boxes.{moved, within}
use Rattle.exec_box.specs.Moves.{lowered}
use Rattle.exec_box.proofs.rows.parts.lowered_rows.Given as goal

abbrev pub invariant-loop-row : goal.invariant-loop-row
invariant-loop-row l = l.parts ≡ map (moved (lowered l.area.lo.items)) (within l.area (take l.row-index l.row-items))
