use Rattle.std.proofs.Common.{◌≡◌, take}
use Rattle.std.specs.List.{flat_map}
use Rattle.exec_join.specs.Inner.Partners.{crossed_with}
use Rattle.exec_join.proofs.cross.cross_each.Given as goal

abbrev pub invariant-loop-row : goal.invariant-loop-row
invariant-loop-row l = l.made ≡ flat_map (crossed_with l.places l.partners) (take l.row-index l.row-items)
