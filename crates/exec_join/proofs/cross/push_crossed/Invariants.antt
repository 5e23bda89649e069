use Rattle.std.proofs.Common.{◌≡◌, ◌++◌, map, take}
use Rattle.exec_join.specs.Inner.Partners.{crossed}
use Rattle.exec_join.proofs.cross.push_crossed.Given as goal

abbrev pub invariant-loop-partner : goal.invariant-loop-partner
invariant-loop-partner l = l.made ≡ l.initial.made ++ map (crossed l.left) (take l.partner-index l.partners)
