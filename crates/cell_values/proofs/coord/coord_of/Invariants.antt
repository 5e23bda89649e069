use Rattle.std.proofs.Common.{◌≡◌, take}
use Rattle.cell_values.proofs.coord.coord_of.Given as goal

abbrev pub invariant-loop-number : goal.invariant-loop-number
invariant-loop-number l = l.at.items ≡ take l.number-index l.numbers
