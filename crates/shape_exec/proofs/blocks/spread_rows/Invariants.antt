use Rattle.std.proofs.Common.{◌≡◌, take}
use Rattle.shape_exec.specs.Inner.Spread.{spread_all}
use Rattle.shape_exec.proofs.blocks.spread_rows.Given as goal

abbrev pub invariant-loop-row : goal.invariant-loop-row
invariant-loop-row l = l.made ≡ spread_all l.dims l.sizes (take l.row-index l.row-items)
