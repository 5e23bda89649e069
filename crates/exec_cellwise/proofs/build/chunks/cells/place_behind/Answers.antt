use Rattle.std.proofs.Common.{arith}
use Rattle.array_geom.proofs.PlaceLaws.{position_below}
use Rattle.exec_cellwise.proofs.build.chunks.cells.place_behind.Goals as goal

pub overflow_add-result : goal.overflow_add-result
overflow_add-result c =
    let below = position_below c.args.grid.now.low.items c.args.grid.now.lengths.items c.args.at.now.items c.requires.inside in
    omega (arith, below, c.requires.place, c.requires.grid.places)
