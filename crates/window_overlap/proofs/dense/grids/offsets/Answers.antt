use Rattle.std.proofs.Common.{ap, ◌∙◌, arith}
use Rattle.array_geom.specs.Inner.Ranges.{is_in_grid}
use Rattle.array_geom.proofs.PlaceLaws.{coordinate_in_grid}
use Rattle.window_overlap.proofs.dense.grids.offsets.Goals as goal

pub position-requires-clause-inside : goal.position-requires-clause-inside
position-requires-clause-inside c =
    let less = c.loop-k-test.true in
    let count = c.volume-count.ensures in
    c.requires.fits c.place.result.items
    (ap (is_in_grid c.args.window.now.low.items c.args.window.now.lengths.items) c.place.ensures
    ∙ coordinate_in_grid c.args.window.now.low.items c.args.window.now.lengths.items c.loop-k.k c.requires.window.lengths c.requires.window.each (omega (arith, less, count)))
