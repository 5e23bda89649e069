use Rattle.std.proofs.Common.{ℕ}
use Rattle.array_rows.specs.Boxes.{is_inside}
use Rattle.array_geom.specs.Geometry.{coordinate_in, volume}
use Rattle.exec_group.proofs.CornerLaws.{if_all}
use Rattle.exec_group.proofs.parts.columns.places_inside.Goals as goal

pub returns-then-is_whole : goal.returns-then-is_whole
returns-then-is_whole c =
    if_all (λ (p : ℕ). is_inside c.args.area.now (coordinate_in c.args.grid.now.low.items c.args.grid.now.lengths.items p)) (volume c.args.grid.now.lengths.items) c.args.positions.now c.all_inside.result
    c.requires.inside (c.is_whole.ensures c.if-is_whole.true) c.all_inside.ensures
