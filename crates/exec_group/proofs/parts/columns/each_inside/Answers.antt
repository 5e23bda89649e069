use Rattle.std.proofs.Common.{ℕ, ap, ◌∙◌}
use Rattle.array_rows.specs.Boxes.{is_inside}
use Rattle.array_rows.specs.Rows.{Coordinate}
use Rattle.array_geom.specs.Geometry.{coordinate_in}
use Rattle.exec_group.proofs.CoreColumnLaws.{next_place}
use Rattle.exec_group.proofs.parts.columns.each_inside.Goals as goal

pub loop-position-preserved : goal.loop-position-preserved
loop-position-preserved c =
    next_place (λ (p : ℕ). is_inside c.args.area.now (coordinate_in c.args.grid.now.low.items c.args.grid.now.lengths.items p)) c.as_slice-position-items.result.now c.loop-position.position-index
    c.loop-position.inside c.push.new.self c.is_in_box.result c.loop-position-test.true c.loop-position.invariant (c.is_in_box.ensures ∙ ap (λ (at : Coordinate). is_inside c.args.area.now at) c.place.ensures) c.in_ok-push.ensures.ok
