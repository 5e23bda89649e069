use Rattle.std.proofs.Common.{◌≡◌, take, map}
use Rattle.array_rows.specs.Boxes.{is_inside}
use Rattle.array_geom.specs.Geometry.{coordinate_in}
use Rattle.exec_group.proofs.parts.columns.each_inside.Given as goal

abbrev pub invariant-loop-position : goal.invariant-loop-position
invariant-loop-position l = l.inside ≡ map (λ p. is_inside l.area (coordinate_in l.grid.low.items l.grid.lengths.items p)) (take l.position-index l.position-items)
