use Rattle.std.proofs.Common.{◌≡◌, ◌<◌, drop}
use Rattle.std.specs.List.{AllByRecursion, list_any}
use Rattle.array_geom.specs.Boxes.{is_inside}
use Rattle.array_geom.specs.Geometry.{coordinate_in, volume}
use Rattle.array_parts.proofs.parts.held.holds_one.Given as goal

abbrev pub invariant-loop-position : goal.invariant-loop-position
invariant-loop-position l = AllByRecursion (λ p. p < volume l.grid.lengths.items) (drop l.position-index l.positions)
    × (list_any (λ p. is_inside l.area (coordinate_in l.grid.low.items l.grid.lengths.items p)) (drop l.position-index l.positions) ≡ list_any (λ p. is_inside l.area (coordinate_in l.grid.low.items l.grid.lengths.items p)) l.positions)
