use Rattle.std.proofs.Common.{◌≡◌, ◌++◌, map, true}
use Rattle.std.specs.List.{AllByRecursion}
use Rattle.std.specs.Vec.Iter.{into_iter_items}
use Rattle.array_rows.specs.Boxes.{bounds_of, is_inside, moved}
use Rattle.shape_exec.proofs.coord_maps.map_rows.Given as goal

abbrev pub invariant-loop-row : goal.invariant-loop-row
invariant-loop-row g l = AllByRecursion (λ row. is_inside (bounds_of (g.M.CoordMap.domain l.by)) row.at.items ≡ true) (into_iter_items l.row-iterator)
    × (l.made ++ map (moved (g.M.CoordMap.forth l.by)) (into_iter_items l.row-iterator) ≡ map (moved (g.M.CoordMap.forth l.by)) l.fn.rows)
