-- Four cells (k, v) at 0 to 3, moved to their k: the third comes to a place that is taken, the fourth has none. A synthetic dimension
-- tells those at one k apart.
use Rattle.std.proofs.Common.{◌≡◌, pos, List, [], ◌∷◌, Ok, Err, refl}
use Rattle.cell_values.specs.declared.datum.Cell.TheVariants.{Full}
use Rattle.cell_values.specs.declared.datum.Datum.TheVariants.{Null, Int}
use Rattle.cell_values.specs.declared.datum.FaultKind.TheVariants.{Collision, OutOfBounds}
use Rattle.cell_values.specs.declared.datum.Row.{Row}
use Rattle.array_rows.specs.Boxes.{corners}
use Rattle.array_rows.specs.Rows.{placed}
use Rattle.logical_plan.specs.Redimension.{from_attribute, counted, carried_rows}

abbrev cells : List Row
cells =
    placed (pos 0 ∷ []) (Full (Int (pos 1) ∷ Int (pos 10) ∷ []))
    ∷ placed (pos 1 ∷ []) (Full (Int (pos 0) ∷ Int (pos 20) ∷ []))
    ∷ placed (pos 2 ∷ []) (Full (Int (pos 1) ∷ Int (pos 30) ∷ []))
    ∷ placed (pos 3 ∷ []) (Full (Null ∷ Int (pos 40) ∷ []))
    ∷ []

collision : carried_rows (from_attribute 0 ∷ []) (corners (pos 0 ∷ []) (pos 1 ∷ [])) (from_attribute 1 ∷ []) cells
    ≡ Err (record { at = record { items = pos 2 ∷ [] }; kind = Collision })
collision = refl

out_of_bounds : carried_rows (from_attribute 0 ∷ []) (corners (pos 0 ∷ []) (pos 0 ∷ [])) (from_attribute 1 ∷ []) cells
    ≡ Err (record { at = record { items = pos 0 ∷ [] }; kind = OutOfBounds })
out_of_bounds = refl

numbered : carried_rows (from_attribute 0 ∷ counted (pos 0) ∷ []) (corners (pos 0 ∷ pos 0 ∷ []) (pos 1 ∷ pos 9 ∷ [])) (from_attribute 1 ∷ []) cells
    ≡ Ok
    (placed (pos 0 ∷ pos 0 ∷ []) (Full (Int (pos 20) ∷ []))
    ∷ placed (pos 1 ∷ pos 0 ∷ []) (Full (Int (pos 10) ∷ []))
    ∷ placed (pos 1 ∷ pos 1 ∷ []) (Full (Int (pos 30) ∷ []))
    ∷ [])
numbered = refl
