-- Two cells are put into an array of four chunks with an overlap.
use Rattle.std.proofs.Common.{◌≡◌, ℕ, pos, true, false, List, [], ◌∷◌, refl, codes}
use Rattle.cell_values.specs.declared.datum.Cell.TheVariants.{Full}
use Rattle.cell_values.specs.declared.datum.Datum.TheVariants.{Int}
use Rattle.cell_values.specs.declared.datum.Row.{Row}
use Rattle.cell_values.specs.declared.schema.Dimension.{Dimension}
use Rattle.array_rows.specs.Rows.{placed}
use Rattle.array_geom.specs.Geometry.{core_meets, frame, overlaps}
use Rattle.plan_needs.specs.Target.{is_touched}

-- `[i=0:7,2,1]`
along : List Dimension
along = record { name = codes "i"; lo = pos 0; hi = pos 7; chunk = 2; overlap = 1 } ∷ []

number_at : ℕ → ℕ → Row
number_at i v = placed (pos i ∷ []) (Full (Int (pos v) ∷ []))

new : List Row
new = number_at 0 1 ∷ number_at 1 2 ∷ []

-- the frames -1 to 2 and 1 to 4 hold one of them
two_touched : (is_touched along new (0 ∷ []) ≡ true) × (is_touched along new (1 ∷ []) ≡ true) × (is_touched along new (2 ∷ []) ≡ false)
unfolding along new number_at
two_touched = (refl, refl, refl)

-- the second of them meets the cores of the chunks 0, 1 and 2
three_wanted : (core_meets along (frame along (overlaps along) (1 ∷ [])) (0 ∷ []) ≡ true) × (core_meets along (frame along (overlaps along) (1 ∷ [])) (2 ∷ []) ≡ true)
    × (core_meets along (frame along (overlaps along) (1 ∷ [])) (3 ∷ []) ≡ false)
unfolding along
three_wanted = (refl, refl, refl)
