-- Rows of two arrays that are being joined.
use Rattle.std.specs.Prelude.{◌≡◌, List, ◌∷◌, ◌++◌}
use Rattle.cell_values.specs.declared.datum.Row.{Row}
use Rattle.array_rows.specs.Rows.{IsRising}
use Rattle.logical_plan.specs.Joins.{join_rows}

-- rising rows still rise, and with what is left of both the joined rows become the same
pub record AreMovedOn (made left right made' left' right' : List Row) : Type 0 where
  pub left_rises : IsRising left'
  pub right_rises : IsRising right'
  pub same : made' ++ join_rows left' right' ≡ made ++ join_rows left right

abbrev pub IsMove : List Row → List Row → List Row → List Row → List Row → List Row → Type 0
IsMove made left right made' left' right' = IsRising left → IsRising right → AreMovedOn made left right made' left' right'

-- the first rows of both stand at one coordinate
abbrev pub IsSamePlace : List Row → List Row → Type 0
IsSamePlace (x ∷ left) (y ∷ right) = x.at.items ≡ y.at.items
IsSamePlace _ _ = ⊥
