-- Rows that are being put together.
use Rattle.std.specs.Prelude.{◌≡◌, List, ◌++◌}
use Rattle.cell_values.specs.declared.datum.Row.{Row}
use Rattle.array_rows.specs.Rows.{IsRising, put_all}

-- rising rows still rise, and with what is left of them the merged rows become the same
pub record AreMergedOn (merged left right merged' left' right' : List Row) : Type 0 where
  pub left_rises : IsRising left'
  pub right_rises : IsRising right'
  pub same : merged' ++ put_all left' right' ≡ merged ++ put_all left right

abbrev pub IsMergedOn : List Row → List Row → List Row → List Row → List Row → List Row → Type 0
IsMergedOn merged left right merged' left' right' = IsRising left → IsRising right → AreMergedOn merged left right merged' left' right'
