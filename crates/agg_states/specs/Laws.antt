-- Sets of cells do not depend on the order in which they are put together.
use Rattle.std.specs.Prelude.{◌≡◌, List}
use Rattle.std.specs.declared.cmp.Ordering.TheVariants.{Equal}
use Rattle.cell_values.specs.declared.datum.Row.{Row}
use Rattle.array_rows.specs.Rows.{row_major, IsRising, put_row, put_all}
use Rattle.agg_states.specs.Stands.{AreApart}

-- two cells at different coordinates
abbrev pub CellsInAnyOrder : Type 0
CellsInAnyOrder = (x y : Row) (rows : List Row) → IsRising rows → (row_major x.at.items y.at.items ≡ Equal → ⊥)
    → put_row x (put_row y rows) ≡ put_row y (put_row x rows)

-- two sets that have no coordinate in common
abbrev pub SetsInAnyOrder : Type 0
SetsInAnyOrder = (a b : List Row) → IsRising a → IsRising b → AreApart a b → put_all a b ≡ put_all b a

-- three sets
abbrev pub SetsInAnyGroups : Type 0
SetsInAnyGroups = (a b c : List Row) → IsRising c → put_all (put_all a b) c ≡ put_all a (put_all b c)
