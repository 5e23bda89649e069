-- The right rows of a cross join, by the numbers that are to agree with left ones.
use Rattle.std.specs.Prelude.{ℕ, ◌+◌, ◌≤◌, ◌++◌, Bool, List, length, map, filter}
use Rattle.std.specs.List.{All}
use Rattle.std.specs.Ordering.{is_eq}
use Rattle.std.specs.declared.cmp.Ordering.{Ordering}
use Rattle.cell_values.specs.declared.datum.Row.{Row}
use Rattle.array_rows.specs.Rows.{Coordinate, placed, row_major}
use Rattle.logical_plan.specs.BoxOps.{items_but, numbers_at}
use Rattle.logical_plan.specs.Joins.{cell_beside}
use Rattle.exec_join.specs.declared.partners.Partner.{Partner}

-- a row with its numbers at these places apart from the others
abbrev pub partner : List ℕ → Row → Partner
partner places row = record {
  paired = record { items = numbers_at places row.at.items };
  others = record { items = items_but places 0 row.at.items };
  cell = row.cell;
}

abbrev pub paired_of : Partner → Coordinate
paired_of p = p.paired.items

-- how its paired numbers compare with those of a left row
abbrev pub against : Coordinate → Partner → Ordering
against key p = row_major p.paired.items key

abbrev pub has_paired : Coordinate → Partner → Bool
has_paired key p = is_eq (against key p)

-- the cell of a left row and that of a partner side by side
abbrev pub crossed : Row → Partner → Row
crossed left p = placed (left.at.items ++ p.others.items) (cell_beside left.cell p.cell)

-- a left row with each partner that has its numbers at these places
abbrev pub crossed_with : List ℕ → List Partner → Row → List Row
crossed_with places partners left = map (crossed left) (filter (has_paired (numbers_at places left.at.items)) partners)

-- the numbers of the left row and the others of each partner are at most 6
abbrev pub HasRoom : List Partner → Row → Type 0
HasRoom partners left = All (λ p. length left.at.items + length p.others.items ≤ 6) partners
