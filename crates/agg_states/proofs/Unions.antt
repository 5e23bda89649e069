-- Rows that are put into others, as lists in another order.
use Rattle.std.proofs.Common.{◌≡◌, not, cond, List, [], ◌∷◌, ◌++◌, map, filter, Option, Some, None, refl, ap, ◌∙◌, subst}
use Rattle.std.proofs.lemmas.List.{map-append}
use Rattle.std.proofs.lemmas.List.Elements.{filter-append}
use Rattle.std.specs.Option.{option_or}
use Rattle.std.specs.declared.cmp.Ordering.{Ordering}
use Rattle.std.specs.declared.cmp.Ordering.TheVariants.{Less, Equal, Greater}
use Rattle.std.specs.Ordering.{is_eq, ordering_reverse}
use Rattle.cell_values.specs.declared.datum.Cell.{Cell}
use Rattle.cell_values.specs.declared.datum.Datum.{Datum}
use Rattle.cell_values.specs.declared.datum.Row.{Row}
use Rattle.cell_values.specs.Nulls.{is_null}
use Rattle.array_rows.specs.Rows.{row_major, IsRising, cell_at, put_by, put_row, put_all}
use Rattle.array_rows.proofs.RowsLemmas.{row_major_total, none_at_bound}
use Rattle.array_rows.proofs.RowSets.{cell_at-put_all}
use Rattle.logical_plan.specs.declared.parts.Aggregate.{Aggregate}
use Rattle.logical_plan.specs.Groups.{attribute_of, cells_of}
use Rattle.agg_states.specs.Stands.{values_in, AreApart}
use Rattle.agg_states.proofs.Reorderings.{Reordered, same_order, back, keep, swap, both, map-reordered, filter-reordered}

-- a coordinate without a cell is not the first row's, and has none behind it
pub empty_behind : (o : Ordering) (x : Cell) (rest : Option Cell) → cond (is_eq o) (Some x) rest ≡ None → rest ≡ None
empty_behind Equal x rest e = cc
empty_behind Less x rest e = e
empty_behind Greater x rest e = e

pub empty_apart : (o : Ordering) (x : Cell) (rest : Option Cell) → cond (is_eq o) (Some x) rest ≡ None → o ≡ Equal → ⊥
empty_apart Equal x rest e p = cc
empty_apart Less x rest e p = cc
empty_apart Greater x rest e p = cc

pub put_row-reordered : (new : Row) (rows : List Row) → cell_at rows new.at.items ≡ None → Reordered Row (put_row new rows) (new ∷ rows)
put_row-reordered new [] e = same_order (new ∷ [])
put_row-reordered new (row ∷ rows) e =
    cases (row_major new.at.items row.at.items) refl (put_row-reordered new rows (empty_behind (row_major row.at.items new.at.items) row.cell (cell_at rows new.at.items) e))
  where
    cases : (t : Ordering) → row_major new.at.items row.at.items ≡ t → Reordered Row (put_row new rows) (new ∷ rows) → Reordered Row (put_by t new row rows (put_row new rows)) (new ∷ row ∷ rows)
    cases Less t ih = same_order (new ∷ row ∷ rows)
    cases Equal t ih = absurd (empty_apart (row_major row.at.items new.at.items) row.cell (cell_at rows new.at.items) e (row_major_total.antisymm row.at.items new.at.items ∙ ap ordering_reverse t))
    cases Greater t ih = both (keep row ih) (swap row new rows)

-- the first row's coordinate has no cell in the rest of rising rows, nor in rows that are apart
pub free_in_union : (row : Row) (a b : List Row) → IsRising (row ∷ a) → AreApart (row ∷ a) b → cell_at (put_all a b) row.at.items ≡ None
free_in_union row a b r h =
    cell_at-put_all a b row.at.items
    ∙ ap (λ o. option_or o (cell_at b row.at.items)) (none_at_bound row.at.items a r.0)
    ∙ h.0

pub put_all-reordered : (a b : List Row) → IsRising a → AreApart a b → Reordered Row (put_all a b) (a ++ b)
put_all-reordered [] b r h = same_order b
put_all-reordered (row ∷ a) b r h = both (put_row-reordered row (put_all a b) (free_in_union row a b r h)) (keep row (put_all-reordered a b r.1 h.1))

values-reordered : (g : Aggregate) {a b : List Row} → Reordered Row a b → Reordered Datum (values_in g a) (values_in g b)
values-reordered g r = filter-reordered (λ v. not (is_null v)) (map-reordered (attribute_of g.attribute) (map-reordered (λ row. row.cell) r))

values-append : (g : Aggregate) (a b : List Row) → values_in g (a ++ b) ≡ values_in g a ++ values_in g b
values-append g a b =
    ap (λ cells. filter (λ v. not (is_null v)) (map (attribute_of g.attribute) cells)) (map-append (λ row. row.cell) a b)
    ∙ ap (filter (λ v. not (is_null v))) (map-append (attribute_of g.attribute) (cells_of a) (cells_of b))
    ∙ filter-append (λ v. not (is_null v)) (map (attribute_of g.attribute) (cells_of a)) (map (attribute_of g.attribute) (cells_of b))

-- the values of a new row and of the others, in the order in which they then stand
pub values-put_row : (g : Aggregate) (new : Row) (rows : List Row) → cell_at rows new.at.items ≡ None → Reordered Datum (values_in g (new ∷ rows)) (values_in g (put_row new rows))
values-put_row g new rows e = values-reordered g (back (put_row-reordered new rows e))

pub values-put_all : (g : Aggregate) (a b : List Row) → IsRising a → AreApart a b → Reordered Datum (values_in g a ++ values_in g b) (values_in g (put_all a b))
values-put_all g a b r h = subst (λ vs. Reordered Datum vs (values_in g (put_all a b))) (values-append g a b) (values-reordered g (back (put_all-reordered a b r h)))
