-- Cells that are changed one by one, kept or moved have as many values as before.
use Rattle.std.proofs.Common.{ℕ, Bool, List, [], ◌∷◌, map, filter, Option, Some, None, Result, Ok, Err}
use Rattle.std.specs.Prelude.{IfOk, ⊤}
use Rattle.cell_values.specs.declared.datum.Broken.{Broken}
use Rattle.cell_values.specs.declared.datum.Cell.{Cell}
use Rattle.cell_values.specs.declared.datum.Row.{Row}
use Rattle.cell_values.specs.declared.schema.Bounds.{Bounds}
use Rattle.array_rows.specs.Boxes.{is_inside, moved, within}
use Rattle.array_rows.specs.Cellwise.{cell_wise, put_first}
use Rattle.array_rows.specs.Rows.{Coordinate}
use Rattle.logical_plan.specs.Faults.{if_whole}
use Rattle.logical_plan.proofs.BuiltRows.{all-map}
use Rattle.plan_needs.proofs.RowLists.{all_where}
use Rattle.plan_rewrite.specs.Inner.Wide.{IsWide, AreWide}

unfoldable pub IfThere : ℕ → Option Cell → Type 0
IfThere n None = ⊤
IfThere n (Some cell) = IsWide n cell

pub changed_wide : (m n : ℕ) (change : Coordinate → Cell → Option Cell) → ((c : Coordinate) (cell : Cell) → IsWide m cell → IfThere n (change c cell)) → (rows : List Row) → AreWide m rows → AreWide n (cell_wise change rows)
unfolding IfThere
changed_wide m n change h [] w = tt
changed_wide m n change h (row ∷ rows) w = here (change row.at.items row.cell) (h row.at.items row.cell w.0) (changed_wide m n change h rows w.1)
  where
    here : (o : Option Cell) → IfThere n o → AreWide n (cell_wise change rows) → AreWide n (put_first row.at.items o (cell_wise change rows))
    here None t ih = ih
    here (Some cell) t ih = (t, ih)

pub if_wide : (m n : ℕ) (f : List Row → List Row) → ((rows : List Row) → AreWide m rows → AreWide n (f rows)) → (r : Result (List Row) Broken) → IfOk r (AreWide m) → IfOk (if_whole f r) (AreWide n)
if_wide m n f h (Ok rows) w = h rows w
if_wide m n f h (Err broken) w = w

pub where_wide : (n : ℕ) (test : Row → Bool) (rows : List Row) → AreWide n rows → AreWide n (filter test rows)
where_wide n test rows w = all_where (λ (row : Row). IsWide n row.cell) test rows w

pub moved_wide : (n : ℕ) (to : Coordinate → Coordinate) (rows : List Row) → AreWide n rows → AreWide n (map (moved to) rows)
moved_wide n to rows w = all-map (λ (row : Row). IsWide n row.cell) (moved to) rows w

pub within_wide : (n : ℕ) (area : Bounds) (rows : List Row) → AreWide n rows → AreWide n (within area rows)
within_wide n area rows w = where_wide n (λ (row : Row). is_inside area row.at.items) rows w
