-- Rows that are cut cell by cell are the rows in the box.
use Rattle.std.proofs.Common.{◌≡◌, Bool, true, false, cond, List, [], ◌∷◌, Some, None, refl, ap, ◌∙◌}
use Rattle.cell_values.specs.declared.datum.Row.{Row}
use Rattle.cell_values.specs.declared.schema.Bounds.{Bounds}
use Rattle.array_rows.specs.Boxes.{is_inside, within}
use Rattle.array_rows.specs.Cellwise.{put_first, cell_wise}
use Rattle.exec_box.specs.Cut.{cut_cell}

stays : (t : Bool) (row : Row) (rows : List Row) → put_first row.at.items (cond t (Some row.cell) None) rows ≡ cond t (row ∷ rows) rows
stays true row rows = refl
stays false row rows = refl

pub cut_rows : (area : Bounds) (rows : List Row) → cell_wise (cut_cell area) rows ≡ within area rows
cut_rows area [] = refl
cut_rows area (row ∷ rows) =
    stays (is_inside area row.at.items) row (cell_wise (cut_cell area) rows)
    ∙ ap (λ (rs : List Row). cond (is_inside area row.at.items) (row ∷ rs) rs) (cut_rows area rows)

pub cut_is_within : (area : Bounds) → cell_wise (cut_cell area) ≡ within area
cut_is_within area = λ i. λ rows. cut_rows area rows i
