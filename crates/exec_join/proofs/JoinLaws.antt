-- Joins of the rows in a box.
use Rattle.std.proofs.Common.{◌≡◌, Bool, true, false, cond, List, [], ◌∷◌, None, refl, sym, ap, ◌∙◌}
use Rattle.std.specs.Option.{option_map}
use Rattle.cell_values.specs.declared.datum.Row.{Row}
use Rattle.cell_values.specs.declared.schema.Bounds.{Bounds}
use Rattle.array_rows.specs.Boxes.{is_inside, within}
use Rattle.array_rows.specs.Cellwise.{put_first}
use Rattle.array_rows.specs.Rows.{cell_at}
use Rattle.array_rows.proofs.RowsLemmas.{within-cell_wise}
use Rattle.array_rows.proofs.RowSets.{cell_at-within}
use Rattle.logical_plan.specs.Joins.{cell_beside, join_rows}

join_inside : (area : Bounds) (b a : List Row) → join_rows (within area a) b ≡ join_rows (within area a) (within area b)
join_inside area b [] = refl
join_inside area b (x ∷ a) = cases (is_inside area x.at.items) refl (join_inside area b a)
  where
    cases : (t : Bool) → is_inside area x.at.items ≡ t → join_rows (within area a) b ≡ join_rows (within area a) (within area b) → join_rows (cond t (x ∷ within area a) (within area a)) b ≡ join_rows (cond t (x ∷ within area a) (within area a)) (within area b)
    cases false e ih = ih
    cases true e ih =
        let here : cell_at b x.at.items ≡ cell_at (within area b) x.at.items =
        sym (cell_at-within area b x.at.items ∙ ap (λ (t : Bool). cond t (cell_at b x.at.items) None) e) in
        λ i. put_first x.at.items (option_map (cell_beside x.cell) (here i)) (ih i)

-- the joined rows in a box are those of what both have there
pub within_join : (area : Bounds) (a b : List Row) → within area (join_rows a b) ≡ join_rows (within area a) (within area b)
within_join area a b =
    within-cell_wise area (λ c cell. option_map (cell_beside cell) (cell_at b c)) a
    ∙ join_inside area b a
