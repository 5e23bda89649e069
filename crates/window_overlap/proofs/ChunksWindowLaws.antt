-- The cells of windows.
use Rattle.std.proofs.Common.{◌≡◌, ℕ, suc, ◌+◌, ◌<◌, ◌≤◌, ◌^◌, Bool, true, false, cond, List, [], ◌∷◌, ◌++◌, map, filter, length, get_or, take, Option, Some, None, refl, sym, ap, ◌∙◌, subst, arith}
use Rattle.std.proofs.lemmas.List.{take_more}
use Rattle.cell_values.specs.declared.datum.Cell.{Cell}
use Rattle.cell_values.specs.declared.datum.Cell.TheVariants.{Full}
use Rattle.cell_values.specs.declared.datum.Datum.{Datum}
use Rattle.cell_values.specs.declared.datum.Row.{Row}
use Rattle.cell_values.specs.declared.schema.Bounds.{Bounds}
use Rattle.cell_values.specs.Cells.{IsCellOf}
use Rattle.array_rows.specs.Boxes.{is_inside, within}
use Rattle.array_rows.specs.Cellwise.{put_first, cell_wise}
use Rattle.array_rows.specs.Rows.{Coordinate, IsRising, placed}
use Rattle.array_rows.proofs.RowSets.{IsRising-rows_where}
use Rattle.array_parts.proofs.PartLemmas.{all_kept}
use Rattle.logical_plan.specs.declared.parts.Aggregate.{Aggregate}
use Rattle.logical_plan.specs.declared.parts.Reach.{Reach}
use Rattle.logical_plan.specs.Groups.{aggregate_of, cells_of, window, window_cell}
use Rattle.window_overlap.specs.Reaches.{CanAggregate}

-- ---- rows of a box

pub rising_within : (area : Bounds) (rows some : List Row) → some ≡ within area rows → IsRising rows → IsRising some
rising_within area rows some e r = subst IsRising (sym e) (IsRising-rows_where (is_inside area) rows r)

pub part_no_longer : (test : Row → Bool) (rows : List Row) → length (filter test rows) ≤ length rows
part_no_longer test [] = omega arith
part_no_longer test (row ∷ rows) = cases (test row) (part_no_longer test rows)
  where
    cases : (b : Bool) → length (filter test rows) ≤ length rows → length (cond b (row ∷ filter test rows) (filter test rows)) ≤ suc (length rows)
    cases true l = omega (arith, l)
    cases false l = omega (arith, l)

pub few_within : (area : Bounds) (rows some : List Row) → some ≡ within area rows → length rows < 2 ^ 63 → length some < 2 ^ 63
few_within area rows some e few =
    let same = ap length e in
    let fewer = part_no_longer (λ row. is_inside area row.at.items) rows in
    omega (arith, same, fewer, few)

abbrev pub can_within : (area : Bounds) (gs : List Aggregate) (rows some : List Row) → some ≡ within area rows → CanAggregate gs rows → CanAggregate gs some
can_within area gs rows some e can = subst (CanAggregate gs) (sym e) (record {
  attributes = can.attributes;
  typed = can.typed;
  cells = all_kept (λ row. IsCellOf can.attributes row.cell) (λ row. is_inside area row.at.items) rows can.cells;
})

-- ---- the cell of a window

pub window_made : (reach : List Reach) (gs : List Aggregate) (rows : List Row) (c : Coordinate) (cell : Cell) (vs values : List Datum) (area : Bounds) (some : List Row) → cell ≡ Full vs → area ≡ window reach c → some ≡ within area rows
    → values ≡ map (λ g. aggregate_of g (cells_of some)) gs → Some (Full values) ≡ window_cell reach gs rows c cell
window_made reach gs rows c cell vs values area some e f same made =
    ap (λ (xs : List Datum). Some (Full xs)) (made ∙ ap (λ (rs : List Row). map (λ g. aggregate_of g (cells_of rs)) gs) (same ∙ ap (λ (a : Bounds). within a rows) f))
    ∙ ap (window_cell reach gs rows c) (sym e)

-- ---- one row after the other

pub cell_wise-more : (change : Coordinate → Cell → Option Cell) (rows : List Row) (row : Row) → cell_wise change (rows ++ row ∷ []) ≡ cell_wise change rows ++ cell_wise change (row ∷ [])
cell_wise-more change [] row = refl
cell_wise-more change (first ∷ rows) row =
    ap (put_first first.at.items (change first.at.items first.cell)) (cell_wise-more change rows row) ∙ cases (change first.at.items first.cell)
  where
    cases : (o : Option Cell) → put_first first.at.items o (cell_wise change rows ++ cell_wise change (row ∷ [])) ≡ put_first first.at.items o (cell_wise change rows) ++ cell_wise change (row ∷ [])
    cases None = refl
    cases (Some cell) = refl

same_place : (new row : Row) → new.at ≡ row.at → new ≡ placed row.at.items new.cell
same_place new row e = λ i. record { at = e i; cell = new.cell }

pub next_made : (change : Coordinate → Cell → Option Cell) (rows : List Row) (i : ℕ) (row new : Row) (made made' : List Row) → i < length rows → row ≡ get_or rows i row → made ≡ cell_wise change (take i rows)
    → new.at ≡ row.at → Some new.cell ≡ change row.at.items row.cell → made' ≡ made ++ new ∷ [] → made' ≡ cell_wise change (take (i + 1) rows)
next_made change rows i row new made made' l e h at cell n =
    let own : new ∷ [] ≡ cell_wise change (row ∷ []) = ap (λ (z : Row). z ∷ []) (same_place new row at) ∙ ap (λ (o : Option Cell). put_first row.at.items o []) cell in
    n
    ∙ (λ j. h j ++ own j)
    ∙ sym (cell_wise-more change (take i rows) row)
    ∙ ap (cell_wise change) (ap (λ (z : Row). take i rows ++ z ∷ []) e ∙ sym (take_more rows i row l))
