-- The joined rows of two arrays are those of an array of their join's schema.
use Rattle.std.proofs.Common.{◌≡◌, cond, ℕ, suc, ◌+◌, ◌≤◌, ℤ, IsTrue, List, [], ◌∷◌, ◌++◌, map, length, take, drop, Option, Some, None, refl, sym, ap, ◌∙◌, subst, arith, length-append, length-take, length-drop}
use Rattle.std.proofs.lemmas.List.{length-map}
use Rattle.std.specs.List.{AllByRecursion}
use Rattle.std.specs.Option.{option_map}
use Rattle.std.specs.Ordering.{is_eq}
use Rattle.std.specs.declared.cmp.Ordering.{Ordering}
use Rattle.std.specs.declared.cmp.Ordering.TheVariants.{Less, Equal, Greater}
use Rattle.cell_values.specs.declared.datum.Cell.{Cell}
use Rattle.cell_values.specs.declared.datum.Cell.TheVariants.{Full, Doubt}
use Rattle.cell_values.specs.declared.datum.Datum.{Datum}
use Rattle.cell_values.specs.declared.datum.Row.{Row}
use Rattle.cell_values.specs.declared.schema.Attribute.{Attribute}
use Rattle.cell_values.specs.declared.schema.Bounds.{Bounds}
use Rattle.cell_values.specs.declared.schema.Dimension.{Dimension}
use Rattle.cell_values.specs.declared.schema.Schema.{Schema}
use Rattle.cell_values.specs.Cells.{AreOfKinds, IsCellOf}
use Rattle.cell_values.specs.Schemas.{IsValid, attribute_names, dimension_names}
use Rattle.array_rows.specs.Arrays.{AreRowsOf}
use Rattle.array_rows.specs.Boxes.{is_inside, bounds_of, by_pairs, corners}
use Rattle.array_rows.specs.Cellwise.{cell_wise, put_first}
use Rattle.array_rows.specs.Rows.{Coordinate, row_major, cell_at}
use Rattle.array_rows.proofs.RowsLemmas.{IsRising-cell_wise}
use Rattle.logical_plan.specs.Joins.{cell_beside, join_rows}
use Rattle.logical_plan.specs.PlanSchema.{free_name, free_names, renamed_dimension, renamed_attribute, join_schema}

-- ---- names

pub as_many_names : (given names : List (List ℕ)) → length (free_names given names) ≡ length names
as_many_names given [] = refl
as_many_names given (name ∷ names) = ap suc (as_many_names (given ++ free_name given name ∷ []) names)

corner : (f : Dimension → ℤ) → ((d : Dimension) (name : List ℕ) → f (renamed_dimension d name) ≡ f d) → (dims : List Dimension) (names : List (List ℕ)) → length dims ≤ length names → map f (by_pairs renamed_dimension dims names) ≡ map f dims
corner f h [] names l = refl
corner f h (d ∷ dims) [] l = absurd (omega (arith, l))
corner f h (d ∷ dims) (name ∷ names) l = λ i. h d name i ∷ corner f h dims names (omega (arith, l)) i

pub same_bounds : (dims : List Dimension) (names : List (List ℕ)) → length dims ≤ length names → bounds_of (by_pairs renamed_dimension dims names) ≡ bounds_of dims
same_bounds dims names l = λ i. corners (corner (λ d. d.lo) (λ d name. refl) dims names l i) (corner (λ d. d.hi) (λ d name. refl) dims names l i)

renamed_kinds : (attributes : List Attribute) (names : List (List ℕ)) (vs : List Datum) → length attributes ≤ length names → AreOfKinds attributes vs → AreOfKinds (by_pairs renamed_attribute attributes names) vs
renamed_kinds [] names vs l h = h
renamed_kinds (a ∷ attributes) [] vs l h = absurd (omega (arith, l))
renamed_kinds (a ∷ attributes) (name ∷ names) [] l h = absurd h
renamed_kinds (a ∷ attributes) (name ∷ names) (v ∷ vs) l h = (h.0, renamed_kinds attributes names vs (omega (arith, l)) h.1)

pub renamed_cell : (attributes : List Attribute) (names : List (List ℕ)) (cell : Cell) → length attributes ≤ length names → IsCellOf attributes cell → IsCellOf (by_pairs renamed_attribute attributes names) cell
renamed_cell attributes names (Full vs) l h = renamed_kinds attributes names vs l h
renamed_cell attributes names (Doubt kind) l h = tt

-- ---- cells side by side

both_kinds : (ls rs : List Attribute) (vs ws : List Datum) → AreOfKinds ls vs → AreOfKinds rs ws → AreOfKinds (ls ++ rs) (vs ++ ws)
both_kinds [] rs [] ws h k = k
both_kinds [] rs (v ∷ vs) ws h k = absurd h
both_kinds (a ∷ ls) rs [] ws h k = absurd h
both_kinds (a ∷ ls) rs (v ∷ vs) ws h k = (h.0, both_kinds ls rs vs ws h.1 k)

pub beside_kinds : (ls rs : List Attribute) (l r : Cell) → IsCellOf ls l → IsCellOf rs r → IsCellOf (ls ++ rs) (cell_beside l r)
beside_kinds ls rs (Doubt kind) r h k = tt
beside_kinds ls rs (Full vs) (Doubt kind) h k = tt
beside_kinds ls rs (Full vs) (Full ws) h k = both_kinds ls rs vs ws h k

found_kind : (P : Cell → Type 0) (rows : List Row) (c : Coordinate) (cell : Cell) → AllByRecursion (λ row. P row.cell) rows → cell_at rows c ≡ Some cell → P cell
found_kind P [] c cell h e = absurd cc
found_kind P (row ∷ rows) c cell h e = cases (row_major row.at.items c) refl e (found_kind P rows c cell h.1)
  where
    the_cell : Option Cell → Cell
    the_cell None = cell
    the_cell (Some z) = z

    cases : (o : Ordering) → row_major row.at.items c ≡ o → cond (is_eq o) (Some row.cell) (cell_at rows c) ≡ Some cell → (cell_at rows c ≡ Some cell → P cell) → P cell
    cases Equal f e ih = subst P (ap the_cell e) h.0
    cases Less f e ih = ih e
    cases Greater f e ih = ih e

joined_cells : (P : Cell → Type 0) (ls rs : List Attribute) (left right : List Row) → ((l r : Cell) → IsCellOf ls l → IsCellOf rs r → P (cell_beside l r)) → AllByRecursion (λ row. IsCellOf ls row.cell) left → AllByRecursion (λ row. IsCellOf rs row.cell) right
    → AllByRecursion (λ row. P row.cell) (join_rows left right)
joined_cells P ls rs [] right f h k = tt
joined_cells P ls rs (row ∷ left) right f h k = cases (cell_at right row.at.items) refl (joined_cells P ls rs left right f h.1 k)
  where
    cases : (o : Option Cell) → cell_at right row.at.items ≡ o → AllByRecursion (λ row. P row.cell) (join_rows left right) → AllByRecursion (λ row. P row.cell) (put_first row.at.items (option_map (cell_beside row.cell) o) (join_rows left right))
    cases None e ih = ih
    cases (Some cell) e ih = (f row.cell cell h.0 (found_kind (IsCellOf rs) right row.at.items cell k e), ih)

kept_places : (P : Coordinate → Type 0) (change : Coordinate → Cell → Option Cell) (rows : List Row) → AllByRecursion (λ row. P row.at.items) rows → AllByRecursion (λ row. P row.at.items) (cell_wise change rows)
kept_places P change [] h = tt
kept_places P change (row ∷ rows) h = cases (change row.at.items row.cell) (kept_places P change rows h.1)
  where
    cases : (o : Option Cell) → AllByRecursion (λ row. P row.at.items) (cell_wise change rows) → AllByRecursion (λ row. P row.at.items) (put_first row.at.items o (cell_wise change rows))
    cases None ih = ih
    cases (Some cell) ih = (h.0, ih)

-- ---- rows of the join

pub join_are_rows : (left right schema : Schema) (left_rows right_rows : List Row) → AreRowsOf left left_rows → AreRowsOf right right_rows → schema ≡ join_schema left right → IsValid schema → AreRowsOf schema (join_rows left_rows right_rows)
join_are_rows left right schema left_rows right_rows l r e v =
    let attributes = left.attributes ++ right.attributes in
    let names = free_names [] (dimension_names left.dimensions ++ attribute_names attributes) in
    let all : length names ≡ length left.dimensions + length attributes =
    as_many_names [] (dimension_names left.dimensions ++ attribute_names attributes) ∙ length-append (dimension_names left.dimensions) (attribute_names attributes)
    ∙ (λ i. length-map left.dimensions (λ (d : Dimension). d.name) i + length-map attributes (λ (a : Attribute). a.name) i) in
    let front = length-take (length left.dimensions) names in
    let behind = length-drop (length left.dimensions) names in
    let bounds : bounds_of schema.dimensions ≡ bounds_of left.dimensions =
    ap (λ (s : Schema). bounds_of s.dimensions) e ∙ same_bounds left.dimensions (take (length left.dimensions) names) (omega (arith, all, front)) in
    let some : length attributes ≤ length (drop (length left.dimensions) names) = omega (arith, all, behind) in
    record {
      valid = v;
      are_rows = record {
        rising = IsRising-cell_wise (λ c cell. option_map (cell_beside cell) (cell_at right_rows c)) left_rows l.are_rows.rising;
        in_bounds = subst (λ (b : Bounds). AllByRecursion (λ (row : Row). IsTrue (is_inside b row.at.items)) (join_rows left_rows right_rows)) (sym bounds)
            (kept_places (λ c. IsTrue (is_inside (bounds_of left.dimensions) c)) (λ c cell. option_map (cell_beside cell) (cell_at right_rows c)) left_rows l.are_rows.in_bounds);
      };
      kinds = subst (λ (s : Schema). AllByRecursion (λ (row : Row). IsCellOf s.attributes row.cell) (join_rows left_rows right_rows)) (sym e)
          (joined_cells (IsCellOf (by_pairs renamed_attribute attributes (drop (length left.dimensions) names))) left.attributes right.attributes left_rows right_rows
          (λ a b h k. renamed_cell attributes (drop (length left.dimensions) names) (cell_beside a b) some (beside_kinds left.attributes right.attributes a b h k)) l.kinds r.kinds);
    }
