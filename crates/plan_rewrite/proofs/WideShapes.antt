-- Cells that are ordered, moved, or of two arrays keep one value for each attribute.
use Rattle.std.proofs.Common.{◌≡◌, ℕ, suc, ◌+◌, ℤ, Bool, true, false, cond, IsTrue, List, [], ◌∷◌, ◌++◌, map, length, Option, Some, None, Result, Ok, Err, refl, ap, ◌∙◌, length-append, arith}
use Rattle.std.specs.Prelude.{◌&&◌, int_le, slice_get, IfOk}
use Rattle.std.specs.List.{AllByRecursion, cons_option, flat_map}
use Rattle.std.proofs.lemmas.List.{length-map}
use Rattle.cell_values.specs.declared.datum.Broken.{Broken}
use Rattle.cell_values.specs.declared.datum.Cell.{Cell}
use Rattle.cell_values.specs.declared.datum.Cell.TheVariants.{Full, Doubt}
use Rattle.cell_values.specs.declared.datum.Datum.TheVariants.{Int}
use Rattle.cell_values.specs.declared.datum.Row.{Row}
use Rattle.cell_values.specs.declared.schema.Attribute.{Attribute}
use Rattle.cell_values.specs.declared.schema.Dimension.{Dimension}
use Rattle.cell_values.specs.declared.schema.Schema.{Schema}
use Rattle.array_geom.proofs.TestLaws.{and_parts}
use Rattle.array_rows.specs.Boxes.{by_pairs, is_inside, bounds_of, moved}
use Rattle.array_rows.specs.Rows.{Coordinate, placed}
use Rattle.expr_nulls.specs.Typing.{same_kind}
use Rattle.logical_plan.specs.declared.parts.Aggregate.{Aggregate}
use Rattle.logical_plan.specs.Faults.{and_then}
use Rattle.logical_plan.specs.Groups.{cells_of, first_some}
use Rattle.logical_plan.specs.Ordered.{comes_first, cumulate_cell, insert_by, numbered, rank_cell, sort_rows, sorted_by, unless_unsortable, unsortable_at}
use Rattle.logical_plan.specs.PlanSchema.{rank_schema, with_rank}
use Rattle.logical_plan.specs.Shapes.{after_cell, along, block_of, concat_rows, merge_rows, mirrored, places_of, reverse_rows, spread_over, transpose_rows, unpacked_from, unpack_rows, backwards, xgrid_rows}
use Rattle.logical_plan.specs.ShapeSchemas.{either_of, numbers_of, unpack_schema}
use Rattle.logical_plan.specs.Typing.{are_apart, are_below, can_be_ranked, ranks, same_kinds}
use Rattle.logical_plan.proofs.BuiltRows.{all-append, all-each, all-flat_map, all-follows, all-map}
use Rattle.plan_needs.proofs.Inside.{AreInside}
use Rattle.plan_needs.proofs.RowLists.{all_in_order}
use Rattle.plan_rewrite.specs.Inner.Wide.{IsWide, AreWide}
use Rattle.plan_rewrite.proofs.WideRows.{IfThere, moved_wide}

-- ---- sort

all_inserted : {A : Type 0} (P : A → Type 0) (before : A → A → Bool) (x : A) (xs : List A) → P x → AllByRecursion P xs → AllByRecursion P (insert_by before x xs)
all_inserted P before x [] p h = (p, tt)
all_inserted P before x (y ∷ xs) p h = cases (before y x) (all_inserted P before x xs p h.1)
  where
    cases : (b : Bool) → AllByRecursion P (insert_by before x xs) → AllByRecursion P (cond b (y ∷ insert_by before x xs) (x ∷ y ∷ xs))
    cases true r = (h.0, r)
    cases false r = (p, h)

all_sorted : {A : Type 0} (P : A → Type 0) (before : A → A → Bool) (xs : List A) → AllByRecursion P xs → AllByRecursion P (sorted_by before xs)
all_sorted P before [] h = tt
all_sorted P before (x ∷ xs) h = all_inserted P before x (sorted_by before xs) h.0 (all_sorted P before xs h.1)

numbered_wide : (n k : ℕ) (cells : List Cell) → AllByRecursion (IsWide n) cells → AreWide n (numbered k cells)
numbered_wide n k [] h = tt
numbered_wide n k (cell ∷ cells) h = (h.0, numbered_wide n (k + 1) cells h.1)

pub sort_wide : (n : ℕ) (keys : List ℕ) (rows : List Row) → AreWide n rows → IfOk (sort_rows keys rows) (AreWide n)
sort_wide n keys rows w = cases (first_some (unsortable_at keys) rows)
  where
    cases : (o : Option Broken) → IfOk (unless_unsortable o (numbered 0 (sorted_by (comes_first keys) (cells_of rows)))) (AreWide n)
    cases None = numbered_wide n 0 (sorted_by (comes_first keys) (cells_of rows)) (all_sorted (IsWide n) (comes_first keys) (cells_of rows) (all-map (IsWide n) (λ (row : Row). row.cell) rows w))
    cases (Some broken) = tt

-- ---- rank and cumulate

pub ranked_wide : (x : ℕ) (dims : List ℕ) (rows : List Row) (m : ℕ) (c : Coordinate) (cell : Cell) → IsWide m cell → IfThere 2 (rank_cell x dims rows c cell)
unfolding IfThere
ranked_wide x dims rows m c (Full vs) e = refl
ranked_wide x dims rows m c (Doubt kind) e = tt

pub ranked_length : (schema : Schema) (x : ℕ) (dims : List ℕ) → IsTrue (ranks schema x dims) → length (rank_schema x schema).attributes ≡ 2
ranked_length schema x dims typed =
    let p = and_parts (can_be_ranked (slice_get schema.attributes x) && are_below (length schema.dimensions) dims) (are_apart dims) typed in
    let q = and_parts (can_be_ranked (slice_get schema.attributes x)) (are_below (length schema.dimensions) dims) p.0 in
    cases (slice_get schema.attributes x) q.0
  where
    cases : (o : Option Attribute) → IsTrue (can_be_ranked o) → length (with_rank (cons_option o [])) ≡ 2
    cases None t = absurd cc
    cases (Some a) t = refl

pub cumulated_wide : (d : ℕ) (gs : List Aggregate) (rows : List Row) (m : ℕ) (c : Coordinate) (cell : Cell) → IsWide m cell → IfThere (length gs) (cumulate_cell d gs rows c cell)
unfolding IfThere
cumulated_wide d gs rows m c (Full vs) e = length-map gs _
cumulated_wide d gs rows m c (Doubt kind) e = tt

-- ---- cells at other coordinates

pub transposed_wide : (n : ℕ) (rows : List Row) → AreWide n rows → AreWide n (transpose_rows rows)
transposed_wide n rows w = all_in_order (λ row. IsWide n row.cell) (map (moved backwards) rows) (moved_wide n backwards rows w)

pub reversed_wide : (n : ℕ) (dims : List Dimension) (rows : List Row) → AreWide n rows → AreWide n (reverse_rows dims rows)
reversed_wide n dims rows w = all_in_order (λ row. IsWide n row.cell) (map (moved (mirrored dims)) rows) (moved_wide n (mirrored dims) rows w)

pub xgridded_wide : (n : ℕ) (dims : List Dimension) (sizes : List ℕ) (rows : List Row) → AreWide n rows → AreWide n (xgrid_rows dims sizes rows)
xgridded_wide n dims sizes rows w =
    let spread : Row → List Row = λ row. spread_over row.cell (places_of (block_of dims sizes row.at.items)) in
    all_in_order (λ row. IsWide n row.cell) (flat_map spread rows)
    (all-flat_map (λ (row : Row). IsWide n row.cell) spread rows
    (all-follows (λ (row : Row). IsWide n row.cell) (λ (row : Row). AreWide n (spread row))
    (λ row e. all-map (λ (made : Row). IsWide n made.cell) (λ c. placed c row.cell) (places_of (block_of dims sizes row.at.items))
    (all-each (λ (c : Coordinate). IsWide n row.cell) (λ c. e) (places_of (block_of dims sizes row.at.items)))) rows w))

-- ---- unpack

as_many : (dims : List Dimension) (c : Coordinate) → is_inside (bounds_of dims) c ≡ true → length c ≡ length dims
as_many [] [] e = refl
as_many [] (x ∷ c) e = cc
as_many (d ∷ dims) [] e = cc
as_many (d ∷ dims) (x ∷ c) e = ap suc (as_many dims c (and_parts (int_le d.lo x && int_le x d.hi) (is_inside (bounds_of dims) c) e).1)

unpacked_wide : (n k : ℕ) (dims : List Dimension) (rows : List Row) → AreWide n rows → AreInside dims rows → IfOk (unpacked_from k rows) (AreWide (length dims + n))
unpacked_wide n k dims [] w i = tt
unpacked_wide n k dims (row ∷ rows) w i = cases row.cell w.0 (unpacked_from (k + 1) rows) (unpacked_wide n (k + 1) dims rows w.1 i.1)
  where
    cases : (cell : Cell) → IsWide n cell → (r : Result (List Row) Broken) → IfOk r (AreWide (length dims + n)) → IfOk (after_cell k row cell r) (AreWide (length dims + n))
    cases (Doubt kind) e r h = tt
    cases (Full vs) e (Err broken) h = tt
    cases (Full vs) e (Ok made) h =
        let many : length row.at.items ≡ length dims = as_many dims row.at.items i.0 in
        let long : length (map Int row.at.items ++ vs) ≡ length dims + n = omega (arith, length-append (map Int row.at.items) vs, length-map row.at.items Int, many, e) in
        (long, h)

pub unpack_wide : (n : ℕ) (dims : List Dimension) (rows : List Row) → AreWide n rows → AreInside dims rows → IfOk (unpack_rows rows) (AreWide (length dims + n))
unpack_wide n dims rows w i = unpacked_wide n 0 dims rows w i

pub unpacked_length : (schema target : Schema) (name : List ℕ) → target ≡ unpack_schema name schema → length target.attributes ≡ length schema.dimensions + length schema.attributes
unpacked_length schema target name e =
    ap (λ (s : Schema). length s.attributes) e ∙ length-append (map numbers_of schema.dimensions) schema.attributes ∙ ap (λ (k : ℕ). k + length schema.attributes) (length-map schema.dimensions numbers_of)

-- what may break in its turn
pub then_wide : (P : List Row → Type 0) (n : ℕ) (f : List Row → Result (List Row) Broken) → ((rows : List Row) → P rows → IfOk (f rows) (AreWide n)) → (r : Result (List Row) Broken) → IfOk r P → IfOk (and_then f r) (AreWide n)
then_wide P n f h (Ok rows) p = h rows p
then_wide P n f h (Err broken) p = tt

pub both_hold_of : (P Q : List Row → Type 0) (r : Result (List Row) Broken) → IfOk r P → IfOk r Q → IfOk r (λ rows. P rows × Q rows)
both_hold_of P Q (Ok rows) p q = (p, q)
both_hold_of P Q (Err broken) p q = tt

-- ---- two arrays in one

pub same_many : (left right : List Attribute) → same_kinds left right ≡ true → length right ≡ length left
same_many [] [] e = refl
same_many [] (b ∷ right) e = cc
same_many (a ∷ left) [] e = cc
same_many (a ∷ left) (b ∷ right) e = ap suc (same_many left right (and_parts (same_kind a.kind b.kind) (same_kinds left right) e).1)

pub either_length : (left right : List Attribute) → same_kinds left right ≡ true → length (by_pairs either_of left right) ≡ length left
either_length [] right e = refl
either_length (a ∷ left) [] e = cc
either_length (a ∷ left) (b ∷ right) e = ap suc (either_length left right (and_parts (same_kind a.kind b.kind) (same_kinds left right) e).1)

pub merged_wide : (n : ℕ) (left right : List Row) → AreWide n left → AreWide n right → AreWide n (merge_rows left right)
merged_wide n left right v w = all_in_order (λ row. IsWide n row.cell) (left ++ right) (all-append (λ (row : Row). IsWide n row.cell) left right v w)

pub concatenated_wide : (n : ℕ) (by : ℤ) (left right : List Row) → AreWide n left → AreWide n right → AreWide n (concat_rows by left right)
concatenated_wide n by left right v w = all-append (λ (row : Row). IsWide n row.cell) left (map (moved (along by)) right) v (moved_wide n (along by) right w)
