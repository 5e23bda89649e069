-- Fitted rows are rows of the new schema.
use Rattle.std.proofs.Common.{◌≡◌, ℕ, ◌*◌, ◌≤◌, ◌^◌, ℤ, suc, Bool, true, false, ◌&&◌, not, cond, List, [], ◌∷◌, length, map, None, Ok, IsTrue, refl, sym, ap, subst, arith, ◌++◌, Some, Option, ◌∙◌, append_assoc}
use Rattle.std.specs.List.{AllByRecursion}
use Rattle.cell_values.specs.declared.datum.Cell.{Cell}
use Rattle.cell_values.specs.declared.datum.Cell.TheVariants.{Full, Doubt}
use Rattle.cell_values.specs.declared.datum.Datum.{Datum}
use Rattle.cell_values.specs.declared.datum.Datum.TheVariants.{Bad}
use Rattle.cell_values.specs.declared.datum.FaultKind.TheVariants.{NullInNotNull}
use Rattle.cell_values.specs.declared.datum.Row.{Row}
use Rattle.cell_values.specs.declared.schema.Attribute.{Attribute}
use Rattle.cell_values.specs.declared.schema.Bounds.{Bounds}
use Rattle.cell_values.specs.declared.schema.Dimension.{Dimension}
use Rattle.cell_values.specs.declared.schema.Kind.{Kind}
use Rattle.cell_values.specs.declared.schema.Schema.{Schema}
use Rattle.cell_values.specs.Cells.{AreOfKinds, IsCellOf, is_of_kind}
use Rattle.cell_values.specs.Nulls.{is_null}
use Rattle.std.specs.List.{list_all}
use Rattle.array_geom.proofs.TestLaws.{and_parts, at_most}
use Rattle.cell_values.specs.Schemas.{IsValid, are_distinct, frame_fits, frame_length, frame_size, has_attributes, has_dimensions, is_dimension, names_of}
use Rattle.array_rows.specs.Arrays.{AreRowsOf, Meant}
use Rattle.array_rows.specs.Boxes.{bounds_of, is_inside}
use Rattle.array_rows.specs.Cellwise.{put_first}
use Rattle.array_rows.proofs.RowsLemmas.{IsRising-cell_wise}
use Rattle.array_geom.specs.Geometry.{frame_lengths, overlaps, volume}
use Rattle.array_geom.specs.Link.{HoldsRows, Is}
use Rattle.array_geom.specs.declared.chunk.ChunkedArray.{ChunkedArray}
use Rattle.chunk_cells.proofs.WholeLaws.{stands_for}
use Rattle.logical_plan.specs.CellOps.{fit_cell, fit_rows, fit_value, fit_values}
use Rattle.chunk_cells.specs.Fitted.{HasValues, fitted}

abbrev kinds : List Attribute → List Kind
kinds attributes = map (λ (a : Attribute). a.kind) attributes

fitted_kind : (a : Attribute) (v : Datum) → IsTrue (is_of_kind a.kind v) → IsTrue (is_of_kind a.kind (fit_value a v))
fitted_kind a v h = cases (is_null v && not a.nullable)
  where
    cases : (b : Bool) → IsTrue (is_of_kind a.kind (cond b (Bad NullInNotNull) v))
    cases true = refl
    cases false = h

fitted_values : (old new : List Attribute) (values : List Datum) → kinds new ≡ kinds old → AreOfKinds old values → AreOfKinds new (fit_values new values)
fitted_values [] [] [] e a = tt
fitted_values [] (b ∷ new) values e a = cc
fitted_values (b ∷ old) [] values e a = cc
fitted_values [] [] (v ∷ values) e a = a
fitted_values (b ∷ old) (d ∷ new) [] e a = a
fitted_values (b ∷ old) (d ∷ new) (v ∷ values) e a =
    let here : d.kind ≡ b.kind = cc in
    let rest : kinds new ≡ kinds old = cc in
    (fitted_kind d v (subst (λ (k : Kind). IsTrue (is_of_kind k v)) (sym here) a.0), fitted_values old new values rest a.1)

as_many : (old new : List Attribute) (values : List Datum) → kinds new ≡ kinds old → AreOfKinds old values → length values ≡ length new
as_many [] [] [] e a = refl
as_many [] (b ∷ new) values e a = cc
as_many (b ∷ old) [] values e a = cc
as_many [] [] (v ∷ values) e a = absurd a
as_many (b ∷ old) (d ∷ new) [] e a = absurd a
as_many (b ∷ old) (d ∷ new) (v ∷ values) e a = let rest : kinds new ≡ kinds old = cc in ap suc (as_many old new values rest a.1)

has_values : (old new : List Attribute) (cell : Cell) → kinds new ≡ kinds old → IsCellOf old cell → HasValues new cell
has_values old new (Full values) e h = as_many old new values e h
has_values old new (Doubt kind) e h = tt

pub have_values : (old new : List Attribute) (rows : List Row) → kinds new ≡ kinds old → AllByRecursion (λ row. IsCellOf old row.cell) rows → AllByRecursion (λ row. HasValues new row.cell) rows
have_values old new [] e a = tt
have_values old new (row ∷ rows) e a = (has_values old new row.cell e a.0, have_values old new rows e a.1)

fitted_cells : (old new : List Attribute) (rows : List Row) → kinds new ≡ kinds old → AllByRecursion (λ row. IsCellOf old row.cell) rows → AllByRecursion (λ row. IsCellOf new row.cell) (fit_rows new rows)
fitted_cells old new [] e a = tt
fitted_cells old new (row ∷ rows) e a = next row.at.items row.cell a.0 (fitted_cells old new rows e a.1)
  where
    next : (c : List ℤ) (cell : Cell) → IsCellOf old cell → AllByRecursion (λ r. IsCellOf new r.cell) (fit_rows new rows) → AllByRecursion (λ r. IsCellOf new r.cell) (put_first c (fit_cell new c cell) (fit_rows new rows))
    next c (Full values) h more = (fitted_values old new values e h, more)
    next c (Doubt kind) h more = (tt, more)

fitted_inside : (area : Bounds) (attributes : List Attribute) (rows : List Row) → AllByRecursion (λ row. IsTrue (is_inside area row.at.items)) rows → AllByRecursion (λ row. IsTrue (is_inside area row.at.items)) (fit_rows attributes rows)
fitted_inside area attributes [] a = tt
fitted_inside area attributes (row ∷ rows) a = next row.at.items row.cell a.0 (fitted_inside area attributes rows a.1)
  where
    next : (c : List ℤ) (cell : Cell) → IsTrue (is_inside area c) → AllByRecursion (λ r. IsTrue (is_inside area r.at.items)) (fit_rows attributes rows) → AllByRecursion (λ r. IsTrue (is_inside area r.at.items)) (put_first c (fit_cell attributes c cell) (fit_rows attributes rows))
    next c (Full values) h more = (h, more)
    next c (Doubt kind) h more = (h, more)

-- the rows of one schema, fitted, are rows of the other
pub fitted_rows : (old new : Schema) (rows : List Row) → IsValid new → bounds_of new.dimensions ≡ bounds_of old.dimensions → kinds new.attributes ≡ kinds old.attributes → AreRowsOf old rows → AreRowsOf new (fit_rows new.attributes rows)
fitted_rows old new rows valid bounds same are = record {
  valid = valid;
  are_rows = record {
    rising = IsRising-cell_wise (fit_cell new.attributes) rows are.are_rows.rising;
    in_bounds = subst (λ (area : Bounds). AllByRecursion (λ row. IsTrue (is_inside area row.at.items)) (fit_rows new.attributes rows)) (sym bounds) (fitted_inside (bounds_of old.dimensions) new.attributes rows are.are_rows.in_bounds);
  };
  kinds = fitted_cells old.attributes new.attributes rows same are.kinds;
}

pub fitted_meant : (array : ChunkedArray) (schema : Schema) (meant : Meant) (rows : List Row) → array.broken ≡ None → Is array meant → HoldsRows array.schema array rows → record { schema = schema; rows = Ok (fit_rows schema.attributes rows) } ≡ fitted schema meant
fitted_meant array schema meant rows e is h = ap (fitted schema) (stands_for array meant rows e is h)

size_is_volume : (dims : List Dimension) → frame_size dims ≡ volume (frame_lengths dims (overlaps dims))
size_is_volume [] = refl
size_is_volume (d ∷ dims) = ap (λ (n : ℕ). frame_length d * n) (size_is_volume dims)

-- the frames of a valid schema with its overlaps are not too large
pub stored_places : (schema : Schema) (margins : List ℕ) → IsValid schema → margins ≡ overlaps schema.dimensions → volume (frame_lengths schema.dimensions margins) ≤ 2 ^ 48
stored_places schema margins e m =
    let dims = schema.dimensions in
    let a = and_parts (has_attributes schema.attributes && has_dimensions dims && are_distinct (names_of schema) && list_all is_dimension dims) (frame_fits dims) e in
    let small = at_most (frame_size dims) 281474976710656 a.1 in
    let same = size_is_volume dims in
    subst (λ (ms : List ℕ). volume (frame_lengths dims ms) ≤ 2 ^ 48) (sym m) (omega arith)

-- ---- rows fitted one by one

fitted_first : (attributes : List Attribute) (row : Row) (cell : Cell) (rows : List Row) → fit_cell attributes [] row.cell ≡ Some cell
    → fit_rows attributes (row ∷ rows) ≡ record { at = row.at; cell = cell } ∷ fit_rows attributes rows
fitted_first attributes row cell rows e = ap (λ (o : Option Cell). put_first row.at.items o (fit_rows attributes rows)) (anywhere row.cell ∙ e)
  where
    anywhere : (found : Cell) → fit_cell attributes row.at.items found ≡ fit_cell attributes [] found
    anywhere (Full values) = refl
    anywhere (Doubt kind) = refl

pub fitted_more : (attributes : List Attribute) (made new : List Row) (row : Row) (cell : Cell) (left all whole : List Row) → new ≡ made ++ record { at = row.at; cell = cell } ∷ [] → all ≡ row ∷ left
    → fit_cell attributes [] row.cell ≡ Some cell → made ++ fit_rows attributes all ≡ whole → new ++ fit_rows attributes left ≡ whole
fitted_more attributes made new row cell left all whole pushed taken fits is =
    let fresh : Row = record { at = row.at; cell = cell } in
    ap (λ (rs : List Row). rs ++ fit_rows attributes left) pushed ∙ append_assoc made (fresh ∷ []) (fit_rows attributes left)
    ∙ ap (λ (rs : List Row). made ++ rs) (sym (fitted_first attributes row cell left fits)) ∙ ap (λ (rs : List Row). made ++ fit_rows attributes rs) (sym taken) ∙ is
