-- The cells of a typed plan are those of an array of its schema.
use Rattle.std.proofs.Common.{◌≡◌, ℕ, zero, suc, Bool, true, false, cond, List, [], ◌∷◌, ◌++◌, map, length, Option, Some, None, Result, Ok, Err, refl, sym, ap, subst, arith}
use Rattle.std.specs.Prelude.{◌&&◌, not, filter, int_le, nat_le, nat_lt, slice_get, slice_index_or, IfOk, IsTrue}
use Rattle.std.specs.List.{AllByRecursion, AllZip, list_all, cons_option}
use Rattle.cell_values.specs.declared.datum.Broken.{Broken}
use Rattle.cell_values.specs.declared.datum.Cell.{Cell}
use Rattle.cell_values.specs.declared.datum.Cell.TheVariants.{Full, Doubt}
use Rattle.cell_values.specs.declared.datum.Datum.{Datum}
use Rattle.cell_values.specs.declared.datum.Datum.TheVariants.{Null, Missing, Int, Text, Truth, Bad}
use Rattle.cell_values.specs.declared.datum.FaultKind.TheVariants.{NullInNotNull}
use Rattle.cell_values.specs.declared.datum.Row.{Row}
use Rattle.cell_values.specs.declared.schema.Attribute.{Attribute}
use Rattle.cell_values.specs.declared.schema.Bounds.{Bounds}
use Rattle.cell_values.specs.declared.schema.Dimension.{Dimension}
use Rattle.cell_values.specs.declared.schema.Schema.{Schema}
use Rattle.cell_values.specs.Cells.{is_of_kind, AreOfKinds, IsCellOf}
use Rattle.cell_values.specs.Nulls.{is_null}
use Rattle.cell_values.specs.Schemas.{has_attributes, has_dimensions, are_distinct, names_of, is_dimension, frame_fits, is_bound, bounds_in_range, bounds_in_order, has_chunk, overlap_fits, IsValid}
use Rattle.cell_values.specs.Table.{fits_int64}
use Rattle.array_rows.specs.Arrays.{AreRows, AreRowsOf}
use Rattle.array_rows.specs.Boxes.{is_inside, within, bounds_of}
use Rattle.array_rows.specs.Cellwise.{cell_wise, put_first}
use Rattle.array_rows.specs.Rows.{Coordinate, placed}
use Rattle.array_rows.proofs.RowsLemmas.{IsRising-cell_wise}
use Rattle.array_rows.proofs.RowSets.{IsRising-rows_where}
use Rattle.expr_nulls.specs.Expr.{Expr}
use Rattle.expr_nulls.specs.ExprValue.{value_of}
use Rattle.expr_nulls.specs.Typing.{has_kind}
use Rattle.expr_nulls.proofs.Sound.{sound}
use Rattle.logical_plan.specs.declared.parts.Applied.{Applied}
use Rattle.logical_plan.specs.BoxOps.{items_at}
use Rattle.logical_plan.specs.CellOps.{kept, filter_cell, filter_rows, apply_cell, apply_rows, project_cell, project_rows, fit_value, fit_values, fit_cell}
use Rattle.logical_plan.specs.Faults.{if_whole}
use Rattle.logical_plan.specs.declared.parts.Leaf.{Leaf}
use Rattle.logical_plan.specs.Leaves.{leaves}
use Rattle.logical_plan.specs.Meaning.{Database, meaning, version_rows, built_rows, coordinates}
use Rattle.logical_plan.specs.PlanSchema.{schema_of, derived, apply_schema, project_schema}
use Rattle.logical_plan.specs.Query.{Query, built, listed, scanned, filtered, applied, projected, between, subarray, sliced, joined, crossed, redimensioned, regridded, windowed, aggregated, sorted, ranked, cumulated, transposed, reversed, unpacked, xgridded, merged, concatenated}
use Rattle.logical_plan.specs.Typing.{IsTyped, is_bounded, places_in, fits_one, fits_apply, is_over, is_null_alone, kinds_of, builds, are_below}
use Rattle.logical_plan.proofs.BuiltRows.{all-map, all-follows, both, rows_rise, coordinates_rise, coordinates_inside, between_fits}

-- ---- changes cell by cell

-- of the cell, if there is one
abbrev Holds : (Cell → Type 0) → Option Cell → Type 0
Holds P None = Unit {0}
Holds P (Some cell) = P cell

holds_anyway : (X : Type 0) (o : Option Cell) → X → Holds (λ cell. X) o
holds_anyway X None x = tt
holds_anyway X (Some cell) x = x

all-cell_wise : (Q P : Row → Type 0) (change : Coordinate → Cell → Option Cell)
    → ((row : Row) → Q row → Holds (λ cell. P (placed row.at.items cell)) (change row.at.items row.cell))
    → (rows : List Row) → AllByRecursion Q rows → AllByRecursion P (cell_wise change rows)
all-cell_wise Q P change h [] a = tt
all-cell_wise Q P change h (row ∷ rows) a = here (change row.at.items row.cell) (h row a.0) (all-cell_wise Q P change h rows a.1)
  where
    here : (o : Option Cell) → Holds (λ cell. P (placed row.at.items cell)) o → AllByRecursion P (cell_wise change rows) → AllByRecursion P (put_first row.at.items o (cell_wise change rows))
    here None p r = r
    here (Some cell) p r = (p, r)

InBounds : List Dimension → Row → Type 0
InBounds dims row = IsTrue (is_inside (bounds_of dims) row.at.items)

-- a change cell by cell keeps the places
kept_rows : (dims : List Dimension) (change : Coordinate → Cell → Option Cell) (rows : List Row) → AreRows dims rows → AreRows dims (cell_wise change rows)
unfolding InBounds
kept_rows dims change rows a = record {
  rising = IsRising-cell_wise change rows a.rising;
  in_bounds = all-cell_wise (InBounds dims) (InBounds dims) change (λ row i. holds_anyway (InBounds dims row) (change row.at.items row.cell) i) rows a.in_bounds;
}

-- ---- coordinates of a valid schema

dimension_bounds : (d : Dimension) → is_dimension d ≡ true → (is_bound d.lo ≡ true) × (is_bound d.hi ≡ true)
dimension_bounds d v =
    let three = both (bounds_in_range d && bounds_in_order d && has_chunk d) (overlap_fits d) v in
    let two = both (bounds_in_range d && bounds_in_order d) (has_chunk d) three.0 in
    let one = both (bounds_in_range d) (bounds_in_order d) two.0 in
    both (is_bound d.lo) (is_bound d.hi) one.0

valid_dimensions : (schema : Schema) → IsValid schema → list_all is_dimension schema.dimensions ≡ true
valid_dimensions schema v =
    let four = both (has_attributes schema.attributes && has_dimensions schema.dimensions && are_distinct (names_of schema) && list_all is_dimension schema.dimensions) (frame_fits schema.dimensions) v in
    (both (has_attributes schema.attributes && has_dimensions schema.dimensions && are_distinct (names_of schema)) (list_all is_dimension schema.dimensions) four.0).1

inside_length : (dims : List Dimension) (c : Coordinate) → is_inside (bounds_of dims) c ≡ true → length c ≡ length dims
inside_length [] [] i = refl
inside_length [] (x ∷ c) i = cc
inside_length (d ∷ dims) [] i = cc
inside_length (d ∷ dims) (x ∷ c) i = ap (λ n. suc n) (inside_length dims c (both (int_le d.lo x && int_le x d.hi) (is_inside (bounds_of dims) c) i).1)

two_true : (p q : Bool) → p ≡ true → q ≡ true → (p && q) ≡ true
two_true true true a b = refl
two_true false q a b = cc
two_true true false a b = cc

inside_fits : (dims : List Dimension) (c : Coordinate) → list_all is_dimension dims ≡ true → is_inside (bounds_of dims) c ≡ true → list_all fits_int64 c ≡ true
inside_fits [] [] v i = refl
inside_fits [] (x ∷ c) v i = cc
inside_fits (d ∷ dims) [] v i = cc
inside_fits (d ∷ dims) (x ∷ c) v i =
    let valid = both (is_dimension d) (list_all is_dimension dims) v in
    let inside = both (int_le d.lo x && int_le x d.hi) (is_inside (bounds_of dims) c) i in
    let ends = both (int_le d.lo x) (int_le x d.hi) inside.0 in
    let bounds = dimension_bounds d valid.0 in
    two_true (fits_int64 x) (list_all fits_int64 c) (between_fits d.lo d.hi x bounds.0 bounds.1 ends.0 ends.1) (inside_fits dims c valid.1 inside.1)

-- ---- build

fitted_kind : (a : Attribute) (v : Datum) → is_of_kind a.kind v ≡ true → is_of_kind a.kind (fit_value a v) ≡ true
fitted_kind a v h = cases (is_null v && not a.nullable)
  where
    cases : (b : Bool) → is_of_kind a.kind (cond b (Bad NullInNotNull) v) ≡ true
    cases true = refl
    cases false = h

one_value : (attributes : List Attribute) (dims : List Dimension) (e : Expr) → list_all is_dimension dims ≡ true → fits_one attributes (length dims) e ≡ true
    → (c : Coordinate) → is_inside (bounds_of dims) c ≡ true → IsCellOf attributes (Full (fit_values attributes (value_of e c [] ∷ [])))
one_value [] dims e v t c i = cc
one_value (a ∷ []) dims e v t c i =
    (fitted_kind a (value_of e c []) (sound [] c [] (inside_fits dims c v i) tt e a.kind (subst (λ n. has_kind [] n e a.kind ≡ true) (sym (inside_length dims c i)) t)), tt)
one_value (a ∷ b ∷ attributes) dims e v t c i = cc

built_array : (schema : Schema) (e : Expr) → IsValid schema → IsTrue (builds schema e) → AreRowsOf schema (built_rows schema e)
built_array schema e v t =
    record {
      valid = v;
      are_rows = kept_rows schema.dimensions (fit_cell schema.attributes) all_rows
          (record { rising = rows_rise value_at places (coordinates_rise schema.dimensions); in_bounds = all-map (λ row. IsTrue (is_inside (bounds_of schema.dimensions) row.at.items)) (λ c. placed c (value_at c)) places (coordinates_inside schema.dimensions) });
      kinds = all-cell_wise (λ row. Holds (IsCellOf schema.attributes) (fit_cell schema.attributes row.at.items row.cell)) (λ row. IsCellOf schema.attributes row.cell) (fit_cell schema.attributes) (λ row h. h) all_rows
          (all-map (λ row. Holds (IsCellOf schema.attributes) (fit_cell schema.attributes row.at.items row.cell)) (λ c. placed c (value_at c)) places
          (all-follows (λ c. is_inside (bounds_of schema.dimensions) c ≡ true) (λ c. IsCellOf schema.attributes (Full (fit_values schema.attributes (value_of e c [] ∷ []))))
          (λ c i. one_value schema.attributes schema.dimensions e (valid_dimensions schema v) fits c i) places (coordinates_inside schema.dimensions)));
    }
  where
    places : List Coordinate
    places = coordinates schema.dimensions

    value_at : Coordinate → Cell
    value_at c = Full (value_of e c [] ∷ [])

    all_rows : List Row
    all_rows = map (λ c. placed c (value_at c)) places

    fits : fits_one schema.attributes (length schema.dimensions) e ≡ true
    fits = (both (list_all is_bounded schema.dimensions && nat_le (places_in schema.dimensions) 16777216) (fits_one schema.attributes (length schema.dimensions) e) t).1

-- ---- filter, between and apply

kept_kinds : (attributes : List Attribute) (test : Datum) (vs : List Datum) → AreOfKinds attributes vs → Holds (IsCellOf attributes) (kept test vs)
kept_kinds attributes (Truth true) vs q = q
kept_kinds attributes (Truth false) vs q = tt
kept_kinds attributes (Bad kind) vs q = tt
kept_kinds attributes Null vs q = tt
kept_kinds attributes (Missing code) vs q = tt
kept_kinds attributes (Int n) vs q = tt
kept_kinds attributes (Text s) vs q = tt

filter_kinds : (attributes : List Attribute) (test : Expr) (c : Coordinate) (cell : Cell) → IsCellOf attributes cell → Holds (IsCellOf attributes) (filter_cell test c cell)
filter_kinds attributes test c (Full vs) q = kept_kinds attributes (value_of test c vs) vs q
filter_kinds attributes test c (Doubt kind) q = tt

filtered_array : (schema : Schema) (test : Expr) (rows : List Row) → AreRowsOf schema rows → AreRowsOf schema (filter_rows test rows)
filtered_array schema test rows a = record {
  valid = a.valid;
  are_rows = kept_rows schema.dimensions (filter_cell test) rows a.are_rows;
  kinds = all-cell_wise (λ row. IsCellOf schema.attributes row.cell) (λ row. IsCellOf schema.attributes row.cell) (filter_cell test) (λ row q. filter_kinds schema.attributes test row.at.items row.cell q) rows a.kinds;
}

all-filter : {A : Type 0} (P : A → Type 0) (test : A → Bool) (xs : List A) → AllByRecursion P xs → AllByRecursion P (filter test xs)
all-filter P test [] a = tt
all-filter P test (x ∷ xs) a = keep (test x) (all-filter P test xs a.1)
  where
    keep : (b : Bool) → AllByRecursion P (filter test xs) → AllByRecursion P (cond b (x ∷ filter test xs) (filter test xs))
    keep true r = (a.0, r)
    keep false r = r

boxed_array : (schema : Schema) (area : Bounds) (rows : List Row) → AreRowsOf schema rows → AreRowsOf schema (within area rows)
boxed_array schema area rows a = record {
  valid = a.valid;
  are_rows = record {
    rising = IsRising-rows_where (is_inside area) rows a.are_rows.rising;
    in_bounds = all-filter (λ row. IsTrue (is_inside (bounds_of schema.dimensions) row.at.items)) (λ row. is_inside area row.at.items) rows a.are_rows.in_bounds;
  };
  kinds = all-filter (λ row. IsCellOf schema.attributes row.cell) (λ row. is_inside area row.at.items) rows a.kinds;
}

kinds_fit : (attributes : List Attribute) (vs : List Datum) → AreOfKinds attributes vs → AllZip (λ kind v. IsTrue (is_of_kind kind v)) (kinds_of attributes) vs
kinds_fit [] [] a = tt
kinds_fit [] (v ∷ vs) a = a
kinds_fit (b ∷ attributes) [] a = a
kinds_fit (b ∷ attributes) (v ∷ vs) a = (a.0, kinds_fit attributes vs a.1)

more_kinds : (attributes more : List Attribute) (vs ws : List Datum) → AreOfKinds attributes vs → AreOfKinds more ws → AreOfKinds (attributes ++ more) (vs ++ ws)
more_kinds [] more [] ws a b = b
more_kinds [] more (v ∷ vs) ws a b = absurd a
more_kinds (x ∷ attributes) more [] ws a b = absurd a
more_kinds (x ∷ attributes) more (v ∷ vs) ws a b = (a.0, more_kinds attributes more vs ws a.1 b)

values_fit : (source : Schema) (c : Coordinate) (vs : List Datum) (values : List Applied) → list_all is_dimension source.dimensions ≡ true → is_inside (bounds_of source.dimensions) c ≡ true
    → AreOfKinds source.attributes vs → fits_apply source values ≡ true → AreOfKinds (map (λ a. derived a.name a.kind) values) (map (λ a. value_of a.value c vs) values)
values_fit source c vs [] v i k t = tt
values_fit source c vs (a ∷ values) v i k t =
    let parts = both (is_over source a.kind a.value && not (is_null_alone a.value)) (fits_apply source values) t in
    let typed = (both (is_over source a.kind a.value) (not (is_null_alone a.value)) parts.0).0 in (
      sound (kinds_of source.attributes) c vs (inside_fits source.dimensions c v i) (kinds_fit source.attributes vs k) a.value a.kind
          (subst (λ n. has_kind (kinds_of source.attributes) n a.value a.kind ≡ true) (sym (inside_length source.dimensions c i)) typed),
      values_fit source c vs values v i k parts.1,
    )

apply_kinds : (source : Schema) (values : List Applied) → list_all is_dimension source.dimensions ≡ true → fits_apply source values ≡ true → (c : Coordinate) (cell : Cell)
    → is_inside (bounds_of source.dimensions) c ≡ true → IsCellOf source.attributes cell → Holds (IsCellOf (apply_schema values source).attributes) (apply_cell values c cell)
apply_kinds source values v t c (Full vs) i k = more_kinds source.attributes (map (λ a. derived a.name a.kind) values) vs (map (λ a. value_of a.value c vs) values) k (values_fit source c vs values v i k t)
apply_kinds source values v t c (Doubt kind) i k = tt

all-both : {A : Type 0} (P Q : A → Type 0) (xs : List A) → AllByRecursion P xs → AllByRecursion Q xs → AllByRecursion (λ x. P x × Q x) xs
all-both P Q [] a b = tt
all-both P Q (x ∷ xs) a b = ((a.0, b.0), all-both P Q xs a.1 b.1)

applied_array : (source : Schema) (values : List Applied) → fits_apply source values ≡ true → IsValid (apply_schema values source) → (rows : List Row) → AreRowsOf source rows → AreRowsOf (apply_schema values source) (apply_rows values rows)
applied_array source values t v rows a = record {
  valid = v;
  are_rows = kept_rows source.dimensions (apply_cell values) rows a.are_rows;
  kinds = all-cell_wise (λ row. IsTrue (is_inside (bounds_of source.dimensions) row.at.items) × IsCellOf source.attributes row.cell) (λ row. IsCellOf (apply_schema values source).attributes row.cell) (apply_cell values)
      (λ row q. apply_kinds source values (valid_dimensions source a.valid) t row.at.items row.cell q.0 q.1) rows
      (all-both (λ row. IsTrue (is_inside (bounds_of source.dimensions) row.at.items)) (λ row. IsCellOf source.attributes row.cell) rows a.are_rows.in_bounds a.kinds);
}

-- ---- project

below_zero : (p : ℕ) → nat_lt p 0 ≡ true → ⊥
below_zero p h = grind arith

below_more : (p n : ℕ) → nat_lt (suc p) (suc n) ≡ true → nat_lt p n ≡ true
below_more p n h = grind arith

-- the value at a place is of the kind of the attribute there
at_place : (attributes : List Attribute) (vs : List Datum) (p : ℕ) → AreOfKinds attributes vs → nat_lt p (length attributes) ≡ true → (more : List Attribute) (ws : List Datum) → AreOfKinds more ws
    → AreOfKinds (cons_option (slice_get attributes p) more) (slice_index_or vs p Null ∷ ws)
at_place [] vs p k b more ws m = absurd (below_zero p b)
at_place (a ∷ attributes) [] p k b more ws m = absurd k
at_place (a ∷ attributes) (v ∷ vs) zero k b more ws m = (k.0, m)
at_place (a ∷ attributes) (v ∷ vs) (suc p) k b more ws m = at_place attributes vs p k.1 (below_more p (length attributes) b) more ws m

values_at : (attributes : List Attribute) (vs : List Datum) (places : List ℕ) → AreOfKinds attributes vs → are_below (length attributes) places ≡ true
    → AreOfKinds (items_at places attributes) (map (λ place. slice_index_or vs place Null) places)
values_at attributes vs [] k b = tt
values_at attributes vs (p ∷ places) k b =
    let parts = both (nat_lt p (length attributes)) (are_below (length attributes) places) b in
    at_place attributes vs p k parts.0 (items_at places attributes) (map (λ place. slice_index_or vs place Null) places) (values_at attributes vs places k parts.1)

project_kinds : (source : Schema) (places : List ℕ) → are_below (length source.attributes) places ≡ true → (c : Coordinate) (cell : Cell) → IsCellOf source.attributes cell
    → Holds (IsCellOf (project_schema places source).attributes) (project_cell places c cell)
project_kinds source places b c (Full vs) k = values_at source.attributes vs places k b
project_kinds source places b c (Doubt kind) k = tt

projected_array : (source : Schema) (places : List ℕ) → are_below (length source.attributes) places ≡ true → IsValid (project_schema places source) → (rows : List Row) → AreRowsOf source rows → AreRowsOf (project_schema places source) (project_rows places rows)
projected_array source places b v rows a = record {
  valid = v;
  are_rows = kept_rows source.dimensions (project_cell places) rows a.are_rows;
  kinds = all-cell_wise (λ row. IsCellOf source.attributes row.cell) (λ row. IsCellOf (project_schema places source).attributes row.cell) (project_cell places) (λ row q. project_kinds source places b row.at.items row.cell q) rows a.kinds;
}

-- ---- plans

whole_follows : (P Q : List Row → Type 0) (f : List Row → List Row) → ((rows : List Row) → P rows → Q (f rows)) → (r : Result (List Row) Broken) → IfOk r P → IfOk (if_whole f r) Q
whole_follows P Q f h (Ok rows) p = h rows p
whole_follows P Q f h (Err broken) p = p

-- each leaf stands for an array of its schema
abbrev pub HasLeaves : Database → List Leaf → Type 0
HasLeaves db = AllByRecursion (λ leaf. AreRowsOf leaf.schema (version_rows db leaf.name leaf.version))

-- builds, literals and scans, filtered, cut to boxes, and with more or fewer attributes
abbrev pub keeps_places : Query → Bool
keeps_places (built schema e) = true
keeps_places (listed schema rows) = true
keeps_places (scanned leaf) = true
keeps_places (filtered source test) = keeps_places source
keeps_places (applied source values) = keeps_places source
keeps_places (projected source places) = keeps_places source
keeps_places (between source area) = keeps_places source
keeps_places query = false

pub typed_arrays : (db : Database) (query : Query) → keeps_places query ≡ true → IsTyped query → HasLeaves db (leaves query) → IfOk (meaning db query).rows (AreRowsOf (schema_of query))
typed_arrays db (built schema e) k t l = built_array schema e t.0 t.1
typed_arrays db (listed schema rows) k t l = t.1
typed_arrays db (scanned leaf) k t l = l.0
typed_arrays db (filtered source test) k t l =
    whole_follows (AreRowsOf (schema_of source)) (AreRowsOf (schema_of source)) (filter_rows test) (filtered_array (schema_of source) test) (meaning db source).rows (typed_arrays db source k t.0 l)
typed_arrays db (applied source values) k t l =
    whole_follows (AreRowsOf (schema_of source)) (AreRowsOf (schema_of (applied source values))) (apply_rows values) (applied_array (schema_of source) values t.1 t.2) (meaning db source).rows (typed_arrays db source k t.0 l)
typed_arrays db (projected source places) k t l =
    whole_follows (AreRowsOf (schema_of source)) (AreRowsOf (schema_of (projected source places))) (project_rows places) (projected_array (schema_of source) places t.1 t.2) (meaning db source).rows (typed_arrays db source k t.0 l)
typed_arrays db (between source area) k t l =
    whole_follows (AreRowsOf (schema_of source)) (AreRowsOf (schema_of source)) (within area) (boxed_array (schema_of source) area) (meaning db source).rows (typed_arrays db source k t.0 l)
typed_arrays db (subarray source area) k t l = cc
typed_arrays db (sliced source fixed) k t l = cc
typed_arrays db (joined left right schema) k t l = cc
typed_arrays db (crossed left right pairs schema) k t l = cc
typed_arrays db (redimensioned source schema gs) k t l = cc
typed_arrays db (regridded source sizes gs) k t l = cc
typed_arrays db (windowed source reach gs) k t l = cc
typed_arrays db (aggregated source gs places) k t l = cc
typed_arrays db (sorted source keys schema) k t l = cc
typed_arrays db (ranked source x dims) k t l = cc
typed_arrays db (cumulated source gs n) k t l = cc
typed_arrays db (transposed source) k t l = cc
typed_arrays db (reversed source) k t l = cc
typed_arrays db (unpacked source schema) k t l = cc
typed_arrays db (xgridded source sizes) k t l = cc
typed_arrays db (merged left right) k t l = cc
typed_arrays db (concatenated left right) k t l = cc
