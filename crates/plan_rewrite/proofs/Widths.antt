-- The cells of a typed plan have one value for each of its attributes.
use Rattle.std.proofs.Common.{◌≡◌, ℕ, suc, ◌+◌, ℤ, true, false, List, [], ◌∷◌, ◌++◌, map, length, drop, cond, Option, Some, None, Result, Ok, Err, refl, sym, ap, ◌∙◌, subst, length-append, length-drop, arith}
use Rattle.std.specs.Prelude.{◌-ℤ◌, slice_index_or, IfOk}
use Rattle.std.specs.Option.{option_map}
use Rattle.std.specs.Ordering.{is_eq}
use Rattle.std.specs.declared.cmp.Ordering.{Ordering}
use Rattle.std.specs.declared.cmp.Ordering.TheVariants.{Less, Equal, Greater}
use Rattle.std.proofs.lemmas.List.{length-map}
use Rattle.cell_values.specs.declared.datum.Broken.{Broken}
use Rattle.cell_values.specs.declared.datum.Cell.{Cell}
use Rattle.cell_values.specs.declared.datum.Cell.TheVariants.{Full, Doubt}
use Rattle.cell_values.specs.declared.datum.Datum.{Datum}
use Rattle.cell_values.specs.declared.datum.Datum.TheVariants.{Null, Missing, Int, Text, Truth, Bad}
use Rattle.cell_values.specs.declared.datum.Row.{Row}
use Rattle.cell_values.specs.declared.schema.Attribute.{Attribute}
use Rattle.cell_values.specs.declared.schema.Bounds.{Bounds}
use Rattle.cell_values.specs.declared.schema.Dimension.{Dimension}
use Rattle.cell_values.specs.declared.schema.Schema.{Schema}
use Rattle.cell_values.specs.Cells.{AreOfKinds, IsCellOf}
use Rattle.cell_values.specs.Schemas.{attribute_names, dimension_names}
use Rattle.array_geom.proofs.TestLaws.{and_parts}
use Rattle.array_rows.specs.Arrays.{AreRowsOf}
use Rattle.array_rows.specs.Boxes.{by_pairs, is_inside, within, meet, bounds_of}
use Rattle.array_rows.specs.Rows.{Coordinate, row_major, placed, rows_where, in_order, cell_at}
use Rattle.expr_nulls.specs.Expr.{Expr}
use Rattle.expr_nulls.specs.ExprValue.{value_of}
use Rattle.logical_plan.specs.declared.parts.Aggregate.{Aggregate}
use Rattle.logical_plan.specs.declared.parts.Applied.{Applied}
use Rattle.logical_plan.specs.declared.parts.Fixed.{Fixed}
use Rattle.logical_plan.specs.declared.parts.Pair.{Pair}
use Rattle.logical_plan.specs.declared.parts.Reach.{Reach}
use Rattle.logical_plan.specs.BoxOps.{items_but, numbers_at, has_fixed, fixed_places, subarray_rows, slice_rows}
use Rattle.logical_plan.specs.CellOps.{kept as kept_cell, filter_cell, filter_rows, apply_cell, apply_rows, project_cell, project_rows, fit_values, fit_cell, fit_rows}
use Rattle.logical_plan.specs.Faults.{if_whole, and_then}
use Rattle.logical_plan.specs.Groups.{block, regrid_rows, aggregates_of, group_at, grouped, aggregate_rows, window_cell, window_rows}
use Rattle.logical_plan.specs.Joins.{cell_beside, join_rows, right_places, agree, cross_at, cross_rows}
use Rattle.logical_plan.specs.Meaning.{Database, meaning, version_rows}
use Rattle.logical_plan.specs.PlanSchema.{schema_of, derived, aggregate_kind, free_names, renamed_attribute, side_by_side, join_schema, cross_schema, apply_schema, project_schema, rank_schema, regrid_schema, window_schema, aggregate_schema}
use Rattle.logical_plan.specs.Query.{Query, built, listed, scanned, filtered, applied, projected, between, subarray, sliced, joined, crossed, redimensioned, regridded, windowed, aggregated}
use Rattle.logical_plan.specs.Query.{sorted, ranked, cumulated, transposed, reversed, unpacked, xgridded, merged, concatenated}
use Rattle.logical_plan.specs.Ordered.{cumulate_cell, cumulate_rows, rank_cell, rank_rows, sort_rows}
use Rattle.logical_plan.specs.Shapes.{concat_rows, merge_rows, reverse_rows, step_between, transpose_rows, unpack_rows, xgrid_rows}
use Rattle.logical_plan.specs.ShapeSchemas.{concat_schema, merge_schema}
use Rattle.logical_plan.specs.Redimension.{Origin, origin_of, value_origin, Landed, landed, carried, landed_at, by_names, redimension_rows}
use Rattle.logical_plan.specs.Typing.{IsTyped, can_follow, same_bounds, same_kinds}
use Rattle.logical_plan.proofs.ArrayLaws.{typed_arrays}
use Rattle.logical_plan.proofs.BuiltRows.{all-map, all-flat_map, all-follows}
use Rattle.plan_needs.proofs.FreeNames.{many_names}
use Rattle.plan_rewrite.specs.Inner.Wide.{IsWide, AreWide}
use Rattle.plan_needs.specs.Sufficient.{HasArrays}
use Rattle.plan_rewrite.proofs.ItemPlaces.{length_picked}
use Rattle.plan_rewrite.proofs.ProjectSteps.{applied_length}
use Rattle.plan_needs.proofs.RowLists.{each_made}
use Rattle.plan_needs.proofs.Inside.{AreInside}
use Rattle.plan_needs.proofs.InsidePlans.{insides}
use Rattle.plan_needs.proofs.LeafParts.{left_arrays, right_arrays}
use Rattle.plan_rewrite.proofs.WideRows.{IfThere, changed_wide, if_wide, moved_wide, where_wide, within_wide}
use Rattle.plan_rewrite.proofs.WideShapes.{both_hold_of, concatenated_wide, cumulated_wide, either_length, merged_wide, ranked_length, ranked_wide, reversed_wide, same_many, sort_wide, then_wide, transposed_wide, unpack_wide, unpacked_length, xgridded_wide}

-- ---- cells of a schema

kinds_wide : (attributes : List Attribute) (vs : List Datum) → AreOfKinds attributes vs → length vs ≡ length attributes
kinds_wide [] [] h = refl
kinds_wide [] (v ∷ vs) h = absurd h
kinds_wide (a ∷ attributes) [] h = absurd h
kinds_wide (a ∷ attributes) (v ∷ vs) h = ap suc (kinds_wide attributes vs h.1)

cell_wide : (attributes : List Attribute) (cell : Cell) → IsCellOf attributes cell → IsWide (length attributes) cell
cell_wide attributes (Full vs) h = kinds_wide attributes vs h
cell_wide attributes (Doubt kind) h = tt

array_wide : (schema : Schema) (rows : List Row) → AreRowsOf schema rows → AreWide (length schema.attributes) rows
array_wide schema rows is = all-follows (λ (row : Row). IsCellOf schema.attributes row.cell) (λ (row : Row). IsWide (length schema.attributes) row.cell) (λ row k. cell_wide schema.attributes row.cell k) rows is.kinds

whole_wide : (schema : Schema) (r : Result (List Row) Broken) → IfOk r (AreRowsOf schema) → IfOk r (AreWide (length schema.attributes))
whole_wide schema (Ok rows) is = array_wide schema rows is
whole_wide schema (Err broken) is = is

-- ---- cell by cell

kept_wide : (n : ℕ) (test : Datum) (vs : List Datum) → length vs ≡ n → IfThere n (kept_cell test vs)
unfolding IfThere
kept_wide n (Truth true) vs e = e
kept_wide n (Truth false) vs e = tt
kept_wide n (Bad kind) vs e = tt
kept_wide n Null vs e = tt
kept_wide n (Missing code) vs e = tt
kept_wide n (Int z) vs e = tt
kept_wide n (Text s) vs e = tt

filtered_wide : (n : ℕ) (test : Expr) (c : Coordinate) (cell : Cell) → IsWide n cell → IfThere n (filter_cell test c cell)
unfolding IfThere
filtered_wide n test c (Full vs) e = kept_wide n (value_of test c vs) vs e
filtered_wide n test c (Doubt kind) e = tt

applied_wide : (n : ℕ) (values : List Applied) (c : Coordinate) (cell : Cell) → IsWide n cell → IfThere (n + length values) (apply_cell values c cell)
unfolding IfThere
applied_wide n values c (Full vs) e =
    length-append vs (map (λ a. value_of a.value c vs) values) ∙ ap (λ (m : ℕ). length vs + m) (length-map values (λ a. value_of a.value c vs)) ∙ ap (λ (m : ℕ). m + length values) e
applied_wide n values c (Doubt kind) e = tt

projected_wide : (m : ℕ) (places : List ℕ) (c : Coordinate) (cell : Cell) → IsWide m cell → IfThere (length places) (project_cell places c cell)
unfolding IfThere
projected_wide m places c (Full vs) e = length-map places (λ place. slice_index_or vs place Null)
projected_wide m places c (Doubt kind) e = tt

-- ---- joins

found_wide : (n : ℕ) (rows : List Row) (c : Coordinate) → AreWide n rows → IfThere n (cell_at rows c)
unfolding IfThere
found_wide n [] c w = tt
found_wide n (row ∷ rows) c w = by_order (row_major row.at.items c) (found_wide n rows c w.1)
  where
    by_order : (o : Ordering) → IfThere n (cell_at rows c) → IfThere n (cond (is_eq o) (Some row.cell) (cell_at rows c))
    by_order Less ih = ih
    by_order Equal ih = w.0
    by_order Greater ih = ih

two_wide : (m n : ℕ) (l r : Cell) → IsWide m l → IsWide n r → IsWide (m + n) (cell_beside l r)
two_wide m n (Doubt kind) r e f = tt
two_wide m n (Full vs) (Doubt kind) e f = tt
two_wide m n (Full vs) (Full ws) e f = omega (arith, length-append vs ws, e, f)

beside_wide : (m n : ℕ) (l : Cell) (o : Option Cell) → IsWide m l → IfThere n o → IfThere (m + n) (option_map (cell_beside l) o)
unfolding IfThere
beside_wide m n l None e f = tt
beside_wide m n l (Some r) e f = two_wide m n l r e f

joined_wide : (m n : ℕ) (left right : List Row) → AreWide m left → AreWide n right → AreWide (m + n) (join_rows left right)
joined_wide m n left right v w =
    changed_wide m (m + n) (λ c cell. option_map (cell_beside cell) (cell_at right c)) (λ c cell e. beside_wide m n cell (cell_at right c) e (found_wide n right c w)) left v

crossed_wide : (m n : ℕ) (pairs : List Pair) (left right : List Row) → AreWide m left → AreWide n right → AreWide (m + n) (cross_rows pairs left right)
crossed_wide m n pairs left right v w =
    all-flat_map (λ (row : Row). IsWide (m + n) row.cell) (λ (l : Row). map (λ (r : Row). placed (cross_at pairs l.at.items r.at.items) (cell_beside l.cell r.cell)) (rows_where (agree pairs l.at.items) right)) left
    (all-follows (λ (l : Row). IsWide m l.cell) (λ (l : Row). AreWide (m + n) (map (λ (r : Row). placed (cross_at pairs l.at.items r.at.items) (cell_beside l.cell r.cell)) (rows_where (agree pairs l.at.items) right)))
    (λ l e. all-map (λ (row : Row). IsWide (m + n) row.cell) (λ (r : Row). placed (cross_at pairs l.at.items r.at.items) (cell_beside l.cell r.cell)) (rows_where (agree pairs l.at.items) right)
    (all-follows (λ (r : Row). IsWide n r.cell) (λ (r : Row). IsWide (m + n) (cell_beside l.cell r.cell)) (λ r f. two_wide m n l.cell r.cell e f) (rows_where (agree pairs l.at.items) right)
    (where_wide n (λ (r : Row). agree pairs l.at.items r.at.items) right w))) left v)

both_wide : (m n k : ℕ) (f : List Row → List Row → List Row) → ((left right : List Row) → AreWide m left → AreWide n right → AreWide k (f left right)) → (l r : Result (List Row) Broken) → IfOk l (AreWide m) → IfOk r (AreWide n)
    → IfOk (and_then (λ left. if_whole (f left) r) l) (AreWide k)
both_wide m n k f h (Ok left) (Ok right) v w = h left right v w
both_wide m n k f h (Ok left) (Err broken) v w = w
both_wide m n k f h (Err broken) r v w = v

length-renamed : (attributes : List Attribute) (names : List (List ℕ)) → length names ≡ length attributes → length (by_pairs renamed_attribute attributes names) ≡ length attributes
length-renamed [] names e = refl
length-renamed (a ∷ attributes) [] e = absurd (omega arith)
length-renamed (a ∷ attributes) (name ∷ names) e = ap suc (length-renamed attributes names (omega arith))

side_attributes : (dims : List Dimension) (attributes : List Attribute) → length (side_by_side dims attributes).attributes ≡ length attributes
side_attributes dims attributes =
    let names : List (List ℕ) = dimension_names dims ++ attribute_names attributes in
    let many : length (free_names [] names) ≡ length names = many_names [] names in
    let parts : length names ≡ length (dimension_names dims) + length (attribute_names attributes) = length-append (dimension_names dims) (attribute_names attributes) in
    let of_dims : length (dimension_names dims) ≡ length dims = length-map dims (λ d. d.name) in
    let of_attributes : length (attribute_names attributes) ≡ length attributes = length-map attributes (λ a. a.name) in
    let rest : length (drop (length dims) (free_names [] names)) ≡ length attributes = omega (arith, length-drop (length dims) (free_names [] names), many, parts, of_dims, of_attributes) in
    length-renamed attributes (drop (length dims) (free_names [] names)) rest

-- ---- rows in order

each_wide : {A : Type 0} (n : ℕ) (f : A → Row) → ((x : A) → IsWide n (f x).cell) → (xs : List A) → AreWide n (in_order (map f xs))
each_wide n f h xs = each_made (λ (row : Row). IsWide n row.cell) f h xs

grouped_wide : (group : Coordinate → Coordinate) (gs : List Aggregate) (rows : List Row) → AreWide (length gs) (grouped group gs rows)
grouped_wide group gs rows = each_wide (length gs) (λ (row : Row). placed (group row.at.items) (aggregates_of gs (group_at group (group row.at.items) rows))) (λ row. length-map gs _) rows

aggregated_wide : (places : List ℕ) (gs : List Aggregate) (rows : List Row) → AreWide (length gs) (aggregate_rows places gs rows)
aggregated_wide [] gs rows = (length-map gs _, tt)
aggregated_wide (d ∷ places) gs rows = grouped_wide (numbers_at (d ∷ places)) gs rows

windowed_wide : (reach : List Reach) (gs : List Aggregate) (all : List Row) (m : ℕ) (c : Coordinate) (cell : Cell) → IsWide m cell → IfThere (length gs) (window_cell reach gs all c cell)
unfolding IfThere
windowed_wide reach gs all m c (Full vs) e = length-map gs _
windowed_wide reach gs all m c (Doubt kind) e = tt

-- ---- redimension

fitted_values : (attributes : List Attribute) (vs : List Datum) → length vs ≡ length attributes → length (fit_values attributes vs) ≡ length attributes
fitted_values [] vs e = e
fitted_values (a ∷ attributes) [] e = absurd (omega arith)
fitted_values (a ∷ attributes) (v ∷ vs) e = ap suc (fitted_values attributes vs (omega arith))

fitted_wide : (attributes : List Attribute) (c : Coordinate) (cell : Cell) → IsWide (length attributes) cell → IfThere (length attributes) (fit_cell attributes c cell)
unfolding IfThere
fitted_wide attributes c (Full vs) e = fitted_values attributes vs e
fitted_wide attributes c (Doubt kind) e = tt

fit_wide : {A : Type 0} (attributes : List Attribute) (f : A → List Row) → ((x : A) → AreWide (length attributes) (f x)) → (r : Result A Broken) → IfOk (if_whole (fit_rows attributes) (if_whole f r)) (AreWide (length attributes))
fit_wide attributes f h (Ok x) = changed_wide (length attributes) (length attributes) (fit_cell attributes) (fitted_wide attributes) (f x) (h x)
fit_wide attributes f h (Err broken) = tt

carried_wide : (values : List Origin) (l : Landed) → IsWide (length values) (carried values l).cell
carried_wide values (t, row) = by_cell row.cell
  where
    by_cell : (cell : Cell) → IsWide (length values) (carried values (t, placed row.at.items cell)).cell
    by_cell (Full vs) = length-map values _
    by_cell (Doubt kind) = tt

redimension_wide : (source target : Schema) (gs : List Aggregate) (rows : List Row) → IfOk (redimension_rows source target gs rows) (AreWide (length target.attributes))
redimension_wide source target [] rows =
    let values : List Origin = map (value_origin source) target.attributes in
    fit_wide target.attributes (λ (all : List Landed). in_order (map (carried values) all))
    (λ all. subst (λ (n : ℕ). AreWide n (in_order (map (carried values) all))) (length-map target.attributes (value_origin source)) (each_wide (length values) (carried values) (carried_wide values) all))
    (landed (map (origin_of source) target.dimensions) (bounds_of target.dimensions) true rows [])
redimension_wide source target (g ∷ gs) rows =
    fit_wide target.attributes (λ (all : List Landed). in_order (map (λ (l : Landed). placed l.0 (by_names target.attributes (g ∷ gs) (landed_at all l.0))) all))
    (λ all. each_wide (length target.attributes) (λ (l : Landed). placed l.0 (by_names target.attributes (g ∷ gs) (landed_at all l.0))) (λ l. length-map target.attributes _) all)
    (landed (map (origin_of source) target.dimensions) (bounds_of target.dimensions) false rows [])

-- ---- plans

part_wide : (n : ℕ) (area : Bounds) (rows : List Row) → AreWide n rows → AreWide n (subarray_rows area rows)
part_wide n area rows w = moved_wide n (λ c. by_pairs (λ x l. x -ℤ l) c area.lo.items) (within area rows) (where_wide n (λ (row : Row). is_inside area row.at.items) rows w)

slice_wide : (n : ℕ) (fixed : List Fixed) (rows : List Row) → AreWide n rows → AreWide n (slice_rows fixed rows)
slice_wide n fixed rows w = moved_wide n (items_but (fixed_places fixed) 0) (rows_where (has_fixed fixed) rows) (where_wide n (λ (row : Row). has_fixed fixed row.at.items) rows w)

and_wide : (n : ℕ) (f : List Row → Result (List Row) Broken) → ((rows : List Row) → IfOk (f rows) (AreWide n)) → (r : Result (List Row) Broken) → IfOk (and_then f r) (AreWide n)
and_wide n f h (Ok rows) = h rows
and_wide n f h (Err broken) = tt

any_wide : (n : ℕ) (f : List Row → List Row) → ((rows : List Row) → AreWide n (f rows)) → (r : Result (List Row) Broken) → IfOk (if_whole f r) (AreWide n)
any_wide n f h (Ok rows) = h rows
any_wide n f h (Err broken) = tt

as_long : (m n : ℕ) (r : Result (List Row) Broken) → n ≡ m → IfOk r (AreWide m) → IfOk r (AreWide n)
as_long m n r e w = subst (λ (k : ℕ). IfOk r (AreWide k)) (sym e) w

pub widths : (db : Database) (query : Query) → IsTyped query → HasArrays db query → IfOk (meaning db query).rows (AreWide (length (schema_of query).attributes))
widths db (built schema e) t l = whole_wide schema (meaning db (built schema e)).rows (typed_arrays db (built schema e) refl t l)
widths db (listed schema rows) t l = array_wide schema rows t.1
widths db (scanned leaf) t l = array_wide leaf.schema (version_rows db leaf.name leaf.version) l.0
widths db (filtered source test) t l =
    let n : ℕ = length (schema_of source).attributes in
    if_wide n n (filter_rows test) (changed_wide n n (filter_cell test) (filtered_wide n test)) (meaning db source).rows (widths db source t.0 l)
widths db (applied source values) t l =
    let n : ℕ = length (schema_of source).attributes in
    as_long (n + length values) (length (apply_schema values (schema_of source)).attributes) (meaning db (applied source values)).rows (applied_length values (schema_of source))
    (if_wide n (n + length values) (apply_rows values) (changed_wide n (n + length values) (apply_cell values) (applied_wide n values)) (meaning db source).rows (widths db source t.0 l))
widths db (projected source places) t l =
    let n : ℕ = length (schema_of source).attributes in
    as_long (length places) (length (project_schema places (schema_of source)).attributes) (meaning db (projected source places)).rows (length_picked (schema_of source).attributes places t.1)
    (if_wide n (length places) (project_rows places) (changed_wide n (length places) (project_cell places) (projected_wide n places)) (meaning db source).rows (widths db source t.0 l))
widths db (between source area) t l =
    let n : ℕ = length (schema_of source).attributes in
    if_wide n n (within area) (where_wide n (λ (row : Row). is_inside area row.at.items)) (meaning db source).rows (widths db source t.0 l)
widths db (subarray source area) t l =
    let n : ℕ = length (schema_of source).attributes in
    let part : Bounds = meet (bounds_of (meaning db source).schema.dimensions) area in
    if_wide n n (subarray_rows part) (part_wide n part) (meaning db source).rows (widths db source t.0 l)
widths db (sliced source fixed) t l =
    let n : ℕ = length (schema_of source).attributes in
    if_wide n n (slice_rows fixed) (slice_wide n fixed) (meaning db source).rows (widths db source t.0 l)
widths db (joined left right schema) t l =
    let m : ℕ = length (schema_of left).attributes in
    let n : ℕ = length (schema_of right).attributes in
    let long : length (join_schema (schema_of left) (schema_of right)).attributes ≡ m + n =
    side_attributes (schema_of left).dimensions ((schema_of left).attributes ++ (schema_of right).attributes) ∙ length-append (schema_of left).attributes (schema_of right).attributes in
    as_long (m + n) (length schema.attributes) (meaning db (joined left right schema)).rows (ap (λ (x : Schema). length x.attributes) t.3 ∙ long)
    (both_wide m n (m + n) join_rows (joined_wide m n) (meaning db left).rows (meaning db right).rows (widths db left t.0 (left_arrays db left right schema l)) (widths db right t.1 (right_arrays db left right schema l)))
widths db (crossed left right pairs schema) t l =
    let m : ℕ = length (schema_of left).attributes in
    let n : ℕ = length (schema_of right).attributes in
    let dims : List Dimension = (schema_of left).dimensions ++ items_but (right_places pairs) 0 (schema_of right).dimensions in
    let long : length (cross_schema pairs (schema_of left) (schema_of right)).attributes ≡ m + n =
    side_attributes dims ((schema_of left).attributes ++ (schema_of right).attributes) ∙ length-append (schema_of left).attributes (schema_of right).attributes in
    as_long (m + n) (length schema.attributes) (meaning db (crossed left right pairs schema)).rows (ap (λ (x : Schema). length x.attributes) t.3 ∙ long)
    (both_wide m n (m + n) (cross_rows pairs) (crossed_wide m n pairs) (meaning db left).rows (meaning db right).rows (widths db left t.0 (left_arrays db left right schema l)) (widths db right t.1 (right_arrays db left right schema l)))
widths db (redimensioned source schema gs) t l = and_wide (length schema.attributes) (redimension_rows (meaning db source).schema schema gs) (redimension_wide (meaning db source).schema schema gs) (meaning db source).rows
widths db (regridded source sizes gs) t l =
    as_long (length gs) (length (regrid_schema sizes gs (schema_of source)).attributes) (meaning db (regridded source sizes gs)).rows (length-map gs (λ g. derived g.name (aggregate_kind (schema_of source).attributes g)))
    (any_wide (length gs) (regrid_rows (bounds_of (meaning db source).schema.dimensions).lo.items sizes gs) (λ rows. grouped_wide (λ c. by_pairs (λ b x. b x) (by_pairs block (bounds_of (meaning db source).schema.dimensions).lo.items sizes) c) gs rows) (meaning db source).rows)
widths db (windowed source reach gs) t l =
    let n : ℕ = length (schema_of source).attributes in
    as_long (length gs) (length (window_schema gs (schema_of source)).attributes) (meaning db (windowed source reach gs)).rows (length-map gs (λ g. derived g.name (aggregate_kind (schema_of source).attributes g)))
    (if_wide n (length gs) (window_rows reach gs) (λ rows. changed_wide n (length gs) (window_cell reach gs rows) (windowed_wide reach gs rows n) rows) (meaning db source).rows (widths db source t.0 l))
widths db (aggregated source gs places) t l =
    as_long (length gs) (length (aggregate_schema gs places (schema_of source)).attributes) (meaning db (aggregated source gs places)).rows (length-map gs (λ g. derived g.name (aggregate_kind (schema_of source).attributes g)))
    (any_wide (length gs) (aggregate_rows places gs) (aggregated_wide places gs) (meaning db source).rows)
widths db (sorted source keys schema) t l =
    let n : ℕ = length (schema_of source).attributes in
    as_long n (length schema.attributes) (meaning db (sorted source keys schema)).rows (ap (λ (x : Schema). length x.attributes) t.2)
    (if_wide n n (within (bounds_of schema.dimensions)) (within_wide n (bounds_of schema.dimensions)) (and_then (sort_rows keys) (meaning db source).rows)
    (then_wide (AreWide n) n (sort_rows keys) (sort_wide n keys) (meaning db source).rows (widths db source t.0 l)))
widths db (ranked source x dims) t l =
    let n : ℕ = length (schema_of source).attributes in
    as_long 2 (length (rank_schema x (schema_of source)).attributes) (meaning db (ranked source x dims)).rows (ranked_length (schema_of source) x dims t.1)
    (if_wide n 2 (rank_rows x dims) (λ rows. changed_wide n 2 (rank_cell x dims rows) (ranked_wide x dims rows n) rows) (meaning db source).rows (widths db source t.0 l))
widths db (cumulated source gs d) t l =
    let n : ℕ = length (schema_of source).attributes in
    as_long (length gs) (length (window_schema gs (schema_of source)).attributes) (meaning db (cumulated source gs d)).rows (length-map gs (λ g. derived g.name (aggregate_kind (schema_of source).attributes g)))
    (if_wide n (length gs) (cumulate_rows d gs) (λ rows. changed_wide n (length gs) (cumulate_cell d gs rows) (cumulated_wide d gs rows n) rows) (meaning db source).rows (widths db source t.0 l))
widths db (transposed source) t l = let n : ℕ = length (schema_of source).attributes in if_wide n n transpose_rows (transposed_wide n) (meaning db source).rows (widths db source t.0 l)
widths db (reversed source) t l =
    let n : ℕ = length (schema_of source).attributes in
    let dims : List Dimension = (meaning db source).schema.dimensions in
    if_wide n n (reverse_rows dims) (reversed_wide n dims) (meaning db source).rows (widths db source t.0 l)
widths db (unpacked source schema) t l =
    let n : ℕ = length (schema_of source).attributes in
    let dims : List Dimension = (schema_of source).dimensions in
    as_long (length dims + n) (length schema.attributes) (meaning db (unpacked source schema)).rows (unpacked_length (schema_of source) schema _ t.1)
    (if_wide (length dims + n) (length dims + n) (within (bounds_of schema.dimensions)) (within_wide (length dims + n) (bounds_of schema.dimensions)) (and_then unpack_rows (meaning db source).rows)
    (then_wide (λ rows. AreWide n rows × AreInside dims rows) (length dims + n) unpack_rows (λ rows both. unpack_wide n dims rows both.0 both.1) (meaning db source).rows
    (both_hold_of (AreWide n) (AreInside dims) (meaning db source).rows (widths db source t.0 l) (insides db source t.0 l))))
widths db (xgridded source sizes) t l =
    let n : ℕ = length (schema_of source).attributes in
    let dims : List Dimension = (meaning db source).schema.dimensions in
    if_wide n n (xgrid_rows dims sizes) (xgridded_wide n dims sizes) (meaning db source).rows (widths db source t.0 l)
widths db (merged left right) t l =
    let n : ℕ = length (schema_of left).attributes in
    let same = (and_parts (same_bounds (schema_of left).dimensions (schema_of right).dimensions) (same_kinds (schema_of left).attributes (schema_of right).attributes) t.2).1 in
    as_long n (length (merge_schema (schema_of left) (schema_of right)).attributes) (meaning db (merged left right)).rows (either_length (schema_of left).attributes (schema_of right).attributes same)
    (both_wide n n n merge_rows (merged_wide n) (meaning db left).rows (meaning db right).rows (widths db left t.0 (left_arrays db left right (schema_of left) l))
    (as_long (length (schema_of right).attributes) n (meaning db right).rows (sym (same_many (schema_of left).attributes (schema_of right).attributes same)) (widths db right t.1 (right_arrays db left right (schema_of left) l))))
widths db (concatenated left right) t l =
    let n : ℕ = length (schema_of left).attributes in
    let by : ℤ = step_between (meaning db left).schema.dimensions (meaning db right).schema.dimensions in
    let same = (and_parts (can_follow (schema_of left).dimensions (schema_of right).dimensions) (same_kinds (schema_of left).attributes (schema_of right).attributes) t.2).1 in
    as_long n (length (concat_schema (schema_of left) (schema_of right)).attributes) (meaning db (concatenated left right)).rows (either_length (schema_of left).attributes (schema_of right).attributes same)
    (both_wide n n n (concat_rows by) (concatenated_wide n by) (meaning db left).rows (meaning db right).rows (widths db left t.0 (left_arrays db left right (schema_of left) l))
    (as_long (length (schema_of right).attributes) n (meaning db right).rows (sym (same_many (schema_of left).attributes (schema_of right).attributes same)) (widths db right t.1 (right_arrays db left right (schema_of left) l))))
