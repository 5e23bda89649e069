-- Each cell that a typed plan means lies within the bounds of its schema.
use Rattle.std.proofs.Common.{◌≡◌, ℕ, ◌+◌, ◌-ℤ◌, Bool, true, false, List, [], ◌∷◌, ◌++◌, map, length, take, cond, Option, Some, None, Result, Ok, Err, refl, sym, ap, ◌∙◌, subst, length-append, length-take, arith}
use Rattle.std.specs.Prelude.{◌&&◌, not, nat_le, reverse, IfOk, IsTrue, ⊤}
use Rattle.std.specs.List.{AllByRecursion, list_any}
use Rattle.std.specs.Ordering.{is_eq}
use Rattle.std.proofs.lemmas.List.{length-map}
use Rattle.cell_values.specs.declared.datum.Broken.{Broken}
use Rattle.cell_values.specs.declared.datum.Cell.{Cell}
use Rattle.cell_values.specs.declared.datum.Cell.TheVariants.{Full, Doubt}
use Rattle.cell_values.specs.declared.datum.Datum.{Datum}
use Rattle.cell_values.specs.declared.datum.FaultKind.{FaultKind}
use Rattle.cell_values.specs.declared.datum.FaultKind.TheVariants.{OutOfBounds, Collision}
use Rattle.cell_values.specs.declared.datum.Row.{Row}
use Rattle.cell_values.specs.declared.schema.Attribute.{Attribute}
use Rattle.cell_values.specs.declared.schema.Bounds.{Bounds}
use Rattle.cell_values.specs.declared.schema.Dimension.{Dimension}
use Rattle.cell_values.specs.declared.schema.Schema.{Schema}
use Rattle.cell_values.specs.Nulls.{is_null}
use Rattle.cell_values.specs.Schemas.{attribute_names, dimension_names, IsValid}
use Rattle.array_rows.specs.Arrays.{AreRowsOf, Meant}
use Rattle.array_rows.specs.Boxes.{by_pairs, is_inside, within, meet, bounds_of, moved}
use Rattle.array_rows.specs.Rows.{Coordinate, row_major, placed, rows_where, in_order}
use Rattle.array_geom.proofs.NearLemmas.{near_slice}
use Rattle.logical_plan.specs.declared.parts.Aggregate.{Aggregate}
use Rattle.logical_plan.specs.declared.parts.Fixed.{Fixed}
use Rattle.logical_plan.specs.declared.parts.Pair.{Pair}
use Rattle.logical_plan.specs.BoxOps.{items_but, numbers_at, fixed_places, has_fixed, subarray_rows, slice_rows}
use Rattle.logical_plan.specs.CellOps.{filter_cell, filter_rows, apply_cell, apply_rows, project_cell, project_rows, fit_cell, fit_rows}
use Rattle.logical_plan.specs.Faults.{if_whole, and_then}
use Rattle.logical_plan.specs.Groups.{bad_kind, number_of, first_some, block, group_at, aggregates_of, grouped, aggregate_rows, regrid_rows, window_cell, window_rows}
use Rattle.logical_plan.specs.Joins.{cell_beside, join_rows, agree, cross_at, cross_rows, right_places}
use Rattle.logical_plan.specs.Meaning.{Database, meaning}
use Rattle.logical_plan.specs.PlanSchema.{schema_of, subarray_dimensions, subarray_schema, in_blocks, group_dimensions, free_names, side_by_side}
use Rattle.logical_plan.specs.Ordered.{cumulate_cell, cumulate_rows, rank_cell, rank_rows, sort_rows}
use Rattle.logical_plan.specs.Query.{Query, built, listed, scanned, filtered, applied, projected, between, subarray, sliced, joined, crossed, redimensioned, regridded, windowed, aggregated}
use Rattle.logical_plan.specs.Query.{sorted, ranked, cumulated, transposed, reversed, unpacked, xgridded, merged, concatenated}
use Rattle.logical_plan.specs.Redimension.{Origin, origin_of, value_origin, Landing, lands, drops, breaks, target_value, counted_places, alike_so_far, counted_up, landing_at, unless_fault, landing_of, Landed, after_landing, landed, carried, landed_at, by_names, redimension_rows}
use Rattle.logical_plan.specs.Shapes.{transpose_rows, unpack_rows}
use Rattle.logical_plan.specs.Typing.{IsTyped, are_below, are_aggregates_of, can_enlarge, can_follow, concatenates, enlarges, merges, product_of, same_bounds, same_kinds}
use Rattle.logical_plan.proofs.ArrayLaws.{typed_arrays}
use Rattle.logical_plan.proofs.BuiltRows.{all-map, all-flat_map, all-follows}
use Rattle.logical_plan.proofs.SchemaLaws.{meaning_schema, typed_valid}
use Rattle.array_geom.proofs.TestLaws.{and_parts}
use Rattle.plan_needs.specs.Sufficient.{HasArrays}
use Rattle.shape_rows.specs.Laws.{AllEnlarge, CanFollow, SameBounds}
use Rattle.shape_rows.proofs.TypedLaws.{all_enlarge, bounds_are_same, follows}
use Rattle.plan_needs.proofs.InsideShapes.{numbers_inside, transposed_inside, reversed_of, xgridded_of, merged_inside, concat_of}
use Rattle.plan_needs.proofs.Inside.{AreInside, Inside, changed_inside, part_inside, but_inside, renamed_bounds, beside_inside, named_inside, blocks_inside}
use Rattle.plan_needs.proofs.RowLists.{all_where, all_in_order, all_tested}
use Rattle.plan_needs.proofs.LeafParts.{left_arrays, right_arrays}
use Rattle.plan_needs.proofs.FreeNames.{many_names}

if_inside : (d e : List Dimension) (f : List Row → List Row) → ((rows : List Row) → AreInside d rows → AreInside e (f rows)) → (r : Result (List Row) Broken) → IfOk r (AreInside d) → IfOk (if_whole f r) (AreInside e)
if_inside d e f h (Ok rows) i = h rows i
if_inside d e f h (Err broken) i = i

array_inside : (schema : Schema) (r : Result (List Row) Broken) → IfOk r (AreRowsOf schema) → IfOk r (AreInside schema.dimensions)
array_inside schema (Ok rows) is = is.are_rows.in_bounds
array_inside schema (Err broken) is = is

-- ---- parts

part_rows : (schema : Schema) (area : Bounds) → IsValid schema → (rows : List Row) → AreInside (subarray_dimensions schema.dimensions area.lo.items area.hi.items) (subarray_rows (meet (bounds_of schema.dimensions) area) rows)
part_rows schema area valid rows =
    let dims : List Dimension = schema.dimensions in
    let part : Bounds = meet (bounds_of dims) area in
    all-map (Inside (subarray_dimensions dims area.lo.items area.hi.items)) (moved (λ c. by_pairs (λ x l. x -ℤ l) c part.lo.items)) (within part rows)
    (all-follows (λ (row : Row). is_inside part row.at.items ≡ true) (λ (row : Row). Inside (subarray_dimensions dims area.lo.items area.hi.items) (moved (λ c. by_pairs (λ x l. x -ℤ l) c part.lo.items) row))
    (λ row e. part_inside dims area.lo.items area.hi.items row.at.items (near_slice schema dims refl valid) e) (within part rows) (all_tested (λ (row : Row). is_inside part row.at.items) rows))

slice_inside : (dims : List Dimension) (fixed : List Fixed) (rows : List Row) → AreInside dims rows → AreInside (items_but (fixed_places fixed) 0 dims) (slice_rows fixed rows)
slice_inside dims fixed rows i =
    all-map (Inside (items_but (fixed_places fixed) 0 dims)) (moved (items_but (fixed_places fixed) 0)) (rows_where (has_fixed fixed) rows)
    (all-follows (Inside dims) (λ (row : Row). Inside (items_but (fixed_places fixed) 0 dims) (moved (items_but (fixed_places fixed) 0) row))
    (λ row e. but_inside (fixed_places fixed) 0 dims row.at.items e) (rows_where (has_fixed fixed) rows) (all_where (Inside dims) (λ (row : Row). has_fixed fixed row.at.items) rows i))

-- ---- joins

side_bounds : (dims : List Dimension) (attributes : List Attribute) → bounds_of (side_by_side dims attributes).dimensions ≡ bounds_of dims
side_bounds dims attributes =
    let names : List (List ℕ) = dimension_names dims ++ attribute_names attributes in
    let many : length (free_names [] names) ≡ length names = many_names [] names in
    let parts : length names ≡ length (dimension_names dims) + length (attribute_names attributes) = length-append (dimension_names dims) (attribute_names attributes) in
    let of_dims : length (dimension_names dims) ≡ length dims = length-map dims (λ d. d.name) in
    renamed_bounds dims (take (length dims) (free_names [] names)) (omega (arith, length-take (length dims) (free_names [] names), many, parts, of_dims))

as_bounds : (d e : List Dimension) (r : Result (List Row) Broken) → bounds_of e ≡ bounds_of d → IfOk r (AreInside d) → IfOk r (AreInside e)
as_bounds d e r same i = subst (λ (b : Bounds). IfOk r (AllByRecursion (λ (row : Row). IsTrue (is_inside b row.at.items)))) (sym same) i

join_inside : (dims : List Dimension) (x y : Result (List Row) Broken) → IfOk x (AreInside dims) → IfOk (and_then (λ l. if_whole (join_rows l) y) x) (AreInside dims)
join_inside dims (Ok left) (Ok right) i = changed_inside dims _ left i
join_inside dims (Ok left) (Err broken) i = tt
join_inside dims (Err broken) y i = i

cross_row : List Pair → Row → Row → Row
cross_row pairs l r = placed (cross_at pairs l.at.items r.at.items) (cell_beside l.cell r.cell)

crossed_rows : (pairs : List Pair) (d e : List Dimension) (left right : List Row) → AreInside d left → AreInside e right → AreInside (d ++ items_but (right_places pairs) 0 e) (cross_rows pairs left right)
unfolding cross_row
crossed_rows pairs d e left right i j =
    let both : List Dimension = d ++ items_but (right_places pairs) 0 e in
    all-flat_map (Inside both) (λ (l : Row). map (cross_row pairs l) (rows_where (agree pairs l.at.items) right)) left
    (all-follows (Inside d) (λ (l : Row). AreInside both (map (cross_row pairs l) (rows_where (agree pairs l.at.items) right)))
    (λ l f. all-map (Inside both) (cross_row pairs l) (rows_where (agree pairs l.at.items) right)
    (all-follows (Inside e) (λ (r : Row). Inside both (cross_row pairs l r))
    (λ r g. beside_inside d (items_but (right_places pairs) 0 e) l.at.items (items_but (right_places pairs) 0 r.at.items) f (but_inside (right_places pairs) 0 e r.at.items g))
    (rows_where (agree pairs l.at.items) right) (all_where (Inside e) (λ (r : Row). agree pairs l.at.items r.at.items) right j))) left i)

cross_inside : (pairs : List Pair) (d e : List Dimension) (x y : Result (List Row) Broken) → IfOk x (AreInside d) → IfOk y (AreInside e) → IfOk (and_then (λ l. if_whole (cross_rows pairs l) y) x) (AreInside (d ++ items_but (right_places pairs) 0 e))
cross_inside pairs d e (Ok left) (Ok right) i j = crossed_rows pairs d e left right i j
cross_inside pairs d e (Ok left) (Err broken) i j = tt
cross_inside pairs d e (Err broken) y i j = i

-- ---- groups

grouped_inside : (d e : List Dimension) (group : Coordinate → Coordinate) (gs : List Aggregate) → ((c : Coordinate) → is_inside (bounds_of d) c ≡ true → is_inside (bounds_of e) (group c) ≡ true) → (rows : List Row) → AreInside d rows → AreInside e (grouped group gs rows)
grouped_inside d e group gs h rows i =
    all_in_order (Inside e) (map (λ (row : Row). placed (group row.at.items) (aggregates_of gs (group_at group (group row.at.items) rows))) rows)
    (all-map (Inside e) (λ (row : Row). placed (group row.at.items) (aggregates_of gs (group_at group (group row.at.items) rows))) rows
    (all-follows (Inside d) (λ (row : Row). Inside e (placed (group row.at.items) (aggregates_of gs (group_at group (group row.at.items) rows)))) (λ row f. h row.at.items f) rows i))

aggregated_inside : (dims : List Dimension) (places : List ℕ) (gs : List Aggregate) → IsTrue (are_below (length dims) places) → (rows : List Row) → AreInside dims rows → AreInside (group_dimensions places dims) (aggregate_rows places gs rows)
aggregated_inside dims [] gs b rows i = (refl, tt)
aggregated_inside dims (p ∷ places) gs b rows i = grouped_inside dims (group_dimensions (p ∷ places) dims) (numbers_at (p ∷ places)) gs (λ c e. named_inside (p ∷ places) dims c b e) rows i

-- ---- redimension

LandsIn : Bounds → Landing → Type 0
LandsIn bounds (lands t) = IsTrue (is_inside bounds t)
LandsIn bounds drops = ⊤
LandsIn bounds (breaks kind) = ⊤

AreIn : Bounds → List Landed → Type 0
AreIn bounds all = AllByRecursion (λ (l : Landed). IsTrue (is_inside bounds l.0)) all

lands_at : (bounds : Bounds) (once : Bool) (taken : List Coordinate) (c : Coordinate) → LandsIn bounds (landing_at bounds once taken c)
unfolding LandsIn
lands_at bounds once taken c = by_tests (is_inside bounds c) refl (once && list_any (λ t. is_eq (row_major t c)) taken)
  where
    by_tests : (b : Bool) → is_inside bounds c ≡ b → (d : Bool) → LandsIn bounds (cond (not b) (breaks OutOfBounds) (cond d (breaks Collision) (lands c)))
    by_tests false e d = tt
    by_tests true e true = tt
    by_tests true e false = e

lands_unless : (bounds : Bounds) (o : Option FaultKind) (landing : Landing) → LandsIn bounds landing → LandsIn bounds (unless_fault o landing)
unfolding LandsIn
lands_unless bounds None landing h = h
lands_unless bounds (Some kind) landing h = tt

lands_or_drops : (bounds : Bounds) (b : Bool) (landing : Landing) → LandsIn bounds landing → LandsIn bounds (cond b drops landing)
unfolding LandsIn
lands_or_drops bounds true landing h = tt
lands_or_drops bounds false landing h = h

lands_in : (origins : List Origin) (bounds : Bounds) (once : Bool) (taken : List Coordinate) (c : Coordinate) (cell : Cell) → LandsIn bounds (landing_of origins bounds once taken c cell)
unfolding LandsIn
lands_in origins bounds once taken c (Doubt kind) = tt
lands_in origins bounds once taken c (Full vs) =
    let values : List Datum = map (target_value c vs) origins in
    let target : Coordinate = counted_up origins (alike_so_far (counted_places origins 0) taken (map number_of values)) (map number_of values) in
    lands_unless bounds (first_some bad_kind values) (cond (list_any is_null values) drops (landing_at bounds once taken target))
    (lands_or_drops bounds (list_any is_null values) (landing_at bounds once taken target) (lands_at bounds once taken target))

one_more : (bounds : Bounds) (t : Coordinate) (row : Row) → IsTrue (is_inside bounds t) → (r : Result (List Landed) Broken) → IfOk r (AreIn bounds) → IfOk (if_whole (λ rest. (t, row) ∷ rest) r) (AreIn bounds)
unfolding AreIn
one_more bounds t row e (Ok rest) h = (e, h)
one_more bounds t row e (Err broken) h = h

after_lands : (bounds : Bounds) (o : Landing) (row : Row) (go : List Coordinate → Result (List Landed) Broken) (taken : List Coordinate) → LandsIn bounds o → ((now : List Coordinate) → IfOk (go now) (AreIn bounds)) → IfOk (after_landing o row go taken) (AreIn bounds)
unfolding LandsIn
after_lands bounds (lands t) row go taken e h = one_more bounds t row e (go (t ∷ taken)) (h (t ∷ taken))
after_lands bounds drops row go taken e h = h taken
after_lands bounds (breaks kind) row go taken e h = tt

landed_in : (origins : List Origin) (bounds : Bounds) (once : Bool) (rows : List Row) (taken : List Coordinate) → IfOk (landed origins bounds once rows taken) (AreIn bounds)
unfolding AreIn
landed_in origins bounds once [] taken = tt
landed_in origins bounds once (row ∷ rows) taken =
    after_lands bounds (landing_of origins bounds once taken row.at.items row.cell) row (λ now. landed origins bounds once rows now) taken (lands_in origins bounds once taken row.at.items row.cell) (λ now. landed_in origins bounds once rows now)

carried_in : (dims : List Dimension) (values : List Origin) (l : Landed) → IsTrue (is_inside (bounds_of dims) l.0) → Inside dims (carried values l)
carried_in dims values (t, row) e = e

fit_inside : (dims : List Dimension) (attributes : List Attribute) (f : Landed → Row) → ((l : Landed) → IsTrue (is_inside (bounds_of dims) l.0) → Inside dims (f l)) → (r : Result (List Landed) Broken) → IfOk r (AreIn (bounds_of dims))
    → IfOk (if_whole (fit_rows attributes) (if_whole (λ all. in_order (map f all)) r)) (AreInside dims)
unfolding AreIn
fit_inside dims attributes f h (Ok all) i =
    changed_inside dims (fit_cell attributes) (in_order (map f all)) (all_in_order (Inside dims) (map f all) (all-map (Inside dims) f all (all-follows (λ (l : Landed). IsTrue (is_inside (bounds_of dims) l.0)) (λ (l : Landed). Inside dims (f l)) h all i)))
fit_inside dims attributes f h (Err broken) i = tt

redimension_inside : (source target : Schema) (gs : List Aggregate) (rows : List Row) → IfOk (redimension_rows source target gs rows) (AreInside target.dimensions)
redimension_inside source target [] rows =
    let values : List Origin = map (value_origin source) target.attributes in
    fit_inside target.dimensions target.attributes (carried values) (carried_in target.dimensions values) (landed (map (origin_of source) target.dimensions) (bounds_of target.dimensions) true rows [])
    (landed_in (map (origin_of source) target.dimensions) (bounds_of target.dimensions) true rows [])
redimension_inside source target (g ∷ gs) rows =
    let origins : List Origin = map (origin_of source) target.dimensions in
    gathered (landed origins (bounds_of target.dimensions) false rows []) (landed_in origins (bounds_of target.dimensions) false rows [])
  where
    gathered : (r : Result (List Landed) Broken) → IfOk r (AreIn (bounds_of target.dimensions))
        → IfOk (if_whole (fit_rows target.attributes) (if_whole (λ all. in_order (map (λ (l : Landed). placed l.0 (by_names target.attributes (g ∷ gs) (landed_at all l.0))) all)) r)) (AreInside target.dimensions)
    gathered (Ok all) i =
        fit_inside target.dimensions target.attributes (λ (l : Landed). placed l.0 (by_names target.attributes (g ∷ gs) (landed_at all l.0))) (λ l e. e) (Ok all) i
    gathered (Err broken) i = tt

then_inside : (dims : List Dimension) (f : List Row → Result (List Row) Broken) → ((rows : List Row) → IfOk (f rows) (AreInside dims)) → (r : Result (List Row) Broken) → IfOk (and_then f r) (AreInside dims)
then_inside dims f h (Ok rows) = h rows
then_inside dims f h (Err broken) = tt

-- ---- plans

part_of : (area : Bounds) (schema : Schema) → IsValid schema → (m : Meant) → m.schema ≡ schema → IfOk (if_whole (subarray_rows (meet (bounds_of m.schema.dimensions) area)) m.rows) (AreInside (subarray_schema area schema).dimensions)
part_of area schema valid m same =
    subst (λ (s : Schema). IfOk (if_whole (subarray_rows (meet (bounds_of s.dimensions) area)) m.rows) (AreInside (subarray_schema area schema).dimensions)) (sym same) (whole m.rows)
  where
    whole : (r : Result (List Row) Broken) → IfOk (if_whole (subarray_rows (meet (bounds_of schema.dimensions) area)) r) (AreInside (subarray_schema area schema).dimensions)
    whole (Ok rows) = part_rows schema area valid rows
    whole (Err broken) = tt

blocks_of : (sizes : List ℕ) (gs : List Aggregate) (schema : Schema) → IsValid schema → (m : Meant) → m.schema ≡ schema → IfOk m.rows (AreInside schema.dimensions)
    → IfOk (if_whole (regrid_rows (bounds_of m.schema.dimensions).lo.items sizes gs) m.rows) (AreInside (by_pairs in_blocks schema.dimensions sizes))
blocks_of sizes gs schema valid m same i =
    let dims : List Dimension = schema.dimensions in
    subst (λ (s : Schema). IfOk (if_whole (regrid_rows (bounds_of s.dimensions).lo.items sizes gs) m.rows) (AreInside (by_pairs in_blocks dims sizes))) (sym same)
    (if_inside dims (by_pairs in_blocks dims sizes) (regrid_rows (bounds_of dims).lo.items sizes gs)
    (grouped_inside dims (by_pairs in_blocks dims sizes) (λ c. by_pairs (λ b x. b x) (by_pairs block (bounds_of dims).lo.items sizes) c) gs (λ c e. blocks_inside dims sizes c (near_slice schema dims refl valid) e)) m.rows i)

-- what the rules of typing say of the bounds

pub enlarging : (schema : Schema) (sizes : List ℕ) → IsValid schema → IsTrue (enlarges schema sizes) → AllEnlarge schema.dimensions sizes
enlarging schema sizes valid t =
    all_enlarge schema.dimensions sizes (near_slice schema schema.dimensions refl valid) (and_parts (can_enlarge schema.dimensions sizes) (nat_le (product_of sizes) 65536) t).0

pub merging : (left right : Schema) → IsTrue (merges left right) → SameBounds left.dimensions right.dimensions
merging left right t = bounds_are_same left.dimensions right.dimensions (and_parts (same_bounds left.dimensions right.dimensions) (same_kinds left.attributes right.attributes) t).0

pub following : (left right : Schema) → IsValid left → IsValid right → IsTrue (concatenates left right) → CanFollow left.dimensions right.dimensions
following left right valid valid' t =
    follows left.dimensions right.dimensions (near_slice left left.dimensions refl valid) (near_slice right right.dimensions refl valid') (and_parts (can_follow left.dimensions right.dimensions) (same_kinds left.attributes right.attributes) t).0

pub insides : (db : Database) (query : Query) → IsTyped query → HasArrays db query → IfOk (meaning db query).rows (AreInside (schema_of query).dimensions)
insides db (built schema e) t l = array_inside schema (meaning db (built schema e)).rows (typed_arrays db (built schema e) refl t l)
insides db (listed schema rows) t l = t.1.are_rows.in_bounds
insides db (scanned leaf) t l = l.0.are_rows.in_bounds
insides db (filtered source test) t l = let d : List Dimension = (schema_of source).dimensions in if_inside d d (filter_rows test) (changed_inside d (filter_cell test)) (meaning db source).rows (insides db source t.0 l)
insides db (applied source values) t l = let d : List Dimension = (schema_of source).dimensions in if_inside d d (apply_rows values) (changed_inside d (apply_cell values)) (meaning db source).rows (insides db source t.0 l)
insides db (projected source places) t l = let d : List Dimension = (schema_of source).dimensions in if_inside d d (project_rows places) (changed_inside d (project_cell places)) (meaning db source).rows (insides db source t.0 l)
insides db (between source area) t l =
    let d : List Dimension = (schema_of source).dimensions in
    if_inside d d (within area) (all_where (Inside d) (λ (row : Row). is_inside area row.at.items)) (meaning db source).rows (insides db source t.0 l)
insides db (subarray source area) t l = part_of area (schema_of source) (typed_valid source t.0) (meaning db source) (meaning_schema db source)
insides db (sliced source fixed) t l =
    let d : List Dimension = (schema_of source).dimensions in
    if_inside d (items_but (fixed_places fixed) 0 d) (slice_rows fixed) (slice_inside d fixed) (meaning db source).rows (insides db source t.0 l)
insides db (joined left right schema) t l =
    let d : List Dimension = (schema_of left).dimensions in
    let same : bounds_of schema.dimensions ≡ bounds_of d = ap (λ (s : Schema). bounds_of s.dimensions) t.3 ∙ side_bounds d ((schema_of left).attributes ++ (schema_of right).attributes) in
    as_bounds d schema.dimensions (meaning db (joined left right schema)).rows same (join_inside d (meaning db left).rows (meaning db right).rows (insides db left t.0 (left_arrays db left right schema l)))
insides db (crossed left right pairs schema) t l =
    let d : List Dimension = (schema_of left).dimensions in
    let e : List Dimension = (schema_of right).dimensions in
    let both : List Dimension = d ++ items_but (right_places pairs) 0 e in
    let same : bounds_of schema.dimensions ≡ bounds_of both = ap (λ (s : Schema). bounds_of s.dimensions) t.3 ∙ side_bounds both ((schema_of left).attributes ++ (schema_of right).attributes) in
    as_bounds both schema.dimensions (meaning db (crossed left right pairs schema)).rows same
    (cross_inside pairs d e (meaning db left).rows (meaning db right).rows (insides db left t.0 (left_arrays db left right schema l)) (insides db right t.1 (right_arrays db left right schema l)))
insides db (redimensioned source schema gs) t l = then_inside schema.dimensions (redimension_rows (meaning db source).schema schema gs) (redimension_inside (meaning db source).schema schema gs) (meaning db source).rows
insides db (regridded source sizes gs) t l = blocks_of sizes gs (schema_of source) (typed_valid source t.0) (meaning db source) (meaning_schema db source) (insides db source t.0 l)
insides db (windowed source reach gs) t l =
    let d : List Dimension = (schema_of source).dimensions in
    if_inside d d (window_rows reach gs) (λ rows i. changed_inside d (window_cell reach gs rows) rows i) (meaning db source).rows (insides db source t.0 l)
insides db (aggregated source gs places) t l =
    let d : List Dimension = (schema_of source).dimensions in
    let typed = and_parts (are_below (length d) places) (are_aggregates_of (schema_of source).attributes gs) t.1 in
    if_inside d (group_dimensions places d) (aggregate_rows places gs) (aggregated_inside d places gs typed.0) (meaning db source).rows (insides db source t.0 l)
insides db (sorted source keys schema) t l = numbers_inside schema (and_then (sort_rows keys) (meaning db source).rows)
insides db (ranked source x places) t l =
    let d : List Dimension = (schema_of source).dimensions in
    if_inside d d (rank_rows x places) (λ rows i. changed_inside d (rank_cell x places rows) rows i) (meaning db source).rows (insides db source t.0 l)
insides db (cumulated source gs n) t l =
    let d : List Dimension = (schema_of source).dimensions in
    if_inside d d (cumulate_rows n gs) (λ rows i. changed_inside d (cumulate_cell n gs rows) rows i) (meaning db source).rows (insides db source t.0 l)
insides db (transposed source) t l =
    let d : List Dimension = (schema_of source).dimensions in
    if_inside d (reverse d) transpose_rows (transposed_inside d) (meaning db source).rows (insides db source t.0 l)
insides db (reversed source) t l = reversed_of (schema_of source) (meaning db source) (meaning_schema db source) (insides db source t.0 l)
insides db (unpacked source schema) t l = numbers_inside schema (and_then unpack_rows (meaning db source).rows)
insides db (xgridded source sizes) t l =
    xgridded_of sizes (schema_of source) (enlarging (schema_of source) sizes (typed_valid source t.0) t.1) (meaning db source) (meaning_schema db source) (insides db source t.0 l)
insides db (merged left right) t l =
    merged_inside (schema_of left).dimensions (schema_of right).dimensions (merging (schema_of left) (schema_of right) t.2) (meaning db left).rows (meaning db right).rows
    (insides db left t.0 (left_arrays db left right (schema_of left) l)) (insides db right t.1 (right_arrays db left right (schema_of left) l))
insides db (concatenated left right) t l =
    concat_of (schema_of left) (schema_of right) (following (schema_of left) (schema_of right) (typed_valid left t.0) (typed_valid right t.1) t.2) (meaning db left) (meaning db right) (meaning_schema db left) (meaning_schema db right)
    (insides db left t.0 (left_arrays db left right (schema_of left) l)) (insides db right t.1 (right_arrays db left right (schema_of left) l))
