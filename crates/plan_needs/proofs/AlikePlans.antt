-- One induction over plans: their needs are sufficient.
use Rattle.std.proofs.Common.{◌≡◌, ℕ, suc, ◌+◌, ◌≤◌, ℤ, Bool, true, false, List, [], ◌∷◌, ◌++◌, map, length, take, cond, Result, Ok, Err, refl, sym, ap, ◌∙◌, subst, length-append, length-take, arith}
use Rattle.std.specs.Prelude.{◌&&◌, ◌==◌, nat_le, IfOk}
use Rattle.std.specs.Int.{int_max}
use Rattle.std.specs.Ordering.{int_eq}
use Rattle.std.specs.List.{AllZip, list_all}
use Rattle.std.proofs.lemmas.Bool.{false≢true, and_parts, eqb-true}
use Rattle.std.proofs.lemmas.List.{length-map, length-reverse}
use Rattle.cell_values.specs.declared.datum.Broken.{Broken}
use Rattle.cell_values.specs.declared.datum.Row.{Row}
use Rattle.cell_values.specs.declared.schema.Attribute.{Attribute}
use Rattle.cell_values.specs.declared.schema.Bounds.{Bounds}
use Rattle.cell_values.specs.declared.schema.Dimension.{Dimension}
use Rattle.cell_values.specs.declared.schema.Schema.{Schema}
use Rattle.cell_values.specs.Schemas.{attribute_names, dimension_names}
use Rattle.array_rows.specs.Arrays.{AreRowsOf, Meant}
use Rattle.array_rows.specs.Boxes.{by_pairs, corners, within, bounds_of}
use Rattle.array_geom.proofs.NearLemmas.{near_slice}
use Rattle.logical_plan.specs.declared.parts.Aggregate.{Aggregate}
use Rattle.logical_plan.specs.declared.parts.Leaf.{Leaf}
use Rattle.logical_plan.specs.declared.parts.Reach.{Reach}
use Rattle.logical_plan.specs.BoxOps.{items_but}
use Rattle.logical_plan.specs.CellOps.{filter_cell, filter_rows, apply_cell, apply_rows, project_cell, project_rows}
use Rattle.logical_plan.specs.Faults.{if_whole}
use Rattle.logical_plan.specs.Groups.{window_rows, aggregate_rows}
use Rattle.logical_plan.specs.Joins.{right_places}
use Rattle.logical_plan.specs.Leaves.{leaves}
use Rattle.logical_plan.specs.Meaning.{Database, meaning, version_rows, redimensioned_from, sorted_from}
use Rattle.logical_plan.specs.PlanSchema.{schema_of, subarray_dimensions, in_blocks, renamed_dimension, free_names, side_by_side}
use Rattle.logical_plan.specs.Query.{Query, built, listed, scanned, filtered, applied, projected, between, subarray, sliced, joined, crossed, redimensioned, regridded, windowed, aggregated}
use Rattle.logical_plan.specs.Query.{sorted, ranked, cumulated, transposed, reversed, unpacked, xgridded, merged, concatenated}
use Rattle.logical_plan.specs.ShapeMeant.{unpack_meant}
use Rattle.logical_plan.specs.ShapeSchemas.{lengthened}
use Rattle.logical_plan.specs.Typing.{IsTyped, same_bounds, same_kinds, are_blocks_of, are_windows_of, are_aggregates_of, are_below, are_apart, left_places, window_size, reached_size}
use Rattle.logical_plan.proofs.SchemaLaws.{meaning_schema, typed_valid}
use Rattle.shape_rows.specs.Laws.{CanFollow, SameBounds}
use Rattle.plan_needs.specs.declared.stretch.Stretch.{Stretch}
use Rattle.plan_needs.specs.Needs.{is_scan, needs}
use Rattle.plan_needs.specs.Sufficient.{HasArrays}
use Rattle.plan_needs.specs.OrderSides.{of_cumulate, of_rank}
use Rattle.plan_needs.specs.ShapeSides.{of_behind, of_front, of_reverse, of_transpose, of_xgrid, opposites}
use Rattle.plan_needs.specs.Sides.{Sides, sides_of, box_of, whole, has_empty, unless_nothing, of_between, of_subarray, of_slice, of_left, of_right, of_regrid, of_aggregate, of_window, named_sides, are_near, of_windows}
use Rattle.plan_needs.specs.Stretches.{stretch, all_of, lifted, blocks, grown}
use Rattle.plan_needs.specs.Sufficient.{NeedsAreSufficient}
use Rattle.plan_needs.specs.Wanted.{HaveAlike, AreAlikeAt, AreAlikeFor}
use Rattle.plan_needs.proofs.AlikeBlocks.{alike_blocks}
use Rattle.plan_needs.proofs.AlikeCross.{alike_crossed, length-left, length-right}
use Rattle.plan_needs.proofs.AlikeGroups.{alike_named, alike_all, alike_empty}
use Rattle.plan_needs.proofs.AlikeNear.{leaf_under, scan_rows, leaf_box, leaf_places, scan_places, alike_near}
use Rattle.plan_needs.proofs.AlikeOrder.{alike_cumulate, alike_rank, length-cumulate, length-rank}
use Rattle.plan_needs.proofs.AlikeShapes.{alike_concat, alike_merged, alike_reversed, alike_transposed, alike_xgridded, length-behind, length-front, length-xgrid}
use Rattle.plan_needs.proofs.AlikeParts.{alike_part, alike_slice, length-slice}
use Rattle.plan_needs.proofs.AlikeScans.{scans_alike}
use Rattle.plan_needs.proofs.AlikeSteps.{alike_changed, alike_between, alike_joined, alike_whole}
use Rattle.plan_needs.proofs.AlikeWindows.{alike_windows}
use Rattle.plan_needs.proofs.BoxSides.{between_length, box_of_sides}
use Rattle.plan_needs.proofs.BoxLaws.{box_lengths, length-by_pairs}
use Rattle.plan_needs.proofs.EmptyBoxes.{length-unless_nothing}
use Rattle.plan_needs.proofs.Inside.{AreInside}
use Rattle.plan_needs.proofs.InsidePlans.{enlarging, following, insides}
use Rattle.plan_needs.proofs.LeafParts.{left_arrays, right_arrays}
use Rattle.plan_needs.proofs.FreeNames.{many_names}

-- ---- a need for each leaf

as_many : (query : Query) (sides : Sides) → length (needs query sides) ≡ length (leaves query)
as_many (built schema e) sides = refl
as_many (listed schema rows) sides = refl
as_many (scanned leaf) sides = refl
as_many (filtered source test) sides = as_many source sides
as_many (applied source values) sides = as_many source sides
as_many (projected source places) sides = as_many source sides
as_many (between source area) sides = as_many source (of_between area sides)
as_many (subarray source area) sides = as_many source (of_subarray (schema_of source).dimensions area sides)
as_many (sliced source fixed) sides = as_many source (of_slice (schema_of source).dimensions fixed sides)
as_many (joined left right schema) sides =
    let l : length (needs left sides) ≡ length (leaves left) = as_many left sides in
    let r : length (needs right sides) ≡ length (leaves right) = as_many right sides in
    omega (arith, length-append (needs left sides) (needs right sides), length-append (leaves left) (leaves right))
as_many (crossed left right pairs schema) sides =
    let ls : Sides = of_left (schema_of left).dimensions sides in
    let rs : Sides = of_right (schema_of left).dimensions (schema_of right).dimensions pairs sides in
    let l : length (needs left ls) ≡ length (leaves left) = as_many left ls in
    let r : length (needs right rs) ≡ length (leaves right) = as_many right rs in
    omega (arith, length-append (needs left ls) (needs right rs), length-append (leaves left) (leaves right))
as_many (redimensioned source schema gs) sides = as_many source (whole (schema_of source).dimensions)
as_many (regridded source sizes gs) sides = as_many source (of_regrid (schema_of source).dimensions sizes sides)
as_many (windowed source reach gs) sides = as_many source (of_window (is_scan source) (schema_of source).dimensions reach sides)
as_many (aggregated source gs places) sides = as_many source (of_aggregate (schema_of source).dimensions places sides)
as_many (sorted source keys schema) sides = as_many source (whole (schema_of source).dimensions)
as_many (ranked source x dims) sides = as_many source (of_rank (schema_of source).dimensions dims sides)
as_many (cumulated source gs n) sides = as_many source (of_cumulate (schema_of source).dimensions n sides)
as_many (transposed source) sides = as_many source (of_transpose sides)
as_many (reversed source) sides = as_many source (of_reverse (schema_of source).dimensions sides)
as_many (unpacked source schema) sides = as_many source (whole (schema_of source).dimensions)
as_many (xgridded source sizes) sides = as_many source (of_xgrid (schema_of source).dimensions sizes sides)
as_many (merged left right) sides =
    let l : length (needs left sides) ≡ length (leaves left) = as_many left sides in
    let r : length (needs right sides) ≡ length (leaves right) = as_many right sides in
    omega (arith, length-append (needs left sides) (needs right sides), length-append (leaves left) (leaves right))
as_many (concatenated left right) sides =
    let ls : Sides = of_front (schema_of left).dimensions sides in
    let rs : Sides = of_behind (schema_of left).dimensions (schema_of right).dimensions sides in
    let l : length (needs left ls) ≡ length (leaves left) = as_many left ls in
    let r : length (needs right rs) ≡ length (leaves right) = as_many right rs in
    omega (arith, length-append (needs left ls) (needs right rs), length-append (leaves left) (leaves right))

zip_parts : {A B : Type 0} (R : A → B → Type 0) (xs ys : List A) (us vs : List B) → length us ≡ length xs → AllZip R (xs ++ ys) (us ++ vs) → AllZip R xs us × AllZip R ys vs
zip_parts R [] ys [] vs e all = (tt, all)
zip_parts R [] ys (u ∷ us) vs e all = absurd (omega arith)
zip_parts R (x ∷ xs) ys [] vs e all = absurd (omega arith)
zip_parts R (x ∷ xs) ys (u ∷ us) vs e all = let rest = zip_parts R xs ys us vs (omega arith) all.1 in ((all.0, rest.0), rest.1)

-- ---- lengths

length-part : (dims : List Dimension) (lo hi : List ℤ) → length lo ≡ length dims → length hi ≡ length dims → length (subarray_dimensions dims lo hi) ≡ length dims
length-part [] lo hi e f = refl
length-part (d ∷ dims) [] hi e f = absurd (omega arith)
length-part (d ∷ dims) (l ∷ lo) [] e f = absurd (omega arith)
length-part (d ∷ dims) (l ∷ lo) (h ∷ hi) e f = ap suc (length-part dims lo hi (omega arith) (omega arith))

length-named : (places : List ℕ) (sides : Sides) (n : ℕ) (dims : List Dimension) → length (named_sides places sides n dims) ≡ length dims
length-named places sides n [] = refl
length-named places sides n (d ∷ dims) = ap suc (length-named places sides (n + 1) dims)

side_dimensions : (dims : List Dimension) (attributes : List Attribute) → length (side_by_side dims attributes).dimensions ≡ length dims
side_dimensions dims attributes =
    let names : List (List ℕ) = dimension_names dims ++ attribute_names attributes in
    let many : length (free_names [] names) ≡ length names = many_names [] names in
    let parts : length names ≡ length (dimension_names dims) + length (attribute_names attributes) = length-append (dimension_names dims) (attribute_names attributes) in
    let of_dims : length (dimension_names dims) ≡ length dims = length-map dims (λ d. d.name) in
    length-by_pairs renamed_dimension dims (take (length dims) (free_names [] names)) (omega (arith, length-take (length dims) (free_names [] names), many, parts, of_dims))

equal_lengths : (left right : List Dimension) → same_bounds left right ≡ true → length left ≡ length right
equal_lengths [] [] e = refl
equal_lengths [] (b ∷ right) e = absurd (false≢true e)
equal_lengths (a ∷ left) [] e = absurd (false≢true e)
equal_lengths (a ∷ left) (b ∷ right) e = ap suc (equal_lengths left right (and_parts (int_eq a.lo b.lo && int_eq a.hi b.hi) (same_bounds left right) e).1)

whole_box : (dims : List Dimension) → box_of (whole dims) ≡ bounds_of dims
whole_box dims = λ i. corners (lows dims i) (highs dims i)
  where
    lows : (ds : List Dimension) → map (λ (s : Stretch). s.first) (whole ds) ≡ map (λ (d : Dimension). d.lo) ds
    lows [] = refl
    lows (d ∷ ds) = ap (λ (l : List ℤ). d.lo ∷ l) (lows ds)

    highs : (ds : List Dimension) → map (λ (s : Stretch). s.last) (whole ds) ≡ map (λ (d : Dimension). d.hi) ds
    highs [] = refl
    highs (d ∷ ds) = ap (λ (l : List ℤ). d.hi ∷ l) (highs ds)

-- what is alike in all places is the same
same_source : (dims : List Dimension) (x y : Result (List Row) Broken) → IfOk x (AreInside dims) → IfOk y (AreInside dims) → if_whole (within (box_of (whole dims))) x ≡ if_whole (within (box_of (whole dims))) y → x ≡ y
same_source dims x y i j h =
    alike_whole (bounds_of dims) x y i j (subst (λ (b : Bounds). if_whole (within b) x ≡ if_whole (within b) y) (whole_box dims) h)

-- ---- a scan and what is made of it

scan_meaning : (db : Database) (query : Query) (other : Leaf) → is_scan query ≡ true → (meaning db query).rows ≡ Ok (scan_rows query (version_rows db (leaf_under query other).name (leaf_under query other).version))
scan_meaning db (scanned leaf) other k = refl
scan_meaning db (filtered source test) other k = ap (λ (r : Result (List Row) Broken). if_whole (filter_rows test) r) (scan_meaning db source other k)
scan_meaning db (applied source values) other k = ap (λ (r : Result (List Row) Broken). if_whole (apply_rows values) r) (scan_meaning db source other k)
scan_meaning db (projected source places) other k = ap (λ (r : Result (List Row) Broken). if_whole (project_rows places) r) (scan_meaning db source other k)
scan_meaning db (between source area) other k = ap (λ (r : Result (List Row) Broken). if_whole (within area) r) (scan_meaning db source other k)
scan_meaning db (built schema e) other k = absurd (false≢true k)
scan_meaning db (listed schema r) other k = absurd (false≢true k)
scan_meaning db (subarray source area) other k = absurd (false≢true k)
scan_meaning db (sliced source fixed) other k = absurd (false≢true k)
scan_meaning db (joined left right schema) other k = absurd (false≢true k)
scan_meaning db (crossed left right pairs schema) other k = absurd (false≢true k)
scan_meaning db (redimensioned source schema gs) other k = absurd (false≢true k)
scan_meaning db (regridded source sizes gs) other k = absurd (false≢true k)
scan_meaning db (windowed source reach gs) other k = absurd (false≢true k)
scan_meaning db (aggregated source gs places) other k = absurd (false≢true k)
scan_meaning db (sorted source keys schema) other k = absurd (false≢true k)
scan_meaning db (ranked source x dims) other k = absurd (false≢true k)
scan_meaning db (cumulated source gs n) other k = absurd (false≢true k)
scan_meaning db (transposed source) other k = absurd (false≢true k)
scan_meaning db (reversed source) other k = absurd (false≢true k)
scan_meaning db (unpacked source schema) other k = absurd (false≢true k)
scan_meaning db (xgridded source sizes) other k = absurd (false≢true k)
scan_meaning db (merged left right) other k = absurd (false≢true k)
scan_meaning db (concatenated left right) other k = absurd (false≢true k)

scan_dimensions : (query : Query) (other : Leaf) → is_scan query ≡ true → (leaf_under query other).schema.dimensions ≡ (schema_of query).dimensions
scan_dimensions (scanned leaf) other k = refl
scan_dimensions (filtered source test) other k = scan_dimensions source other k
scan_dimensions (applied source values) other k = scan_dimensions source other k
scan_dimensions (projected source places) other k = scan_dimensions source other k
scan_dimensions (between source area) other k = scan_dimensions source other k
scan_dimensions (built schema e) other k = absurd (false≢true k)
scan_dimensions (listed schema r) other k = absurd (false≢true k)
scan_dimensions (subarray source area) other k = absurd (false≢true k)
scan_dimensions (sliced source fixed) other k = absurd (false≢true k)
scan_dimensions (joined left right schema) other k = absurd (false≢true k)
scan_dimensions (crossed left right pairs schema) other k = absurd (false≢true k)
scan_dimensions (redimensioned source schema gs) other k = absurd (false≢true k)
scan_dimensions (regridded source sizes gs) other k = absurd (false≢true k)
scan_dimensions (windowed source reach gs) other k = absurd (false≢true k)
scan_dimensions (aggregated source gs places) other k = absurd (false≢true k)
scan_dimensions (sorted source keys schema) other k = absurd (false≢true k)
scan_dimensions (ranked source x dims) other k = absurd (false≢true k)
scan_dimensions (cumulated source gs n) other k = absurd (false≢true k)
scan_dimensions (transposed source) other k = absurd (false≢true k)
scan_dimensions (reversed source) other k = absurd (false≢true k)
scan_dimensions (unpacked source schema) other k = absurd (false≢true k)
scan_dimensions (xgridded source sizes) other k = absurd (false≢true k)
scan_dimensions (merged left right) other k = absurd (false≢true k)
scan_dimensions (concatenated left right) other k = absurd (false≢true k)

-- the array of the leaf, and what is alike of it
abbrev leaf_rows : Database → Query → Leaf → List Row
leaf_rows db query other = version_rows db (leaf_under query other).name (leaf_under query other).version

scan_array : (db : Database) (query : Query) (other : Leaf) → is_scan query ≡ true → HasArrays db query → AreRowsOf (leaf_under query other).schema (leaf_rows db query other)
scan_array db (scanned leaf) other k l = l.0
scan_array db (filtered source test) other k l = scan_array db source other k l
scan_array db (applied source values) other k l = scan_array db source other k l
scan_array db (projected source places) other k l = scan_array db source other k l
scan_array db (between source area) other k l = scan_array db source other k l
scan_array db (built schema e) other k l = absurd (false≢true k)
scan_array db (listed schema r) other k l = absurd (false≢true k)
scan_array db (subarray source area) other k l = absurd (false≢true k)
scan_array db (sliced source fixed) other k l = absurd (false≢true k)
scan_array db (joined left right schema) other k l = absurd (false≢true k)
scan_array db (crossed left right pairs schema) other k l = absurd (false≢true k)
scan_array db (redimensioned source schema gs) other k l = absurd (false≢true k)
scan_array db (regridded source sizes gs) other k l = absurd (false≢true k)
scan_array db (windowed source reach gs) other k l = absurd (false≢true k)
scan_array db (aggregated source gs places) other k l = absurd (false≢true k)
scan_array db (sorted source keys schema) other k l = absurd (false≢true k)
scan_array db (ranked source x dims) other k l = absurd (false≢true k)
scan_array db (cumulated source gs n) other k l = absurd (false≢true k)
scan_array db (transposed source) other k l = absurd (false≢true k)
scan_array db (reversed source) other k l = absurd (false≢true k)
scan_array db (unpacked source schema) other k l = absurd (false≢true k)
scan_array db (xgridded source sizes) other k l = absurd (false≢true k)
scan_array db (merged left right) other k l = absurd (false≢true k)
scan_array db (concatenated left right) other k l = absurd (false≢true k)

scan_alike : (a b : Database) (query : Query) (other : Leaf) (sides : Sides) → is_scan query ≡ true → AreAlikeFor a b query (needs query sides) → HaveAlike (leaf_under query other).schema.dimensions (leaf_box query sides) (leaf_rows a query other) (leaf_rows b query other)
scan_alike a b (scanned leaf) other sides k h = h.0
scan_alike a b (filtered source test) other sides k h = scan_alike a b source other sides k h
scan_alike a b (applied source values) other sides k h = scan_alike a b source other sides k h
scan_alike a b (projected source places) other sides k h = scan_alike a b source other sides k h
scan_alike a b (between source area) other sides k h = scan_alike a b source other (of_between area sides) k h
scan_alike a b (built schema e) other sides k h = absurd (false≢true k)
scan_alike a b (listed schema r) other sides k h = absurd (false≢true k)
scan_alike a b (subarray source area) other sides k h = absurd (false≢true k)
scan_alike a b (sliced source fixed) other sides k h = absurd (false≢true k)
scan_alike a b (joined left right schema) other sides k h = absurd (false≢true k)
scan_alike a b (crossed left right pairs schema) other sides k h = absurd (false≢true k)
scan_alike a b (redimensioned source schema gs) other sides k h = absurd (false≢true k)
scan_alike a b (regridded source sizes gs) other sides k h = absurd (false≢true k)
scan_alike a b (windowed source reach gs) other sides k h = absurd (false≢true k)
scan_alike a b (aggregated source gs places) other sides k h = absurd (false≢true k)
scan_alike a b (sorted source keys schema) other sides k h = absurd (false≢true k)
scan_alike a b (ranked source x dims) other sides k h = absurd (false≢true k)
scan_alike a b (cumulated source gs n) other sides k h = absurd (false≢true k)
scan_alike a b (transposed source) other sides k h = absurd (false≢true k)
scan_alike a b (reversed source) other sides k h = absurd (false≢true k)
scan_alike a b (unpacked source schema) other sides k h = absurd (false≢true k)
scan_alike a b (xgridded source sizes) other sides k h = absurd (false≢true k)
scan_alike a b (merged left right) other sides k h = absurd (false≢true k)
scan_alike a b (concatenated left right) other sides k h = absurd (false≢true k)

rows_in : Result (List Row) Broken → List Row
rows_in (Ok rows) = rows
rows_in (Err broken) = []

abbrev whole_rows : List Row → Result (List Row) Broken
whole_rows rows = Ok rows

near_windows : (a b : Database) (source : Query) (reach : List Reach) (gs : List Aggregate) (sides : Sides) → is_scan source ≡ true → are_near reach (schema_of source).dimensions ≡ true → IsTyped source → length reach ≡ length (schema_of source).dimensions
    → HasArrays a source → HasArrays b source → length sides ≡ length (schema_of source).dimensions → AreAlikeFor a b source (needs source sides)
    → if_whole (within (box_of sides)) (meaning a source).rows ≡ if_whole (within (box_of sides)) (meaning b source).rows
    → if_whole (within (box_of sides)) (if_whole (window_rows reach gs) (meaning a source).rows) ≡ if_whole (within (box_of sides)) (if_whole (window_rows reach gs) (meaning b source).rows)
unfolding rows_in
near_windows a b source reach gs sides k near t len la lb e h same =
    let other : Leaf = record { name = []; version = 0; schema = schema_of source } in
    let schema : Schema = (leaf_under source other).schema in
    let dims : schema.dimensions ≡ (schema_of source).dimensions = scan_dimensions source other k in
    let ea = scan_meaning a source other k in
    let eb = scan_meaning b source other k in
    let arrays = scan_array a source other k la in
    let places = scan_places source sides schema.dimensions (leaf_rows a source other) k t e (leaf_places schema.dimensions (leaf_rows a source other) (near_slice schema schema.dimensions refl arrays.valid) arrays.are_rows.in_bounds) in
    let parts : within (box_of sides) (scan_rows source (leaf_rows a source other)) ≡ within (box_of sides) (scan_rows source (leaf_rows b source other)) =
    ap rows_in (sym (ap (λ (r : Result (List Row) Broken). if_whole (within (box_of sides)) r) ea) ∙ same ∙ ap (λ (r : Result (List Row) Broken). if_whole (within (box_of sides)) r) eb) in
    ap (λ (r : Result (List Row) Broken). if_whole (within (box_of sides)) (if_whole (window_rows reach gs) r)) ea
    ∙ ap whole_rows (alike_near schema source sides reach gs (leaf_rows a source other) (leaf_rows b source other) k arrays.valid
    (subst (λ (ds : List Dimension). are_near reach ds ≡ true) (sym dims) near) (len ∙ ap (λ (ds : List Dimension). length ds) (sym dims)) (scan_alike a b source other sides k h) places parts)
    ∙ sym (ap (λ (r : Result (List Row) Broken). if_whole (within (box_of sides)) (if_whole (window_rows reach gs) r)) eb)

by_reach : (a b : Database) (source : Query) (reach : List Reach) (gs : List Aggregate) (sides : Sides) → IsTyped source → length reach ≡ length (schema_of source).dimensions → HasArrays a source → HasArrays b source
    → length sides ≡ length (schema_of source).dimensions
    → ((s : Sides) → length s ≡ length (schema_of source).dimensions → AreAlikeFor a b source (needs source s) → if_whole (within (box_of s)) (meaning a source).rows ≡ if_whole (within (box_of s)) (meaning b source).rows)
    → (t : Bool) → (is_scan source && are_near reach (schema_of source).dimensions) ≡ t → AreAlikeFor a b source (needs source (cond t sides (of_windows (schema_of source).dimensions reach sides)))
    → if_whole (within (box_of sides)) (if_whole (window_rows reach gs) (meaning a source).rows) ≡ if_whole (within (box_of sides)) (if_whole (window_rows reach gs) (meaning b source).rows)
by_reach a b source reach gs sides t len la lb e ih true f h =
    let p = and_parts (is_scan source) (are_near reach (schema_of source).dimensions) f in
    near_windows a b source reach gs sides p.0 p.1 t len la lb e h (ih sides e h)
by_reach a b source reach gs sides t len la lb e ih false f h =
    let dims : List Dimension = (schema_of source).dimensions in
    let long : length (of_windows dims reach sides) ≡ length dims =
    length-unless_nothing (has_empty sides) (by_pairs (λ (g : Stretch → Stretch) (s : Stretch). g s) (by_pairs grown dims reach) sides)
    ∙ length-by_pairs (λ (g : Stretch → Stretch) (s : Stretch). g s) (by_pairs grown dims reach) sides (e ∙ sym (length-by_pairs grown dims reach len)) ∙ length-by_pairs grown dims reach len in
    alike_windows dims reach gs sides (near_slice (schema_of source) dims refl (typed_valid source t)) len (meaning a source).rows (meaning b source).rows (insides a source t la) (insides b source t lb) (ih (of_windows dims reach sides) long h)

by_groups : (a b : Database) (source : Query) (places : List ℕ) (gs : List Aggregate) (sides : Sides) → IsTyped source → HasArrays a source → HasArrays b source
    → ((s : Sides) → length s ≡ length (schema_of source).dimensions → AreAlikeFor a b source (needs source s) → if_whole (within (box_of s)) (meaning a source).rows ≡ if_whole (within (box_of s)) (meaning b source).rows)
    → AreAlikeFor a b source (needs source (of_aggregate (schema_of source).dimensions places sides))
    → if_whole (within (box_of sides)) (if_whole (aggregate_rows places gs) (meaning a source).rows) ≡ if_whole (within (box_of sides)) (if_whole (aggregate_rows places gs) (meaning b source).rows)
by_groups a b source (p ∷ places) gs sides t la lb ih h =
    let dims : List Dimension = (schema_of source).dimensions in
    alike_named dims p places gs sides (meaning a source).rows (meaning b source).rows (insides a source t la) (insides b source t lb) (ih (unless_nothing (has_empty sides) (named_sides (p ∷ places) sides 0 dims))
    (length-unless_nothing (has_empty sides) (named_sides (p ∷ places) sides 0 dims) ∙ length-named (p ∷ places) sides 0 dims) h)
by_groups a b source [] gs sides t la lb ih h = by_test (has_empty sides) refl h
  where
    dims : List Dimension
    dims = (schema_of source).dimensions

    by_test : (none : Bool) → has_empty sides ≡ none → AreAlikeFor a b source (needs source (unless_nothing none (whole (schema_of source).dimensions)))
        → if_whole (within (box_of sides)) (if_whole (aggregate_rows [] gs) (meaning a source).rows) ≡ if_whole (within (box_of sides)) (if_whole (aggregate_rows [] gs) (meaning b source).rows)
    by_test true e f =
        alike_empty gs sides (box_of (unless_nothing true (whole dims))) e (meaning a source).rows (meaning b source).rows
        (ih (unless_nothing true (whole dims)) (length-unless_nothing true (whole dims) ∙ length-map dims all_of) f)
    by_test false e f =
        alike_all dims gs (box_of sides) (meaning a source).rows (meaning b source).rows
        (same_source dims (meaning a source).rows (meaning b source).rows (insides a source t la) (insides b source t lb) (ih (whole dims) (length-map dims all_of) f))

-- ---- all operators

one_meaning : (a b : Meant) → a.schema ≡ b.schema → a.rows ≡ b.rows → a ≡ b
one_meaning a b e f = λ i. record { schema = e i; rows = f i }

-- what is made of a source of which all places are needed
whole_source : (a b : Database) (source : Query) → IsTyped source → HasArrays a source → HasArrays b source
    → if_whole (within (box_of (whole (schema_of source).dimensions))) (meaning a source).rows ≡ if_whole (within (box_of (whole (schema_of source).dimensions))) (meaning b source).rows
    → (f : Meant → Result (List Row) Broken) → f (meaning a source) ≡ f (meaning b source)
whole_source a b source t la lb h f =
    let rows : (meaning a source).rows ≡ (meaning b source).rows =
    same_source (schema_of source).dimensions (meaning a source).rows (meaning b source).rows (insides a source t la) (insides b source t lb) h in
    ap f (one_meaning (meaning a source) (meaning b source) (meaning_schema a source ∙ sym (meaning_schema b source)) rows)

-- an array that follows another one has as many dimensions
follow_lengths : (d e : List Dimension) → CanFollow d e → (length (lengthened d e) ≡ length d) × (length d ≡ length e)
follow_lengths [] e can = absurd can
follow_lengths (l ∷ d) [] can = absurd can
follow_lengths (l ∷ d) (r ∷ e) can = (refl, ap suc (bounds_lengths d e can.3))
  where
    bounds_lengths : (x y : List Dimension) → SameBounds x y → length x ≡ length y
    bounds_lengths [] [] f = refl
    bounds_lengths [] (b ∷ y) f = absurd f
    bounds_lengths (b ∷ x) [] f = absurd f
    bounds_lengths (b ∷ x) (c ∷ y) f = ap suc (bounds_lengths x y f.1)

alike : (a b : Database) (query : Query) → IsTyped query → HasArrays a query → HasArrays b query → (sides : Sides) → length sides ≡ length (schema_of query).dimensions
    → AreAlikeFor a b query (needs query sides) → if_whole (within (box_of sides)) (meaning a query).rows ≡ if_whole (within (box_of sides)) (meaning b query).rows
alike a b (built schema e) t la lb sides s h = refl
alike a b (listed schema rows) t la lb sides s h = refl
alike a b (scanned leaf) t la lb sides s h =
    ap (λ (rows : List Row). Ok rows) (scans_alike leaf.schema (box_of sides) (version_rows a leaf.name leaf.version) (version_rows b leaf.name leaf.version) la.0 lb.0 h.0)
alike a b (filtered source test) t la lb sides s h = alike_changed (box_of sides) (filter_cell test) (meaning a source).rows (meaning b source).rows (alike a b source t.0 la lb sides s h)
alike a b (applied source values) t la lb sides s h = alike_changed (box_of sides) (apply_cell values) (meaning a source).rows (meaning b source).rows (alike a b source t.0 la lb sides s h)
alike a b (projected source places) t la lb sides s h = alike_changed (box_of sides) (project_cell places) (meaning a source).rows (meaning b source).rows (alike a b source t.0 la lb sides s h)
alike a b (between source area) t la lb sides s h =
    let l = box_lengths (schema_of source) area t.1 in
    alike_between (schema_of source) sides area s t.1 (l.1 ∙ sym l.0) (meaning a source).rows (meaning b source).rows
    (alike a b source t.0 la lb (of_between area sides) (between_length (schema_of source) sides area s t.1) h)
alike a b (subarray source area) t la lb sides s h =
    let dims : List Dimension = (schema_of source).dimensions in
    let l = box_lengths (schema_of source) area t.1 in
    let many : length sides ≡ length dims = s ∙ length-part dims area.lo.items area.hi.items l.0 l.1 in
    let lows : length (map (λ (d : Dimension). d.lo) dims) ≡ length dims = length-map dims (λ d. d.lo) in
    let low : length (by_pairs int_max (map (λ (d : Dimension). d.lo) dims) area.lo.items) ≡ length dims = length-by_pairs int_max (map (λ (d : Dimension). d.lo) dims) area.lo.items (l.0 ∙ sym lows) ∙ lows in
    let long : length (of_subarray dims area sides) ≡ length dims = length-by_pairs lifted sides (by_pairs int_max (map (λ (d : Dimension). d.lo) dims) area.lo.items) (low ∙ sym many) ∙ many in
    alike_part (schema_of source) area sides (typed_valid source t.0) (meaning a source) (meaning b source) (meaning_schema a source) (meaning_schema b source) (alike a b source t.0 la lb (of_subarray dims area sides) long h)
alike a b (sliced source fixed) t la lb sides s h =
    let dims : List Dimension = (schema_of source).dimensions in
    alike_slice dims fixed sides (meaning a source).rows (meaning b source).rows (insides a source t.0 la) (insides b source t.0 lb) (alike a b source t.0 la lb (of_slice dims fixed sides) (length-slice dims fixed sides s) h)
alike a b (joined left right schema) t la lb sides s h =
    let parts = zip_parts (AreAlikeAt a b) (leaves left) (leaves right) (needs left sides) (needs right sides) (as_many left sides) h in
    let on_left : length sides ≡ length (schema_of left).dimensions =
    s ∙ ap (λ (x : Schema). length x.dimensions) t.3 ∙ side_dimensions (schema_of left).dimensions ((schema_of left).attributes ++ (schema_of right).attributes) in
    let on_right : length sides ≡ length (schema_of right).dimensions = on_left ∙ equal_lengths (schema_of left).dimensions (schema_of right).dimensions t.2 in
    alike_joined (box_of sides) (meaning a left).rows (meaning a right).rows (meaning b left).rows (meaning b right).rows
    (alike a b left t.0 (left_arrays a left right schema la) (left_arrays b left right schema lb) sides on_left parts.0)
    (alike a b right t.1 (right_arrays a left right schema la) (right_arrays b left right schema lb) sides on_right parts.1)
alike a b (crossed left right pairs schema) t la lb sides s h =
    let d : List Dimension = (schema_of left).dimensions in
    let e : List Dimension = (schema_of right).dimensions in
    let first = and_parts (are_below (length d) (left_places pairs) && are_apart (left_places pairs) && are_below (length e) (right_places pairs)) (are_apart (right_places pairs)) t.2 in
    let second = and_parts (are_below (length d) (left_places pairs) && are_apart (left_places pairs)) (are_below (length e) (right_places pairs)) first.0 in
    let low = (and_parts (are_below (length d) (left_places pairs)) (are_apart (left_places pairs)) second.0).0 in
    let both : length sides ≡ length (d ++ items_but (right_places pairs) 0 e) =
    s ∙ ap (λ (x : Schema). length x.dimensions) t.3 ∙ side_dimensions (d ++ items_but (right_places pairs) 0 e) ((schema_of left).attributes ++ (schema_of right).attributes) in
    let sum : length sides ≡ length d + length (items_but (right_places pairs) 0 e) = both ∙ length-append d (items_but (right_places pairs) 0 e) in
    let long : length d ≤ length sides = omega arith in
    let parts = zip_parts (AreAlikeAt a b) (leaves left) (leaves right) (needs left (of_left d sides)) (needs right (of_right d e pairs sides)) (as_many left (of_left d sides)) h in
    alike_crossed pairs d e sides low long (meaning a left).rows (meaning a right).rows (meaning b left).rows (meaning b right).rows
    (insides a left t.0 (left_arrays a left right schema la)) (insides a right t.1 (right_arrays a left right schema la))
    (insides b left t.0 (left_arrays b left right schema lb)) (insides b right t.1 (right_arrays b left right schema lb))
    (alike a b left t.0 (left_arrays a left right schema la) (left_arrays b left right schema lb) (of_left d sides) (length-left d sides long) parts.0)
    (alike a b right t.1 (right_arrays a left right schema la) (right_arrays b left right schema lb) (of_right d e pairs sides) (length-right pairs d e sides low sum) parts.1)
alike a b (redimensioned source schema gs) t la lb sides s h =
    whole_source a b source t.0 la lb (alike a b source t.0 la lb (whole (schema_of source).dimensions) (length-map (schema_of source).dimensions all_of) h)
    (λ m. if_whole (within (box_of sides)) (redimensioned_from schema gs m).rows)
alike a b (regridded source sizes gs) t la lb sides s h =
    let dims : List Dimension = (schema_of source).dimensions in
    let typed = and_parts (are_blocks_of (schema_of source) sizes) (are_aggregates_of (schema_of source).attributes gs) t.1 in
    let blocked = and_parts (length sizes == length dims) (list_all (λ size. nat_le 1 size) sizes) typed.0 in
    let len : length sizes ≡ length dims = eqb-true (length sizes) (length dims) blocked.0 in
    let some : length (by_pairs in_blocks dims sizes) ≡ length dims = length-by_pairs in_blocks dims sizes len in
    let many : length (by_pairs blocks dims sizes) ≡ length dims = length-by_pairs blocks dims sizes len in
    let long : length (of_regrid dims sizes sides) ≡ length dims =
    length-unless_nothing (has_empty sides) (by_pairs (λ (f : Stretch → Stretch) (x : Stretch). f x) (by_pairs blocks dims sizes) sides)
    ∙ length-by_pairs (λ (f : Stretch → Stretch) (x : Stretch). f x) (by_pairs blocks dims sizes) sides (s ∙ some ∙ sym many) ∙ many in
    alike_blocks (schema_of source) sizes gs sides (typed_valid source t.0) len blocked.1 (meaning a source) (meaning b source) (meaning_schema a source) (meaning_schema b source)
    (insides a source t.0 la) (insides b source t.0 lb) (alike a b source t.0 la lb (of_regrid dims sizes sides) long h)
alike a b (windowed source reach gs) t la lb sides s h =
    let dims : List Dimension = (schema_of source).dimensions in
    let typed = and_parts (are_windows_of (schema_of source) reach) (are_aggregates_of (schema_of source).attributes gs) t.1 in
    let first = and_parts ((length reach == length dims) && nat_le (window_size reach) 16777216) (nat_le (reached_size dims reach) 281474976710656) typed.0 in
    let second = and_parts (length reach == length dims) (nat_le (window_size reach) 16777216) first.0 in
    by_reach a b source reach gs sides t.0 (eqb-true (length reach) (length dims) second.0) la lb s (λ some e i. alike a b source t.0 la lb some e i) (is_scan source && are_near reach dims) refl h
alike a b (aggregated source gs places) t la lb sides s h = by_groups a b source places gs sides t.0 la lb (λ some e i. alike a b source t.0 la lb some e i) h
alike a b (sorted source keys schema) t la lb sides s h =
    whole_source a b source t.0 la lb (alike a b source t.0 la lb (whole (schema_of source).dimensions) (length-map (schema_of source).dimensions all_of) h)
    (λ m. if_whole (within (box_of sides)) (sorted_from keys schema m).rows)
alike a b (ranked source x places) t la lb sides s h =
    let dims : List Dimension = (schema_of source).dimensions in
    alike_rank dims x places sides s (meaning a source).rows (meaning b source).rows (insides a source t.0 la) (insides b source t.0 lb)
    (alike a b source t.0 la lb (of_rank dims places sides) (length-rank dims places sides s) h)
alike a b (cumulated source gs n) t la lb sides s h =
    let dims : List Dimension = (schema_of source).dimensions in
    alike_cumulate dims n gs sides s (meaning a source).rows (meaning b source).rows (insides a source t.0 la) (insides b source t.0 lb)
    (alike a b source t.0 la lb (of_cumulate dims n sides) (length-cumulate dims n sides s) h)
alike a b (transposed source) t la lb sides s h =
    let dims : List Dimension = (schema_of source).dimensions in
    alike_transposed dims sides (meaning a source).rows (meaning b source).rows (insides a source t.0 la) (insides b source t.0 lb)
    (alike a b source t.0 la lb (of_transpose sides) (length-reverse sides ∙ s ∙ length-reverse dims) h)
alike a b (reversed source) t la lb sides s h =
    let dims : List Dimension = (schema_of source).dimensions in
    alike_reversed (schema_of source) sides (near_slice (schema_of source) dims refl (typed_valid source t.0)) (meaning a source) (meaning b source) (meaning_schema a source) (meaning_schema b source)
    (insides a source t.0 la) (insides b source t.0 lb) (alike a b source t.0 la lb (of_reverse dims sides) (length-by_pairs opposites dims sides s) h)
alike a b (unpacked source schema) t la lb sides s h =
    whole_source a b source t.0 la lb (alike a b source t.0 la lb (whole (schema_of source).dimensions) (length-map (schema_of source).dimensions all_of) h)
    (λ m. if_whole (within (box_of sides)) (unpack_meant schema m).rows)
alike a b (xgridded source sizes) t la lb sides s h =
    let dims : List Dimension = (schema_of source).dimensions in
    let en = enlarging (schema_of source) sizes (typed_valid source t.0) t.1 in
    alike_xgridded (schema_of source) sizes sides (near_slice (schema_of source) dims refl (typed_valid source t.0)) en (meaning a source) (meaning b source) (meaning_schema a source) (meaning_schema b source)
    (insides a source t.0 la) (insides b source t.0 lb) (alike a b source t.0 la lb (of_xgrid dims sizes sides) (length-xgrid dims sizes sides en s) h)
alike a b (merged left right) t la lb sides s h =
    let parts = zip_parts (AreAlikeAt a b) (leaves left) (leaves right) (needs left sides) (needs right sides) (as_many left sides) h in
    let same : length (schema_of left).dimensions ≡ length (schema_of right).dimensions =
    equal_lengths (schema_of left).dimensions (schema_of right).dimensions (and_parts (same_bounds (schema_of left).dimensions (schema_of right).dimensions) (same_kinds (schema_of left).attributes (schema_of right).attributes) t.2).0 in
    alike_merged (box_of sides) (meaning a left).rows (meaning a right).rows (meaning b left).rows (meaning b right).rows
    (alike a b left t.0 (left_arrays a left right (schema_of left) la) (left_arrays b left right (schema_of left) lb) sides s parts.0)
    (alike a b right t.1 (right_arrays a left right (schema_of left) la) (right_arrays b left right (schema_of left) lb) sides (s ∙ same) parts.1)
alike a b (concatenated left right) t la lb sides s h =
    let d : List Dimension = (schema_of left).dimensions in
    let e : List Dimension = (schema_of right).dimensions in
    let lengths = follow_lengths d e (following (schema_of left) (schema_of right) (typed_valid left t.0) (typed_valid right t.1) t.2) in
    let parts = zip_parts (AreAlikeAt a b) (leaves left) (leaves right) (needs left (of_front d sides)) (needs right (of_behind d e sides)) (as_many left (of_front d sides)) h in
    alike_concat (schema_of left) (schema_of right) sides (near_slice (schema_of left) d refl (typed_valid left t.0)) (near_slice (schema_of right) e refl (typed_valid right t.1)) (meaning a left) (meaning a right) (meaning b left) (meaning b right)
    (meaning_schema a left) (meaning_schema a right) (meaning_schema b left) (meaning_schema b right)
    (insides a left t.0 (left_arrays a left right (schema_of left) la)) (insides a right t.1 (right_arrays a left right (schema_of left) la))
    (insides b left t.0 (left_arrays b left right (schema_of left) lb)) (insides b right t.1 (right_arrays b left right (schema_of left) lb))
    (alike a b left t.0 (left_arrays a left right (schema_of left) la) (left_arrays b left right (schema_of left) lb) (of_front d sides) (length-front d sides (s ∙ lengths.0)) parts.0)
    (alike a b right t.1 (right_arrays a left right (schema_of left) la) (right_arrays b left right (schema_of left) lb) (of_behind d e sides) (length-behind d e sides (s ∙ lengths.0 ∙ lengths.1)) parts.1)

pub needs_are_sufficient : NeedsAreSufficient
needs_are_sufficient a b query t la lb h =
    let dims : List Dimension = (schema_of query).dimensions in
    let area : Bounds = bounds_of dims in
    let high : length area.hi.items ≡ length area.lo.items = length-map dims (λ d. d.hi) ∙ sym (length-map dims (λ d. d.lo)) in
    let many : length (sides_of area) ≡ length dims = length-by_pairs stretch area.lo.items area.hi.items high ∙ length-map dims (λ d. d.lo) in
    let boxed : if_whole (within area) (meaning a query).rows ≡ if_whole (within area) (meaning b query).rows =
    subst (λ (x : Bounds). if_whole (within x) (meaning a query).rows ≡ if_whole (within x) (meaning b query).rows) (box_of_sides area high) (alike a b query t la lb (sides_of area) many h) in
    one_meaning (meaning a query) (meaning b query) (meaning_schema a query ∙ sym (meaning_schema b query))
    (alike_whole area (meaning a query).rows (meaning b query).rows (insides a query t la) (insides b query t lb) boxed)
