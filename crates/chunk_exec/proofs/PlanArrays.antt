-- Typed plans mean arrays.
use Rattle.std.proofs.Common.{◌≡◌, ℕ, IsTrue, List, [], ◌∷◌, ◌++◌, length, refl, sym, subst}
use Rattle.std.specs.List.{AllByRecursion}
use Rattle.std.specs.Prelude.{nat_lt, IfOk}
use Rattle.cell_values.specs.declared.schema.Bounds.{Bounds}
use Rattle.cell_values.specs.declared.schema.Schema.{Schema}
use Rattle.cell_values.specs.Schemas.{IsValid}
use Rattle.array_geom.proofs.TestLaws.{and_parts}
use Rattle.array_rows.specs.Arrays.{AreRowsOf, Meant}
use Rattle.array_rows.specs.Boxes.{by_pairs, within, meet, bounds_of}
use Rattle.logical_plan.specs.declared.parts.Aggregate.{Aggregate}
use Rattle.logical_plan.specs.declared.parts.Leaf.{Leaf}
use Rattle.logical_plan.specs.BoxOps.{subarray_rows, slice_rows}
use Rattle.logical_plan.specs.CellOps.{filter_rows, apply_rows, project_rows}
use Rattle.logical_plan.specs.Faults.{if_whole, and_then}
use Rattle.logical_plan.specs.Groups.{aggregate_rows, regrid_rows, window_rows}
use Rattle.logical_plan.specs.Joins.{join_rows, cross_rows}
use Rattle.logical_plan.specs.Leaves.{leaves}
use Rattle.logical_plan.specs.Meaning.{Database, meaning, version_rows}
use Rattle.logical_plan.specs.PlanSchema.{schema_of, subarray_schema, regrid_schema, in_blocks, group_dimensions}
use Rattle.logical_plan.specs.Query.{Query, built, listed, scanned, filtered, applied, projected, between, subarray, sliced, joined, crossed, redimensioned, regridded, windowed, aggregated}
use Rattle.logical_plan.specs.Query.{sorted, ranked, cumulated, transposed, reversed, unpacked, xgridded, merged, concatenated}
use Rattle.logical_plan.specs.Redimension.{redimension_rows}
use Rattle.logical_plan.specs.Typing.{IsTyped, are_blocks_of, are_windows_of, are_aggregates_of, are_below, redimensions}
use Rattle.logical_plan.proofs.ArrayLaws.{HasLeaves, typed_arrays}
use Rattle.logical_plan.proofs.SchemaLaws.{meaning_schema}
use Rattle.exec_box.proofs.PartLaws.{subarrays_are_arrays}
use Rattle.exec_box.proofs.SliceLaws.{slices_are_arrays}
use Rattle.exec_join.proofs.ArraysCrossLaws.{cross_are_rows}
use Rattle.exec_join.proofs.SideLaws.{join_are_rows}
use Rattle.chunk_exec.specs.Counts.{CanCount, CountsFit}
use Rattle.chunk_exec.proofs.GroupedRows.{counted, aggregated_array, regridded_array, windowed_array}
use Rattle.chunk_exec.proofs.KeptPlaces.{whole_follows, both_follow, filtered_array, applied_array, projected_array, boxed_array}
use Rattle.chunk_exec.proofs.OrderedArrays.{cumulated_array, ranked_array, sorted_array}
use Rattle.chunk_exec.proofs.RedimensionedRows.{redimensioned_array}
use Rattle.chunk_exec.proofs.ShapedArrays.{concatenated_array, merged_array, reversed_array, transposed_array, unpacked_array, xgridded_array}

-- ---- leaves of two sources

-- a leaf stands for an array of its schema
abbrev IsLeaf : Database → Leaf → Type 0
IsLeaf db leaf = AreRowsOf leaf.schema (version_rows db leaf.name leaf.version)

left_leaves : (P : Leaf → Type 0) (xs ys : List Leaf) → AllByRecursion P (xs ++ ys) → AllByRecursion P xs
left_leaves P [] ys h = tt
left_leaves P (x ∷ xs) ys h = (h.0, left_leaves P xs ys h.1)

right_leaves : (P : Leaf → Type 0) (xs ys : List Leaf) → AllByRecursion P (xs ++ ys) → AllByRecursion P ys
right_leaves P [] ys h = h
right_leaves P (x ∷ xs) ys h = right_leaves P xs ys h.1

-- ---- sources whose meaning has their schema

subarray_of : (area : Bounds) (schema : Schema) → IsValid (subarray_schema area schema) → (m : Meant) → m.schema ≡ schema → IfOk m.rows (AreRowsOf schema)
    → IfOk (if_whole (subarray_rows (meet (bounds_of m.schema.dimensions) area)) m.rows) (AreRowsOf (subarray_schema area schema))
subarray_of area schema valid m same is =
    subst (λ (s : Schema). IfOk (if_whole (subarray_rows (meet (bounds_of s.dimensions) area)) m.rows) (AreRowsOf (subarray_schema area schema))) (sym same)
    (whole_follows (AreRowsOf schema) (AreRowsOf (subarray_schema area schema)) (subarray_rows (meet (bounds_of schema.dimensions) area)) (λ rows are. subarrays_are_arrays area schema rows are valid) m.rows is)

regrid_of : (sizes : List ℕ) (gs : List Aggregate) (schema : Schema) → IsValid (regrid_schema sizes gs schema) → IsTrue (are_aggregates_of schema.attributes gs) → (m : Meant) → m.schema ≡ schema → IfOk m.rows (AreRowsOf schema) → CanCount gs m.rows
    → IfOk (if_whole (regrid_rows (bounds_of m.schema.dimensions).lo.items sizes gs) m.rows) (AreRowsOf (regrid_schema sizes gs schema))
regrid_of sizes gs schema valid typed m same is few =
    subst (λ (s : Schema). IfOk (if_whole (regrid_rows (bounds_of s.dimensions).lo.items sizes gs) m.rows) (AreRowsOf (regrid_schema sizes gs schema))) (sym same)
    (counted schema gs (by_pairs in_blocks schema.dimensions sizes) (regrid_rows (bounds_of schema.dimensions).lo.items sizes gs) valid (regridded_array schema sizes gs valid typed) m.rows is few)

redimension_of : (schema target : Schema) (gs : List Aggregate) → IsValid target → IsTrue (redimensions schema target gs) → (m : Meant) → m.schema ≡ schema → IfOk m.rows (AreRowsOf schema) → CanCount gs m.rows
    → IfOk (and_then (redimension_rows m.schema target gs) m.rows) (AreRowsOf target)
redimension_of schema target gs valid typed m same is few =
    subst (λ (s : Schema). IfOk (and_then (redimension_rows s target gs) m.rows) (AreRowsOf target)) (sym same) (redimensioned_array schema target gs valid typed m.rows is few)

-- ---- all operators

pub plan_arrays : (db : Database) (query : Query) → IsTyped query → HasLeaves db (leaves query) → CountsFit db query → IfOk (meaning db query).rows (AreRowsOf (schema_of query))
plan_arrays db (built schema e) t l f = typed_arrays db (built schema e) refl t l
plan_arrays db (listed schema rows) t l f = t.1
plan_arrays db (scanned leaf) t l f = l.0
plan_arrays db (filtered source test) t l f =
    whole_follows (AreRowsOf (schema_of source)) (AreRowsOf (schema_of source)) (filter_rows test) (filtered_array (schema_of source) test t.1) (meaning db source).rows (plan_arrays db source t.0 l f)
plan_arrays db (applied source values) t l f =
    whole_follows (AreRowsOf (schema_of source)) (AreRowsOf (schema_of (applied source values))) (apply_rows values) (applied_array (schema_of source) values t.1 t.2) (meaning db source).rows (plan_arrays db source t.0 l f)
plan_arrays db (projected source places) t l f =
    whole_follows (AreRowsOf (schema_of source)) (AreRowsOf (schema_of (projected source places))) (project_rows places) (projected_array (schema_of source) places t.1 t.2) (meaning db source).rows (plan_arrays db source t.0 l f)
plan_arrays db (between source area) t l f =
    whole_follows (AreRowsOf (schema_of source)) (AreRowsOf (schema_of source)) (within area) (boxed_array (schema_of source) area t.1) (meaning db source).rows (plan_arrays db source t.0 l f)
plan_arrays db (subarray source area) t l f = subarray_of area (schema_of source) t.2 (meaning db source) (meaning_schema db source) (plan_arrays db source t.0 l f)
plan_arrays db (sliced source fixed) t l f =
    whole_follows (AreRowsOf (schema_of source)) (AreRowsOf (schema_of (sliced source fixed))) (slice_rows fixed) (λ rows are. slices_are_arrays fixed (schema_of source) rows are t.2) (meaning db source).rows (plan_arrays db source t.0 l f)
plan_arrays db (joined left right schema) t l f =
    let of_left = plan_arrays db left t.0 (left_leaves (IsLeaf db) (leaves left) (leaves right) l) f.0 in
    let of_right = plan_arrays db right t.1 (right_leaves (IsLeaf db) (leaves left) (leaves right) l) f.1 in
    both_follow (AreRowsOf (schema_of left)) (AreRowsOf (schema_of right)) (AreRowsOf schema) join_rows (λ ls rs a b. join_are_rows (schema_of left) (schema_of right) schema ls rs a b t.3 t.4) (meaning db left).rows (meaning db right).rows of_left of_right
plan_arrays db (crossed left right pairs schema) t l f =
    let of_left = plan_arrays db left t.0 (left_leaves (IsLeaf db) (leaves left) (leaves right) l) f.0 in
    let of_right = plan_arrays db right t.1 (right_leaves (IsLeaf db) (leaves left) (leaves right) l) f.1 in
    both_follow (AreRowsOf (schema_of left)) (AreRowsOf (schema_of right)) (AreRowsOf schema) (cross_rows pairs) (λ ls rs a b. cross_are_rows pairs (schema_of left) (schema_of right) schema ls rs a b t.3 t.4) (meaning db left).rows (meaning db right).rows of_left of_right
plan_arrays db (redimensioned source schema gs) t l f = redimension_of (schema_of source) schema gs t.2 t.1 (meaning db source) (meaning_schema db source) (plan_arrays db source t.0 l f.0) f.1
plan_arrays db (regridded source sizes gs) t l f =
    let typed = and_parts (are_blocks_of (schema_of source) sizes) (are_aggregates_of (schema_of source).attributes gs) t.1 in
    regrid_of sizes gs (schema_of source) t.2 typed.1 (meaning db source) (meaning_schema db source) (plan_arrays db source t.0 l f.0) f.1
plan_arrays db (windowed source reach gs) t l f =
    let typed = and_parts (are_windows_of (schema_of source) reach) (are_aggregates_of (schema_of source).attributes gs) t.1 in
    counted (schema_of source) gs (schema_of source).dimensions (window_rows reach gs) t.2 (windowed_array (schema_of source) reach gs t.2 typed.1) (meaning db source).rows (plan_arrays db source t.0 l f.0) f.1
plan_arrays db (aggregated source gs places) t l f =
    let typed = and_parts (are_below (length (schema_of source).dimensions) places) (are_aggregates_of (schema_of source).attributes gs) t.1 in
    counted (schema_of source) gs (group_dimensions places (schema_of source).dimensions) (aggregate_rows places gs) t.2 (aggregated_array (schema_of source) gs places t.2 typed.0 typed.1) (meaning db source).rows (plan_arrays db source t.0 l f.0) f.1
plan_arrays db (sorted source keys schema) t l f = sorted_array (schema_of source) schema keys t.2 t.3 (meaning db source).rows (plan_arrays db source t.0 l f)
plan_arrays db (ranked source x dims) t l f = ranked_array (schema_of source) x dims t.1 t.2 (meaning db source).rows (plan_arrays db source t.0 l f.0) f.1
plan_arrays db (cumulated source gs n) t l f =
    let typed = and_parts (are_aggregates_of (schema_of source).attributes gs) (nat_lt n (length (schema_of source).dimensions)) t.1 in
    cumulated_array (schema_of source) gs n typed.0 t.2 (meaning db source).rows (plan_arrays db source t.0 l f.0) f.1
plan_arrays db (transposed source) t l f = transposed_array (schema_of source) t.1 (meaning db source).rows (plan_arrays db source t.0 l f)
plan_arrays db (reversed source) t l f = reversed_array (schema_of source) (meaning db source) (meaning_schema db source) (plan_arrays db source t.0 l f)
plan_arrays db (unpacked source schema) t l f = unpacked_array (schema_of source) schema t.1 t.2 (meaning db source).rows (plan_arrays db source t.0 l f)
plan_arrays db (xgridded source sizes) t l f = xgridded_array (schema_of source) sizes t.1 t.2 (meaning db source) (meaning_schema db source) (plan_arrays db source t.0 l f)
plan_arrays db (merged left right) t l f =
    let of_left = plan_arrays db left t.0 (left_leaves (IsLeaf db) (leaves left) (leaves right) l) f.0 in
    let of_right = plan_arrays db right t.1 (right_leaves (IsLeaf db) (leaves left) (leaves right) l) f.1 in
    merged_array (schema_of left) (schema_of right) t.2 t.3 (meaning db left).rows (meaning db right).rows of_left of_right
plan_arrays db (concatenated left right) t l f =
    let of_left = plan_arrays db left t.0 (left_leaves (IsLeaf db) (leaves left) (leaves right) l) f.0 in
    let of_right = plan_arrays db right t.1 (right_leaves (IsLeaf db) (leaves left) (leaves right) l) f.1 in
    concatenated_array (schema_of left) (schema_of right) t.2 t.3 (meaning db left) (meaning db right) (meaning_schema db left) (meaning_schema db right) of_left of_right
