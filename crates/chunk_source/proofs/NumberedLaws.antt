-- Numbered plans have the leaves, the types and the needs of plans, and mean the same.
use Rattle.std.proofs.Common.{◌≡◌, ℕ, ◌+◌, suc, Bool, List, [], ◌∷◌, ◌++◌, length, refl, sym, ap, ◌∙◌, subst, arith}
use Rattle.std.specs.Prelude.{◌&&◌, IsTrue}
use Rattle.cell_values.specs.declared.datum.Row.{Row}
use Rattle.cell_values.specs.declared.schema.Bounds.{Bounds}
use Rattle.cell_values.specs.declared.schema.Kind.TheVariants.{Bool as Truths}
use Rattle.cell_values.specs.declared.schema.Schema.{Schema}
use Rattle.cell_values.specs.Schemas.{IsValid}
use Rattle.array_rows.specs.Boxes.{bounds_of, meet, within}
use Rattle.logical_plan.specs.declared.parts.Leaf.{Leaf}
use Rattle.logical_plan.specs.BoxOps.{fixed_places, slice_rows, subarray_rows}
use Rattle.logical_plan.specs.CellOps.{apply_rows, filter_rows, project_rows}
use Rattle.logical_plan.specs.Groups.{aggregate_rows, regrid_rows, window_rows}
use Rattle.logical_plan.specs.Joins.{cross_rows, join_rows}
use Rattle.logical_plan.specs.Leaves.{leaves}
use Rattle.logical_plan.specs.Meaning.{Database, made, made_of_two, meaning, redimensioned_from, sorted_from, version_rows, whole}
use Rattle.logical_plan.specs.Ordered.{cumulate_rows, rank_rows}
use Rattle.logical_plan.specs.PlanSchema.{aggregate_schema, apply_schema, cross_schema, cumulate_schema, join_schema, project_schema, rank_schema, regrid_schema, schema_of, slice_schema, sort_schema, subarray_schema, window_schema}
use Rattle.logical_plan.specs.Query.{Query, built, listed, scanned, filtered, applied, projected, between, subarray}
use Rattle.logical_plan.specs.Query.{sliced, joined, crossed, redimensioned, regridded, windowed, aggregated}
use Rattle.logical_plan.specs.Query.{sorted, ranked, cumulated, transposed, reversed, unpacked, xgridded, merged, concatenated}
use Rattle.logical_plan.specs.ShapeMeant.{concat_meant, merge_meant, reverse_meant, transpose_meant, unpack_meant, xgrid_meant}
use Rattle.logical_plan.specs.ShapeSchemas.{concat_schema, merge_schema, transpose_schema, unpack_schema, xgrid_schema}
use Rattle.logical_plan.specs.Typing.{IsTyped, are_aggregates_of, are_apart, are_below, are_blocks_of, are_bounded, are_keys_of, are_windows_of, concatenates, cumulates, enlarges, first_name, fits_apply, is_box_of, is_over, merges, pairs_dimensions, ranks, redimensions, same_bounds}
use Rattle.plan_needs.specs.Needs.{is_scan, needs}
use Rattle.plan_needs.specs.OrderSides.{of_cumulate, of_rank}
use Rattle.plan_needs.specs.ShapeSides.{of_behind, of_front, of_reverse, of_transpose, of_xgrid}
use Rattle.plan_needs.specs.Sides.{Sides, of_aggregate, of_between, of_left, of_regrid, of_right, of_slice, of_subarray, of_window, whole as all_places}
use Rattle.chunk_source.specs.NumberLaws.{NumberedPlansMeanTheSame}
use Rattle.chunk_source.specs.Numbered.{HoldsAll, numbered, numbered_leaf, rows_of_leaves}

-- ---- leaves

abbrev pub numbered_leaves : ℕ → List Leaf → List Leaf
numbered_leaves n [] = []
numbered_leaves n (leaf ∷ all) = numbered_leaf n leaf ∷ numbered_leaves (n + 1) all

pub numbered_both : (n : ℕ) (left right : List Leaf) → numbered_leaves n (left ++ right) ≡ numbered_leaves n left ++ numbered_leaves (n + length left) right
numbered_both n [] right = let e : n ≡ n + 0 = omega arith in ap (λ m. numbered_leaves m right) e
numbered_both n (leaf ∷ left) right =
    let e : n + 1 + length left ≡ n + suc (length left) = omega arith in
    ap (λ (z : List Leaf). numbered_leaf n leaf ∷ z) (numbered_both (n + 1) left right)
    ∙ ap (λ m. numbered_leaf n leaf ∷ (numbered_leaves (n + 1) left ++ numbered_leaves m right)) e

of_two : {A B C : Type 0} (f : A → B → C) (a a' : A) (b b' : B) → a ≡ a' → b ≡ b' → f a b ≡ f a' b'
of_two f a a' b b' p q = ap (λ x. f x b) p ∙ ap (f a') q

pub same_leaves : (n : ℕ) (query : Query) → leaves (numbered n query) ≡ numbered_leaves n (leaves query)
same_leaves n (built schema e) = refl
same_leaves n (listed schema rows) = refl
same_leaves n (scanned leaf) = refl
same_leaves n (filtered source test) = same_leaves n source
same_leaves n (applied source values) = same_leaves n source
same_leaves n (projected source places) = same_leaves n source
same_leaves n (between source area) = same_leaves n source
same_leaves n (subarray source area) = same_leaves n source
same_leaves n (sliced source fixed) = same_leaves n source
same_leaves n (joined left right schema) =
    of_two (λ (x y : List Leaf). x ++ y) (leaves (numbered n left)) (numbered_leaves n (leaves left)) (leaves (numbered (n + length (leaves left)) right)) (numbered_leaves (n + length (leaves left)) (leaves right))
    (same_leaves n left) (same_leaves (n + length (leaves left)) right)
    ∙ sym (numbered_both n (leaves left) (leaves right))
same_leaves n (crossed left right pairs schema) =
    of_two (λ (x y : List Leaf). x ++ y) (leaves (numbered n left)) (numbered_leaves n (leaves left)) (leaves (numbered (n + length (leaves left)) right)) (numbered_leaves (n + length (leaves left)) (leaves right))
    (same_leaves n left) (same_leaves (n + length (leaves left)) right)
    ∙ sym (numbered_both n (leaves left) (leaves right))
same_leaves n (redimensioned source schema gs) = same_leaves n source
same_leaves n (regridded source sizes gs) = same_leaves n source
same_leaves n (windowed source reach gs) = same_leaves n source
same_leaves n (aggregated source gs places) = same_leaves n source
same_leaves n (sorted source keys schema) = same_leaves n source
same_leaves n (ranked source x dims) = same_leaves n source
same_leaves n (cumulated source gs d) = same_leaves n source
same_leaves n (transposed source) = same_leaves n source
same_leaves n (reversed source) = same_leaves n source
same_leaves n (unpacked source schema) = same_leaves n source
same_leaves n (xgridded source sizes) = same_leaves n source
same_leaves n (merged left right) =
    of_two (λ (x y : List Leaf). x ++ y) (leaves (numbered n left)) (numbered_leaves n (leaves left)) (leaves (numbered (n + length (leaves left)) right)) (numbered_leaves (n + length (leaves left)) (leaves right))
    (same_leaves n left) (same_leaves (n + length (leaves left)) right)
    ∙ sym (numbered_both n (leaves left) (leaves right))
same_leaves n (concatenated left right) =
    of_two (λ (x y : List Leaf). x ++ y) (leaves (numbered n left)) (numbered_leaves n (leaves left)) (leaves (numbered (n + length (leaves left)) right)) (numbered_leaves (n + length (leaves left)) (leaves right))
    (same_leaves n left) (same_leaves (n + length (leaves left)) right)
    ∙ sym (numbered_both n (leaves left) (leaves right))

-- ---- schemas and needs

pub same_schema : (n : ℕ) (query : Query) → schema_of (numbered n query) ≡ schema_of query
same_schema n (built schema e) = refl
same_schema n (listed schema rows) = refl
same_schema n (scanned leaf) = refl
same_schema n (filtered source test) = same_schema n source
same_schema n (applied source values) = ap (apply_schema values) (same_schema n source)
same_schema n (projected source places) = ap (project_schema places) (same_schema n source)
same_schema n (between source area) = same_schema n source
same_schema n (subarray source area) = ap (subarray_schema area) (same_schema n source)
same_schema n (sliced source fixed) = ap (slice_schema fixed) (same_schema n source)
same_schema n (joined left right schema) = refl
same_schema n (crossed left right pairs schema) = refl
same_schema n (redimensioned source schema gs) = refl
same_schema n (regridded source sizes gs) = ap (regrid_schema sizes gs) (same_schema n source)
same_schema n (windowed source reach gs) = ap (window_schema gs) (same_schema n source)
same_schema n (aggregated source gs places) = ap (aggregate_schema gs places) (same_schema n source)
same_schema n (sorted source keys schema) = refl
same_schema n (ranked source x dims) = ap (rank_schema x) (same_schema n source)
same_schema n (cumulated source gs d) = ap (cumulate_schema gs) (same_schema n source)
same_schema n (transposed source) = ap transpose_schema (same_schema n source)
same_schema n (reversed source) = same_schema n source
same_schema n (unpacked source schema) = refl
same_schema n (xgridded source sizes) = ap (xgrid_schema sizes) (same_schema n source)
same_schema n (merged left right) =
    of_two merge_schema (schema_of (numbered n left)) (schema_of left) (schema_of (numbered (n + length (leaves left)) right)) (schema_of right) (same_schema n left) (same_schema (n + length (leaves left)) right)
same_schema n (concatenated left right) =
    of_two concat_schema (schema_of (numbered n left)) (schema_of left) (schema_of (numbered (n + length (leaves left)) right)) (schema_of right) (same_schema n left) (same_schema (n + length (leaves left)) right)

same_scan : (n : ℕ) (query : Query) → is_scan (numbered n query) ≡ is_scan query
same_scan n (scanned leaf) = refl
same_scan n (filtered source test) = same_scan n source
same_scan n (applied source values) = same_scan n source
same_scan n (projected source places) = same_scan n source
same_scan n (between source area) = same_scan n source
same_scan n (built schema e) = refl
same_scan n (listed schema rows) = refl
same_scan n (subarray source area) = refl
same_scan n (sliced source fixed) = refl
same_scan n (joined left right schema) = refl
same_scan n (crossed left right pairs schema) = refl
same_scan n (redimensioned source schema gs) = refl
same_scan n (regridded source sizes gs) = refl
same_scan n (windowed source reach gs) = refl
same_scan n (aggregated source gs places) = refl
same_scan n (sorted source keys schema) = refl
same_scan n (ranked source x dims) = refl
same_scan n (cumulated source gs d) = refl
same_scan n (transposed source) = refl
same_scan n (reversed source) = refl
same_scan n (unpacked source schema) = refl
same_scan n (xgridded source sizes) = refl
same_scan n (merged left right) = refl
same_scan n (concatenated left right) = refl

pub same_needs : (n : ℕ) (query : Query) (sides : Sides) → needs (numbered n query) sides ≡ needs query sides
same_needs n (built schema e) sides = refl
same_needs n (listed schema rows) sides = refl
same_needs n (scanned leaf) sides = refl
same_needs n (filtered source test) sides = same_needs n source sides
same_needs n (applied source values) sides = same_needs n source sides
same_needs n (projected source places) sides = same_needs n source sides
same_needs n (between source area) sides = same_needs n source (of_between area sides)
same_needs n (subarray source area) sides =
    ap (λ (s : Schema). needs (numbered n source) (of_subarray s.dimensions area sides)) (same_schema n source) ∙ same_needs n source (of_subarray (schema_of source).dimensions area sides)
same_needs n (sliced source fixed) sides =
    ap (λ (s : Schema). needs (numbered n source) (of_slice s.dimensions fixed sides)) (same_schema n source) ∙ same_needs n source (of_slice (schema_of source).dimensions fixed sides)
same_needs n (joined left right schema) sides =
    of_two (λ (x y : List Bounds). x ++ y) (needs (numbered n left) sides) (needs left sides) (needs (numbered (n + length (leaves left)) right) sides) (needs right sides)
    (same_needs n left sides) (same_needs (n + length (leaves left)) right sides)
same_needs n (crossed left right pairs schema) sides =
    let m = n + length (leaves left) in
    let ls : Sides = of_left (schema_of left).dimensions sides in
    let rs : Sides = of_right (schema_of left).dimensions (schema_of right).dimensions pairs sides in
    of_two (λ (x y : List Bounds). x ++ y) (needs (numbered n left) (of_left (schema_of (numbered n left)).dimensions sides)) (needs left ls)
    (needs (numbered m right) (of_right (schema_of (numbered n left)).dimensions (schema_of (numbered m right)).dimensions pairs sides)) (needs right rs)
    (ap (λ (s : Schema). needs (numbered n left) (of_left s.dimensions sides)) (same_schema n left) ∙ same_needs n left ls)
    (of_two (λ (s t : Schema). needs (numbered m right) (of_right s.dimensions t.dimensions pairs sides)) (schema_of (numbered n left)) (schema_of left) (schema_of (numbered m right)) (schema_of right) (same_schema n left) (same_schema m right)
    ∙ same_needs m right rs)
same_needs n (redimensioned source schema gs) sides =
    ap (λ (s : Schema). needs (numbered n source) (all_places s.dimensions)) (same_schema n source) ∙ same_needs n source (all_places (schema_of source).dimensions)
same_needs n (regridded source sizes gs) sides =
    ap (λ (s : Schema). needs (numbered n source) (of_regrid s.dimensions sizes sides)) (same_schema n source) ∙ same_needs n source (of_regrid (schema_of source).dimensions sizes sides)
same_needs n (windowed source reach gs) sides =
    of_two (λ (b : Bool) (s : Schema). needs (numbered n source) (of_window b s.dimensions reach sides)) (is_scan (numbered n source)) (is_scan source) (schema_of (numbered n source)) (schema_of source) (same_scan n source) (same_schema n source)
    ∙ same_needs n source (of_window (is_scan source) (schema_of source).dimensions reach sides)
same_needs n (aggregated source gs places) sides =
    ap (λ (s : Schema). needs (numbered n source) (of_aggregate s.dimensions places sides)) (same_schema n source) ∙ same_needs n source (of_aggregate (schema_of source).dimensions places sides)
same_needs n (sorted source keys schema) sides =
    ap (λ (s : Schema). needs (numbered n source) (all_places s.dimensions)) (same_schema n source) ∙ same_needs n source (all_places (schema_of source).dimensions)
same_needs n (ranked source x dims) sides =
    ap (λ (s : Schema). needs (numbered n source) (of_rank s.dimensions dims sides)) (same_schema n source) ∙ same_needs n source (of_rank (schema_of source).dimensions dims sides)
same_needs n (cumulated source gs d) sides =
    ap (λ (s : Schema). needs (numbered n source) (of_cumulate s.dimensions d sides)) (same_schema n source) ∙ same_needs n source (of_cumulate (schema_of source).dimensions d sides)
same_needs n (transposed source) sides = same_needs n source (of_transpose sides)
same_needs n (reversed source) sides =
    ap (λ (s : Schema). needs (numbered n source) (of_reverse s.dimensions sides)) (same_schema n source) ∙ same_needs n source (of_reverse (schema_of source).dimensions sides)
same_needs n (unpacked source schema) sides =
    ap (λ (s : Schema). needs (numbered n source) (all_places s.dimensions)) (same_schema n source) ∙ same_needs n source (all_places (schema_of source).dimensions)
same_needs n (xgridded source sizes) sides =
    ap (λ (s : Schema). needs (numbered n source) (of_xgrid s.dimensions sizes sides)) (same_schema n source) ∙ same_needs n source (of_xgrid (schema_of source).dimensions sizes sides)
same_needs n (merged left right) sides =
    of_two (λ (x y : List Bounds). x ++ y) (needs (numbered n left) sides) (needs left sides) (needs (numbered (n + length (leaves left)) right) sides) (needs right sides)
    (same_needs n left sides) (same_needs (n + length (leaves left)) right sides)
same_needs n (concatenated left right) sides =
    let m = n + length (leaves left) in
    let ls : Sides = of_front (schema_of left).dimensions sides in
    let rs : Sides = of_behind (schema_of left).dimensions (schema_of right).dimensions sides in
    of_two (λ (x y : List Bounds). x ++ y) (needs (numbered n left) (of_front (schema_of (numbered n left)).dimensions sides)) (needs left ls)
    (needs (numbered m right) (of_behind (schema_of (numbered n left)).dimensions (schema_of (numbered m right)).dimensions sides)) (needs right rs)
    (ap (λ (s : Schema). needs (numbered n left) (of_front s.dimensions sides)) (same_schema n left) ∙ same_needs n left ls)
    (of_two (λ (s t : Schema). needs (numbered m right) (of_behind s.dimensions t.dimensions sides)) (schema_of (numbered n left)) (schema_of left) (schema_of (numbered m right)) (schema_of right) (same_schema n left) (same_schema m right)
    ∙ same_needs m right rs)

-- ---- types

-- a rule of an operator that its source's schema meets, or those of both sources
of_source : (n : ℕ) (source : Query) (rule : Schema → Type 0) → rule (schema_of source) → rule (schema_of (numbered n source))
of_source n source rule holds = subst rule (sym (same_schema n source)) holds

of_sources : (n m : ℕ) (left right : Query) (rule : Schema → Schema → Type 0) → rule (schema_of left) (schema_of right) → rule (schema_of (numbered n left)) (schema_of (numbered m right))
of_sources n m left right rule holds = of_source n left (λ s. rule s (schema_of (numbered m right))) (of_source m right (rule (schema_of left)) holds)

pub typed : (n : ℕ) (query : Query) → IsTyped query → IsTyped (numbered n query)
typed n (built schema e) t = t
typed n (listed schema rows) t = t
typed n (scanned leaf) t = t
typed n (filtered source test) t = (typed n source t.0, of_source n source (λ s. IsTrue (is_over s Truths test)) t.1)
typed n (applied source values) t =
    (typed n source t.0, of_source n source (λ s. IsTrue (fits_apply s values)) t.1, of_source n source (λ s. IsValid (apply_schema values s)) t.2)
typed n (projected source places) t =
    (typed n source t.0, of_source n source (λ s. IsTrue (are_below (length s.attributes) places)) t.1, of_source n source (λ s. IsValid (project_schema places s)) t.2)
typed n (between source area) t = (typed n source t.0, of_source n source (λ s. IsTrue (is_box_of s area)) t.1)
typed n (subarray source area) t =
    (typed n source t.0, of_source n source (λ s. IsTrue (is_box_of s area)) t.1, of_source n source (λ s. IsValid (subarray_schema area s)) t.2)
typed n (sliced source fixed) t =
    (typed n source t.0, of_source n source (λ s. IsTrue (are_below (length s.dimensions) (fixed_places fixed) && are_apart (fixed_places fixed))) t.1, of_source n source (λ s. IsValid (slice_schema fixed s)) t.2)
typed n (joined left right schema) t =
    let m = n + length (leaves left) in
    (typed n left t.0, typed m right t.1, of_sources n m left right (λ l r. IsTrue (same_bounds l.dimensions r.dimensions)) t.2, of_sources n m left right (λ l r. schema ≡ join_schema l r) t.3, t.4)
typed n (crossed left right pairs schema) t =
    let m = n + length (leaves left) in
    (typed n left t.0, typed m right t.1, of_sources n m left right (λ l r. IsTrue (pairs_dimensions pairs l r)) t.2, of_sources n m left right (λ l r. schema ≡ cross_schema pairs l r) t.3, t.4)
typed n (redimensioned source schema gs) t = (typed n source t.0, of_source n source (λ s. IsTrue (redimensions s schema gs)) t.1, t.2)
typed n (regridded source sizes gs) t =
    (typed n source t.0, of_source n source (λ s. IsTrue (are_blocks_of s sizes && are_aggregates_of s.attributes gs)) t.1, of_source n source (λ s. IsValid (regrid_schema sizes gs s)) t.2)
typed n (windowed source reach gs) t =
    (typed n source t.0, of_source n source (λ s. IsTrue (are_windows_of s reach && are_aggregates_of s.attributes gs)) t.1, of_source n source (λ s. IsValid (window_schema gs s)) t.2)
typed n (aggregated source gs places) t =
    (typed n source t.0, of_source n source (λ s. IsTrue (are_below (length s.dimensions) places && are_aggregates_of s.attributes gs)) t.1, of_source n source (λ s. IsValid (aggregate_schema gs places s)) t.2)
typed n (sorted source keys schema) t =
    (typed n source t.0, of_source n source (λ s. IsTrue (are_keys_of s.attributes keys)) t.1, of_source n source (λ s. schema ≡ sort_schema s) t.2, t.3)
typed n (ranked source x dims) t = (typed n source t.0, of_source n source (λ s. IsTrue (ranks s x dims)) t.1, of_source n source (λ s. IsValid (rank_schema x s)) t.2)
typed n (cumulated source gs d) t = (typed n source t.0, of_source n source (λ s. IsTrue (cumulates s gs d)) t.1, of_source n source (λ s. IsValid (cumulate_schema gs s)) t.2)
typed n (transposed source) t = (typed n source t.0, of_source n source (λ s. IsValid (transpose_schema s)) t.1)
typed n (reversed source) t = (typed n source t.0, of_source n source (λ s. IsTrue (are_bounded s.dimensions)) t.1)
typed n (unpacked source schema) t = (typed n source t.0, of_source n source (λ s. schema ≡ unpack_schema (first_name schema.dimensions) s) t.1, t.2)
typed n (xgridded source sizes) t = (typed n source t.0, of_source n source (λ s. IsTrue (enlarges s sizes)) t.1, of_source n source (λ s. IsValid (xgrid_schema sizes s)) t.2)
typed n (merged left right) t =
    let m = n + length (leaves left) in
    (typed n left t.0, typed m right t.1, of_sources n m left right (λ l r. IsTrue (merges l r)) t.2, of_sources n m left right (λ l r. IsValid (merge_schema l r)) t.3)
typed n (concatenated left right) t =
    let m = n + length (leaves left) in
    (typed n left t.0, typed m right t.1, of_sources n m left right (λ l r. IsTrue (concatenates l r)) t.2, of_sources n m left right (λ l r. IsValid (concat_schema l r)) t.3)

-- ---- meanings

pub holds_parts : (db : Database) (n : ℕ) (a b : List (List Row)) → HoldsAll db n (a ++ b) → HoldsAll db n a × HoldsAll db (n + length a) b
holds_parts db n [] b h = (tt, let e : n ≡ n + 0 = omega arith in subst (λ (m : ℕ). HoldsAll db m b) e h)
holds_parts db n (rows ∷ a) b h =
    let rest = holds_parts db (n + 1) a b h.1 in
    let e : n + 1 + length a ≡ n + suc (length a) = omega arith in
    ((h.0, rest.0), subst (λ (m : ℕ). HoldsAll db m b) e rest.1)

rows_of_both : (db : Database) (left right : List Leaf) → rows_of_leaves db (left ++ right) ≡ rows_of_leaves db left ++ rows_of_leaves db right
rows_of_both db [] right = refl
rows_of_both db (leaf ∷ left) right = ap (λ (z : List (List Row)). version_rows db leaf.name leaf.version ∷ z) (rows_of_both db left right)

length-rows : (db : Database) (all : List Leaf) → length (rows_of_leaves db all) ≡ length all
length-rows db [] = refl
length-rows db (leaf ∷ all) = ap suc (length-rows db all)

both_sides : (db rows : Database) (n : ℕ) (left right : List Leaf) → HoldsAll rows n (rows_of_leaves db (left ++ right)) → HoldsAll rows n (rows_of_leaves db left) × HoldsAll rows (n + length left) (rows_of_leaves db right)
both_sides db rows n left right h =
    let parts = holds_parts rows n (rows_of_leaves db left) (rows_of_leaves db right) (subst (HoldsAll rows n) (rows_of_both db left right) h) in
    (parts.0, subst (λ (m : ℕ). HoldsAll rows (n + m) (rows_of_leaves db right)) (length-rows db left) parts.1)

pub same_meaning : NumberedPlansMeanTheSame
same_meaning db rows n (built schema e) h = refl
same_meaning db rows n (listed schema given) h = refl
same_meaning db rows n (scanned leaf) h = ap (whole leaf.schema) h.0
same_meaning db rows n (filtered source test) h = ap (made (λ s. s) (λ s. filter_rows test)) (same_meaning db rows n source h)
same_meaning db rows n (applied source values) h = ap (made (apply_schema values) (λ s. apply_rows values)) (same_meaning db rows n source h)
same_meaning db rows n (projected source places) h = ap (made (project_schema places) (λ s. project_rows places)) (same_meaning db rows n source h)
same_meaning db rows n (between source area) h = ap (made (λ s. s) (λ s. within area)) (same_meaning db rows n source h)
same_meaning db rows n (subarray source area) h = ap (made (subarray_schema area) (λ s. subarray_rows (meet (bounds_of s.dimensions) area))) (same_meaning db rows n source h)
same_meaning db rows n (sliced source fixed) h = ap (made (slice_schema fixed) (λ s. slice_rows fixed)) (same_meaning db rows n source h)
same_meaning db rows n (joined left right schema) h =
    let both = both_sides db rows n (leaves left) (leaves right) h in
    let m = n + length (leaves left) in
    of_two (made_of_two schema join_rows) (meaning rows (numbered n left)) (meaning db left) (meaning rows (numbered m right)) (meaning db right) (same_meaning db rows n left both.0) (same_meaning db rows m right both.1)
same_meaning db rows n (crossed left right pairs schema) h =
    let both = both_sides db rows n (leaves left) (leaves right) h in
    let m = n + length (leaves left) in
    of_two (made_of_two schema (cross_rows pairs)) (meaning rows (numbered n left)) (meaning db left) (meaning rows (numbered m right)) (meaning db right) (same_meaning db rows n left both.0) (same_meaning db rows m right both.1)
same_meaning db rows n (redimensioned source schema gs) h = ap (redimensioned_from schema gs) (same_meaning db rows n source h)
same_meaning db rows n (regridded source sizes gs) h = ap (made (regrid_schema sizes gs) (λ s. regrid_rows (bounds_of s.dimensions).lo.items sizes gs)) (same_meaning db rows n source h)
same_meaning db rows n (windowed source reach gs) h = ap (made (window_schema gs) (λ s. window_rows reach gs)) (same_meaning db rows n source h)
same_meaning db rows n (aggregated source gs places) h = ap (made (aggregate_schema gs places) (λ s. aggregate_rows places gs)) (same_meaning db rows n source h)
same_meaning db rows n (sorted source keys schema) h = ap (sorted_from keys schema) (same_meaning db rows n source h)
same_meaning db rows n (ranked source x dims) h = ap (made (rank_schema x) (λ s. rank_rows x dims)) (same_meaning db rows n source h)
same_meaning db rows n (cumulated source gs d) h = ap (made (cumulate_schema gs) (λ s. cumulate_rows d gs)) (same_meaning db rows n source h)
same_meaning db rows n (transposed source) h = ap transpose_meant (same_meaning db rows n source h)
same_meaning db rows n (reversed source) h = ap reverse_meant (same_meaning db rows n source h)
same_meaning db rows n (unpacked source schema) h = ap (unpack_meant schema) (same_meaning db rows n source h)
same_meaning db rows n (xgridded source sizes) h = ap (xgrid_meant sizes) (same_meaning db rows n source h)
same_meaning db rows n (merged left right) h =
    let both = both_sides db rows n (leaves left) (leaves right) h in
    let m = n + length (leaves left) in
    of_two merge_meant (meaning rows (numbered n left)) (meaning db left) (meaning rows (numbered m right)) (meaning db right) (same_meaning db rows n left both.0) (same_meaning db rows m right both.1)
same_meaning db rows n (concatenated left right) h =
    let both = both_sides db rows n (leaves left) (leaves right) h in
    let m = n + length (leaves left) in
    of_two concat_meant (meaning rows (numbered n left)) (meaning db left) (meaning rows (numbered m right)) (meaning db right) (same_meaning db rows n left both.0) (same_meaning db rows m right both.1)
