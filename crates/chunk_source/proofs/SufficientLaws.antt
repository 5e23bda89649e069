-- What the wanted chunks of each leaf tell suffices.
use Rattle.std.proofs.Common.{◌≡◌, ℕ, ◌+◌, List, [], ◌∷◌, ◌++◌, length, refl, sym, ap, ◌∙◌, subst, append_assoc, length-append, arith}
use Rattle.std.specs.Prelude.{slice_index_or}
use Rattle.std.specs.List.{AllByRecursion, AllZip}
use Rattle.arrayvec.specs.ArrayVec.{ArrayVec}
use Rattle.cell_values.specs.declared.datum.Row.{Row}
use Rattle.cell_values.specs.declared.schema.Bounds.{Bounds}
use Rattle.cell_values.specs.declared.schema.Schema.{Schema}
use Rattle.array_rows.specs.Arrays.{AreRowsOf}
use Rattle.array_rows.specs.Boxes.{bounds_of}
use Rattle.logical_plan.specs.declared.parts.Leaf.{Leaf}
use Rattle.logical_plan.specs.Leaves.{leaves}
use Rattle.logical_plan.specs.Meaning.{Database, version_rows}
use Rattle.logical_plan.specs.PlanSchema.{schema_of}
use Rattle.logical_plan.specs.Query.{Query, built, listed, scanned, filtered, applied, projected, between, subarray}
use Rattle.logical_plan.specs.Query.{sliced, joined, crossed, redimensioned, regridded, windowed, aggregated}
use Rattle.logical_plan.specs.Query.{sorted, ranked, cumulated, transposed, reversed, unpacked, xgridded, merged, concatenated}
use Rattle.plan_needs.specs.Needs.{is_scan, needs}
use Rattle.plan_needs.specs.OrderSides.{of_cumulate, of_rank}
use Rattle.plan_needs.specs.ShapeSides.{of_behind, of_front, of_reverse, of_transpose, of_xgrid}
use Rattle.plan_needs.specs.Sides.{Sides, of_aggregate, of_between, of_left, of_regrid, of_right, of_slice, of_subarray, of_window, sides_of, whole}
use Rattle.plan_needs.specs.Wanted.{AreAlikeAt, HaveAlike, wanted_of, whole_need}
use Rattle.plan_needs.proofs.AlikePlans.{needs_are_sufficient}
use Rattle.chunk_source.specs.Source.{HasArray}
use Rattle.chunk_source.specs.Known.{known_for}
use Rattle.chunk_source.proofs.KnownLaws.{known_is_alike, known_rows}
use Rattle.chunk_source.specs.NumberLaws.{KnownRowsSuffice}
use Rattle.chunk_source.specs.Numbered.{HoldsAll, by_number, known_of_leaves, numbered, rows_of_leaves}
use Rattle.chunk_source.proofs.NumberedLaws.{numbered_leaves, same_leaves, same_meaning, same_needs, same_schema, typed}

-- ---- a database with these rows

at_behind : (before : List (List Row)) (rows : List Row) (more : List (List Row)) → slice_index_or (before ++ rows ∷ more) (length before) [] ≡ rows
at_behind [] rows more = refl
at_behind (x ∷ before) rows more = at_behind before rows more

pub holds_behind : (before all : List (List Row)) → HoldsAll (by_number (before ++ all)) (length before) all
holds_behind before [] = tt
holds_behind before (rows ∷ more) =
    let same : (before ++ rows ∷ []) ++ more ≡ before ++ rows ∷ more = append_assoc before (rows ∷ []) more in
    let count : length (before ++ rows ∷ []) ≡ length before + 1 = length-append before (rows ∷ []) in (
      at_behind before rows more,
      subst (λ (m : ℕ). HoldsAll (by_number (before ++ rows ∷ more)) m more) count
          (subst (λ (z : List (List Row)). HoldsAll (by_number z) (length (before ++ rows ∷ [])) more) same (holds_behind (before ++ rows ∷ []) more)),
    )

-- ---- a need for each leaf

a_need_each : (query : Query) (sides : Sides) → length (needs query sides) ≡ length (leaves query)
a_need_each (built schema e) sides = refl
a_need_each (listed schema rows) sides = refl
a_need_each (scanned leaf) sides = refl
a_need_each (filtered source test) sides = a_need_each source sides
a_need_each (applied source values) sides = a_need_each source sides
a_need_each (projected source places) sides = a_need_each source sides
a_need_each (between source area) sides = a_need_each source (of_between area sides)
a_need_each (subarray source area) sides = a_need_each source (of_subarray (schema_of source).dimensions area sides)
a_need_each (sliced source fixed) sides = a_need_each source (of_slice (schema_of source).dimensions fixed sides)
a_need_each (joined left right schema) sides =
    let l : length (needs left sides) ≡ length (leaves left) = a_need_each left sides in
    let r : length (needs right sides) ≡ length (leaves right) = a_need_each right sides in
    omega (arith, length-append (needs left sides) (needs right sides), length-append (leaves left) (leaves right))
a_need_each (crossed left right pairs schema) sides =
    let ls : Sides = of_left (schema_of left).dimensions sides in
    let rs : Sides = of_right (schema_of left).dimensions (schema_of right).dimensions pairs sides in
    let l : length (needs left ls) ≡ length (leaves left) = a_need_each left ls in
    let r : length (needs right rs) ≡ length (leaves right) = a_need_each right rs in
    omega (arith, length-append (needs left ls) (needs right rs), length-append (leaves left) (leaves right))
a_need_each (redimensioned source schema gs) sides = a_need_each source (whole (schema_of source).dimensions)
a_need_each (regridded source sizes gs) sides = a_need_each source (of_regrid (schema_of source).dimensions sizes sides)
a_need_each (windowed source reach gs) sides = a_need_each source (of_window (is_scan source) (schema_of source).dimensions reach sides)
a_need_each (aggregated source gs places) sides = a_need_each source (of_aggregate (schema_of source).dimensions places sides)
a_need_each (sorted source keys schema) sides = a_need_each source (whole (schema_of source).dimensions)
a_need_each (ranked source x dims) sides = a_need_each source (of_rank (schema_of source).dimensions dims sides)
a_need_each (cumulated source gs n) sides = a_need_each source (of_cumulate (schema_of source).dimensions n sides)
a_need_each (transposed source) sides = a_need_each source (of_transpose sides)
a_need_each (reversed source) sides = a_need_each source (of_reverse (schema_of source).dimensions sides)
a_need_each (unpacked source schema) sides = a_need_each source (whole (schema_of source).dimensions)
a_need_each (xgridded source sizes) sides = a_need_each source (of_xgrid (schema_of source).dimensions sizes sides)
a_need_each (merged left right) sides =
    let l : length (needs left sides) ≡ length (leaves left) = a_need_each left sides in
    let r : length (needs right sides) ≡ length (leaves right) = a_need_each right sides in
    omega (arith, length-append (needs left sides) (needs right sides), length-append (leaves left) (leaves right))
a_need_each (concatenated left right) sides =
    let ls : Sides = of_front (schema_of left).dimensions sides in
    let rs : Sides = of_behind (schema_of left).dimensions (schema_of right).dimensions sides in
    let l : length (needs left ls) ≡ length (leaves left) = a_need_each left ls in
    let r : length (needs right rs) ≡ length (leaves right) = a_need_each right rs in
    omega (arith, length-append (needs left ls) (needs right rs), length-append (leaves left) (leaves right))

pub whole_needs : (query : Query) → length (whole_need query) ≡ length (leaves query)
whole_needs query = a_need_each query (sides_of (bounds_of (schema_of query).dimensions))

pub same_whole : (n : ℕ) (query : Query) → whole_need (numbered n query) ≡ whole_need query
same_whole n query =
    same_needs n query (sides_of (bounds_of (schema_of (numbered n query)).dimensions)) ∙ ap (λ (s : Schema). needs query (sides_of (bounds_of s.dimensions))) (same_schema n query)

-- ---- leaf by leaf

module _ (stored : Leaf → List (ArrayVec ℕ)) (db : Database) where
  abbrev HasLeaf : Leaf → Type 0
  HasLeaf leaf = HasArray leaf (version_rows db leaf.name leaf.version) (stored leaf)

abbrev IsArrayOf : Database → Leaf → Type 0
IsArrayOf db leaf = AreRowsOf leaf.schema (version_rows db leaf.name leaf.version)

module _ (stored : Leaf → List (ArrayVec ℕ)) (db known told : Database) where
  told_arrays : (n : ℕ) (all : List Leaf) → AllByRecursion (HasLeaf stored db) all → HoldsAll told n (rows_of_leaves db all) → AllByRecursion (IsArrayOf told) (numbered_leaves n all)
  told_arrays n [] a t = tt
  told_arrays n (leaf ∷ all) a t = (subst (AreRowsOf leaf.schema) (sym t.0) a.0.rows_of, told_arrays (n + 1) all a.1 t.1)

  known_arrays : (n : ℕ) (all : List Leaf) (boxes : List Bounds) → length boxes ≡ length all → AllByRecursion (HasLeaf stored db) all → HoldsAll known n (known_of_leaves stored db all boxes)
      → AllByRecursion (IsArrayOf known) (numbered_leaves n all)
  known_arrays n [] boxes e a h = tt
  known_arrays n (leaf ∷ all) [] e a h = absurd (omega (arith, e))
  known_arrays n (leaf ∷ all) (box ∷ boxes) e a h = (
    subst (AreRowsOf leaf.schema) (sym h.0) (known_rows leaf.schema (version_rows db leaf.name leaf.version) (wanted_of leaf.schema.dimensions box (stored leaf)) a.0.rows_of),
    known_arrays (n + 1) all boxes (omega (arith, e)) a.1 h.1,
  )

  all_alike : (n : ℕ) (all : List Leaf) (boxes : List Bounds) → length boxes ≡ length all → AllByRecursion (HasLeaf stored db) all → HoldsAll known n (known_of_leaves stored db all boxes)
      → HoldsAll told n (rows_of_leaves db all) → AllZip (AreAlikeAt known told) (numbered_leaves n all) boxes
  all_alike n [] [] e a h t = tt
  all_alike n [] (box ∷ boxes) e a h t = absurd (omega (arith, e))
  all_alike n (leaf ∷ all) [] e a h t = absurd (omega (arith, e))
  all_alike n (leaf ∷ all) (box ∷ boxes) e a h t = (
    subst (λ (rows : List Row). HaveAlike leaf.schema.dimensions box rows (told (n ∷ []) 1)) (sym h.0)
        (subst (λ (rows : List Row). HaveAlike leaf.schema.dimensions box (known_for leaf box (stored leaf) (version_rows db leaf.name leaf.version)) rows) (sym t.0)
        (known_is_alike leaf box (version_rows db leaf.name leaf.version) (stored leaf) a.0)),
    all_alike (n + 1) all boxes (omega (arith, e)) a.1 h.1 t.1,
  )

pub suffices : KnownRowsSuffice
suffices stored db known query is_typed arrays holds =
    let told : Database = by_number (rows_of_leaves db (leaves query)) in
    let told_holds : HoldsAll told 0 (rows_of_leaves db (leaves query)) = holds_behind [] (rows_of_leaves db (leaves query)) in
    let all : leaves (numbered 0 query) ≡ numbered_leaves 0 (leaves query) = same_leaves 0 query in
    let each = whole_needs query in
    needs_are_sufficient known told (numbered 0 query) (typed 0 query is_typed)
    (subst (AllByRecursion (IsArrayOf known)) (sym all) (known_arrays stored db known told 0 (leaves query) (whole_need query) each arrays holds))
    (subst (AllByRecursion (IsArrayOf told)) (sym all) (told_arrays stored db known told 0 (leaves query) arrays told_holds))
    (subst (λ (z : List Leaf). AllZip (AreAlikeAt known told) z (whole_need (numbered 0 query))) (sym all)
    (subst (λ (z : List Bounds). AllZip (AreAlikeAt known told) (numbered_leaves 0 (leaves query)) z) (sym (same_whole 0 query))
    (all_alike stored db known told 0 (leaves query) (whole_need query) each arrays holds told_holds)))
    ∙ same_meaning db told 0 query told_holds
