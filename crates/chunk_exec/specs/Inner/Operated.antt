-- The plans on whose arrays the last operator of a plan works, and what it makes of them.
use Rattle.std.specs.Prelude.{◌≡◌, List, [], ◌∷◌}
use Rattle.std.specs.List.{AllByRecursion, AllZip}
use Rattle.array_parts.specs.Cores.{HasCells}
use Rattle.array_geom.specs.declared.chunk.ChunkedArray.{ChunkedArray}
use Rattle.array_geom.specs.Link.{Is}
use Rattle.array_rows.specs.Arrays.{Meant}
use Rattle.array_rows.specs.Boxes.{bounds_of, meet, within}
use Rattle.logical_plan.specs.BoxOps.{slice_rows, subarray_rows}
use Rattle.logical_plan.specs.CellOps.{apply_rows, filter_rows, project_rows}
use Rattle.logical_plan.specs.Groups.{aggregate_rows, regrid_rows, window_rows}
use Rattle.logical_plan.specs.Joins.{cross_rows, join_rows}
use Rattle.logical_plan.specs.Meaning.{made, made_of_two, redimensioned_from, sorted_from, whole}
use Rattle.logical_plan.specs.Ordered.{cumulate_rows, rank_rows}
use Rattle.logical_plan.specs.PlanSchema.{aggregate_schema, apply_schema, cumulate_schema, project_schema, rank_schema, regrid_schema, schema_of, slice_schema}
use Rattle.logical_plan.specs.PlanSchema.{subarray_schema, window_schema}
use Rattle.logical_plan.specs.Query.{Query, built, listed, scanned, filtered, applied, projected, between, subarray}
use Rattle.logical_plan.specs.Query.{sliced, joined, crossed, redimensioned, regridded, windowed, aggregated}
use Rattle.logical_plan.specs.Query.{sorted, ranked, cumulated, transposed, reversed, unpacked, xgridded, merged, concatenated}
use Rattle.logical_plan.specs.ShapeMeant.{concat_meant, merge_meant, reverse_meant, transpose_meant, unpack_meant, xgrid_meant}
use Rattle.logical_plan.specs.Typing.{IsTyped}

-- from left to right
abbrev pub sources : Query → List Query
sources (built schema e) = []
sources (listed schema rows) = []
sources (scanned leaf) = []
sources (filtered source test) = source ∷ []
sources (applied source values) = source ∷ []
sources (projected source places) = source ∷ []
sources (between source area) = source ∷ []
sources (subarray source area) = source ∷ []
sources (sliced source fixed) = source ∷ []
sources (joined left right schema) = left ∷ right ∷ []
sources (crossed left right pairs schema) = left ∷ right ∷ []
sources (redimensioned source schema gs) = source ∷ []
sources (regridded source sizes gs) = source ∷ []
sources (windowed source reach gs) = source ∷ []
sources (aggregated source gs places) = source ∷ []
sources (sorted source keys schema) = source ∷ []
sources (ranked source x dims) = source ∷ []
sources (cumulated source gs n) = source ∷ []
sources (transposed source) = source ∷ []
sources (reversed source) = source ∷ []
sources (unpacked source schema) = source ∷ []
sources (xgridded source sizes) = source ∷ []
sources (merged left right) = left ∷ right ∷ []
sources (concatenated left right) = left ∷ right ∷ []

-- what the last operator of a plan makes of what its sources mean
abbrev pub operated : Query → List Meant → Meant
operated (filtered source test) (m ∷ []) = made (λ s. s) (λ s. filter_rows test) m
operated (applied source values) (m ∷ []) = made (apply_schema values) (λ s. apply_rows values) m
operated (projected source places) (m ∷ []) = made (project_schema places) (λ s. project_rows places) m
operated (between source area) (m ∷ []) = made (λ s. s) (λ s. within area) m
operated (subarray source area) (m ∷ []) = made (subarray_schema area) (λ s. subarray_rows (meet (bounds_of s.dimensions) area)) m
operated (sliced source fixed) (m ∷ []) = made (slice_schema fixed) (λ s. slice_rows fixed) m
operated (joined left right schema) (l ∷ r ∷ []) = made_of_two schema join_rows l r
operated (crossed left right pairs schema) (l ∷ r ∷ []) = made_of_two schema (cross_rows pairs) l r
operated (redimensioned source schema gs) (m ∷ []) = redimensioned_from schema gs m
operated (regridded source sizes gs) (m ∷ []) = made (regrid_schema sizes gs) (λ s. regrid_rows (bounds_of s.dimensions).lo.items sizes gs) m
operated (windowed source reach gs) (m ∷ []) = made (window_schema gs) (λ s. window_rows reach gs) m
operated (aggregated source gs places) (m ∷ []) = made (aggregate_schema gs places) (λ s. aggregate_rows places gs) m
operated (sorted source keys schema) (m ∷ []) = sorted_from keys schema m
operated (ranked source x dims) (m ∷ []) = made (rank_schema x) (λ s. rank_rows x dims) m
operated (cumulated source gs n) (m ∷ []) = made (cumulate_schema gs) (λ s. cumulate_rows n gs) m
operated (transposed source) (m ∷ []) = transpose_meant m
operated (reversed source) (m ∷ []) = reverse_meant m
operated (unpacked source schema) (m ∷ []) = unpack_meant schema m
operated (xgridded source sizes) (m ∷ []) = xgrid_meant sizes m
operated (merged left right) (l ∷ r ∷ []) = merge_meant l r
operated (concatenated left right) (l ∷ r ∷ []) = concat_meant l r
operated query meants = whole (schema_of query) []

-- each array is of its plan's schema, or stands for its meaning
abbrev pub HaveSchemas : List Query → List ChunkedArray → Type 0
HaveSchemas = AllZip (λ query array. array.schema ≡ schema_of query)

abbrev pub AreMeant : List ChunkedArray → List Meant → Type 0
AreMeant = AllZip Is

-- arrays, one for each source of a typed plan, of its schema and with cells that are rows of it
pub record CanOperate (query : Query) (arrays : List ChunkedArray) : Type 0 where
  pub typed : IsTyped query
  pub schemas : HaveSchemas (sources query) arrays
  pub cells : AllByRecursion HasCells arrays

-- An array of the plan's schema, with cells that are rows of it. It is what the operator makes of whatever the arrays stand for.
pub record IsResultOf (query : Query) (arrays : List ChunkedArray) (array : ChunkedArray) : Type 0 where
  pub schema_is : array.schema ≡ schema_of query
  pub cells : HasCells array
  pub means : (meants : List Meant) → AreMeant arrays meants → Is array (operated query meants)
