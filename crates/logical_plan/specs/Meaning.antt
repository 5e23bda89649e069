-- The meaning of a plan over a database.
use Rattle.std.specs.Prelude.{ℕ, zero, suc, List, [], ◌∷◌, map}
use Rattle.std.specs.List.{flat_map}
use Rattle.cell_values.specs.declared.datum.Cell.TheVariants.{Full}
use Rattle.cell_values.specs.declared.datum.Row.{Row}
use Rattle.cell_values.specs.declared.schema.Dimension.{Dimension}
use Rattle.cell_values.specs.declared.schema.Schema.{Schema}
use Rattle.array_rows.specs.Rows.{Coordinate, placed}
pub use Rattle.array_rows.specs.Arrays.{Meant}
use Rattle.array_rows.specs.Boxes.{within, meet, bounds_of}
use Rattle.expr_nulls.specs.Expr.{Expr}
use Rattle.expr_nulls.specs.ExprValue.{value_of}
use Rattle.logical_plan.specs.declared.parts.Aggregate.{Aggregate}
use Rattle.logical_plan.specs.BoxOps.{subarray_rows, slice_rows}
use Rattle.logical_plan.specs.CellOps.{filter_rows, apply_rows, project_rows, fit_rows}
use Rattle.logical_plan.specs.Faults.{and_then}
use Rattle.logical_plan.specs.Groups.{regrid_rows, window_rows, aggregate_rows}
use Rattle.logical_plan.specs.Joins.{join_rows, cross_rows}
pub use Rattle.logical_plan.specs.Made.{whole, made, made_numbers, made_of_two}
use Rattle.logical_plan.specs.Ordered.{sort_rows, rank_rows, cumulate_rows}
pub use Rattle.logical_plan.specs.Places.{count_from, how_many}
use Rattle.logical_plan.specs.PlanSchema.{apply_schema, project_schema, subarray_schema, slice_schema, regrid_schema, window_schema, aggregate_schema}
use Rattle.logical_plan.specs.PlanSchema.{rank_schema, cumulate_schema}
use Rattle.logical_plan.specs.Query.{Query, built, listed, scanned, filtered, applied, projected, between, subarray}
use Rattle.logical_plan.specs.Query.{sliced, joined, crossed, redimensioned, regridded, windowed, aggregated}
use Rattle.logical_plan.specs.Query.{sorted, ranked, cumulated, transposed, reversed, unpacked, xgridded, merged, concatenated}
use Rattle.logical_plan.specs.Redimension.{redimension_rows}
use Rattle.logical_plan.specs.ShapeMeant.{transpose_meant, reverse_meant, unpack_meant, xgrid_meant, merge_meant, concat_meant}

-- ---- databases

-- a database as far as plans see it: the rows of each version of each name
abbrev pub Database : Type 0
Database = List ℕ → ℕ → List Row

-- version 0 stands for an array without versions: it has no cells
abbrev pub version_rows : Database → List ℕ → ℕ → List Row
version_rows db name zero = []
version_rows db name (suc n) = db name (suc n)

-- ---- all coordinates of a box

-- in row-major order
abbrev pub coordinates : List Dimension → List Coordinate
coordinates [] = [] ∷ []
coordinates (d ∷ dims) = flat_map (λ x. map (λ c. x ∷ c) (coordinates dims)) (count_from d.lo (how_many d.lo d.hi))

-- the value of an expression at each coordinate, fitted to the schema
abbrev pub built_rows : Schema → Expr → List Row
built_rows schema e = fit_rows schema.attributes (map (λ c. placed c (Full (value_of e c [] ∷ []))) (coordinates schema.dimensions))

-- ---- arrays

-- the source's cells at the places of another schema; some cell may break the result
abbrev pub redimensioned_from : Schema → List Aggregate → Meant → Meant
redimensioned_from schema gs source = record { schema = schema; rows = and_then (redimension_rows source.schema schema gs) source.rows }

-- the source's cells in the order of their keys; some cell may break the result
abbrev pub sorted_from : List ℕ → Schema → Meant → Meant
sorted_from keys schema = made_numbers schema (sort_rows keys)

-- ---- plans

abbrev pub meaning : Database → Query → Meant
meaning db (built schema e) = whole schema (built_rows schema e)
meaning db (listed schema rows) = whole schema rows
meaning db (scanned leaf) = whole leaf.schema (version_rows db leaf.name leaf.version)
meaning db (filtered source test) = made (λ s. s) (λ s. filter_rows test) (meaning db source)
meaning db (applied source values) = made (apply_schema values) (λ s. apply_rows values) (meaning db source)
meaning db (projected source places) = made (project_schema places) (λ s. project_rows places) (meaning db source)
meaning db (between source area) = made (λ s. s) (λ s. within area) (meaning db source)
meaning db (subarray source area) = made (subarray_schema area) (λ s. subarray_rows (meet (bounds_of s.dimensions) area)) (meaning db source)
meaning db (sliced source fixed) = made (slice_schema fixed) (λ s. slice_rows fixed) (meaning db source)
meaning db (joined left right schema) = made_of_two schema join_rows (meaning db left) (meaning db right)
meaning db (crossed left right pairs schema) = made_of_two schema (cross_rows pairs) (meaning db left) (meaning db right)
meaning db (redimensioned source schema gs) = redimensioned_from schema gs (meaning db source)
meaning db (regridded source sizes gs) = made (regrid_schema sizes gs) (λ s. regrid_rows (bounds_of s.dimensions).lo.items sizes gs) (meaning db source)
meaning db (windowed source reach gs) = made (window_schema gs) (λ s. window_rows reach gs) (meaning db source)
meaning db (aggregated source gs places) = made (aggregate_schema gs places) (λ s. aggregate_rows places gs) (meaning db source)
meaning db (sorted source keys schema) = sorted_from keys schema (meaning db source)
meaning db (ranked source x dims) = made (rank_schema x) (λ s. rank_rows x dims) (meaning db source)
meaning db (cumulated source gs n) = made (cumulate_schema gs) (λ s. cumulate_rows n gs) (meaning db source)
meaning db (transposed source) = transpose_meant (meaning db source)
meaning db (reversed source) = reverse_meant (meaning db source)
meaning db (unpacked source schema) = unpack_meant schema (meaning db source)
meaning db (xgridded source sizes) = xgrid_meant sizes (meaning db source)
meaning db (merged left right) = merge_meant (meaning db left) (meaning db right)
meaning db (concatenated left right) = concat_meant (meaning db left) (meaning db right)
