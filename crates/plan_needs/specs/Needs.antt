-- The box of each of its leaves that a plan needs for a box of its result.
use Rattle.std.specs.Prelude.{Bool, true, false, List, [], ◌∷◌, ◌++◌}
use Rattle.cell_values.specs.declared.schema.Bounds.{Bounds}
use Rattle.logical_plan.specs.PlanSchema.{schema_of}
use Rattle.logical_plan.specs.Query.{Query, built, listed, scanned, filtered, applied, projected, between, subarray}
use Rattle.logical_plan.specs.Query.{sliced, joined, crossed, redimensioned, regridded, windowed, aggregated}
use Rattle.logical_plan.specs.Query.{sorted, ranked, cumulated, transposed, reversed, unpacked, xgridded, merged, concatenated}
use Rattle.plan_needs.specs.OrderSides.{of_rank, of_cumulate}
use Rattle.plan_needs.specs.ShapeSides.{of_transpose, of_reverse, of_xgrid, of_front, of_behind}
use Rattle.plan_needs.specs.Sides.{Sides, sides_of, box_of, whole, of_between, of_subarray, of_slice, of_left, of_right, of_regrid, of_aggregate, of_window}

-- a scan under filters, applies, projects and betweens alone: each chunk of it has its neighbours' cells as far as the overlap
abbrev pub is_scan : Query → Bool
is_scan (scanned leaf) = true
is_scan (filtered source test) = is_scan source
is_scan (applied source values) = is_scan source
is_scan (projected source places) = is_scan source
is_scan (between source area) = is_scan source
is_scan query = false

-- from left to right, one for each leaf
abbrev pub needs : Query → Sides → List Bounds
needs (built schema e) sides = []
needs (listed schema rows) sides = []
needs (scanned leaf) sides = box_of sides ∷ []
needs (filtered source test) sides = needs source sides
needs (applied source values) sides = needs source sides
needs (projected source places) sides = needs source sides
needs (between source area) sides = needs source (of_between area sides)
needs (subarray source area) sides = needs source (of_subarray (schema_of source).dimensions area sides)
needs (sliced source fixed) sides = needs source (of_slice (schema_of source).dimensions fixed sides)
needs (joined left right schema) sides = needs left sides ++ needs right sides
needs (crossed left right pairs schema) sides =
    needs left (of_left (schema_of left).dimensions sides) ++ needs right (of_right (schema_of left).dimensions (schema_of right).dimensions pairs sides)
needs (redimensioned source schema gs) sides = needs source (whole (schema_of source).dimensions)
needs (regridded source sizes gs) sides = needs source (of_regrid (schema_of source).dimensions sizes sides)
needs (windowed source reach gs) sides = needs source (of_window (is_scan source) (schema_of source).dimensions reach sides)
needs (aggregated source gs places) sides = needs source (of_aggregate (schema_of source).dimensions places sides)
needs (sorted source keys schema) sides = needs source (whole (schema_of source).dimensions)
needs (ranked source x dims) sides = needs source (of_rank (schema_of source).dimensions dims sides)
needs (cumulated source gs n) sides = needs source (of_cumulate (schema_of source).dimensions n sides)
needs (transposed source) sides = needs source (of_transpose sides)
needs (reversed source) sides = needs source (of_reverse (schema_of source).dimensions sides)
needs (unpacked source schema) sides = needs source (whole (schema_of source).dimensions)
needs (xgridded source sizes) sides = needs source (of_xgrid (schema_of source).dimensions sizes sides)
needs (merged left right) sides = needs left sides ++ needs right sides
needs (concatenated left right) sides =
    needs left (of_front (schema_of left).dimensions sides) ++ needs right (of_behind (schema_of left).dimensions (schema_of right).dimensions sides)

abbrev pub need : Query → Bounds → List Bounds
need query area = needs query (sides_of area)
