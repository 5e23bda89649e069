-- Where the schema of a plan comes from.
use Rattle.std.specs.Prelude.{◌≡◌, ◌+◌}
use Rattle.cell_values.specs.declared.schema.Schema.{Schema}
use Rattle.logical_plan.specs.PlanSchema.{schema_of, apply_schema, project_schema, subarray_schema, slice_schema}
use Rattle.logical_plan.specs.PlanSchema.{regrid_schema, window_schema, aggregate_schema, rank_schema, cumulate_schema}
use Rattle.logical_plan.specs.Query.{Query, query_size, applied, projected, subarray, sliced, regridded, windowed, aggregated}
use Rattle.logical_plan.specs.Query.{ranked, cumulated, transposed, xgridded}
use Rattle.logical_plan.specs.ShapeSchemas.{concat_schema, merge_schema, transpose_schema, xgrid_schema}
use Rattle.plan_schemas.specs.declared.schema.Origin.{Origin}
use Rattle.plan_schemas.specs.declared.schema.Origin.TheVariants.{Own, Source, Merged, Concatenated}

-- what the last operator makes of the schema of its source, if it makes another one
abbrev pub schema_over : Query → Schema → Schema
schema_over (applied source values) schema = apply_schema values schema
schema_over (projected source places) schema = project_schema places schema
schema_over (subarray source area) schema = subarray_schema area schema
schema_over (sliced source fixed) schema = slice_schema fixed schema
schema_over (regridded source sizes gs) schema = regrid_schema sizes gs schema
schema_over (windowed source reach gs) schema = window_schema gs schema
schema_over (aggregated source gs places) schema = aggregate_schema gs places schema
schema_over (ranked source x dims) schema = rank_schema x schema
schema_over (cumulated source gs n) schema = cumulate_schema gs schema
schema_over (transposed source) schema = transpose_schema schema
schema_over (xgridded source sizes) schema = xgrid_schema sizes schema
schema_over query schema = schema

-- a plan is one operator larger than its source, and its schema is what that operator makes of the source's
abbrev pub IsSource : Query → Query → Type 0
IsSource query source = (query_size query ≡ query_size source + 1) × (schema_of query ≡ schema_over query (schema_of source))

-- a plan is one operator larger than its two sources together, and its schema is what that operator makes of theirs
abbrev pub AreSources : (Schema → Schema → Schema) → Query → Query → Query → Type 0
AreSources both query left right =
    (query_size query ≡ query_size left + query_size right + 1) × (schema_of query ≡ both (schema_of left) (schema_of right))

-- where the schema of a plan comes from: it is given itself, or its source is, or its two sources are
abbrev pub HasOrigin : Query → Origin → Type 0
HasOrigin query (Own schema) = schema.now ≡ schema_of query
HasOrigin query (Source source) = IsSource query source.now
HasOrigin query (Merged left right) = AreSources merge_schema query left.now right.now
HasOrigin query (Concatenated left right) = AreSources concat_schema query left.now right.now
