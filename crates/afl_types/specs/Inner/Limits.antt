-- What the rules of operators on a source rely on.
use Rattle.std.specs.Prelude.{◌≤◌, length}
use Rattle.cell_values.specs.declared.schema.Schema.{Schema}
use Rattle.logical_plan.specs.PlanSchema.{schema_of}
use Rattle.logical_plan.specs.Query.{Query}

-- at most 64 attributes and 6 dimensions
pub record IsSmall (schema : Schema) : Type 0 where
  pub attributes : length schema.attributes ≤ 64
  pub dimensions : length schema.dimensions ≤ 6

abbrev pub HasSmallSchema : Query → Type 0
HasSmallSchema query = IsSmall (schema_of query)
