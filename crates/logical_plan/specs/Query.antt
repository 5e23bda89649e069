-- Plans as contracts see them, without boxes.
use Rattle.std.specs.Prelude.{ℕ, ◌+◌, List}
use Rattle.cell_values.specs.declared.datum.Row.{Row}
use Rattle.cell_values.specs.declared.schema.Schema.{Schema}
use Rattle.cell_values.specs.declared.schema.Bounds.{Bounds}
use Rattle.expr_nulls.specs.Expr.{Expr}
use Rattle.logical_plan.specs.declared.parts.Aggregate.{Aggregate}
use Rattle.logical_plan.specs.declared.parts.Applied.{Applied}
use Rattle.logical_plan.specs.declared.parts.Fixed.{Fixed}
use Rattle.logical_plan.specs.declared.parts.Leaf.{Leaf}
use Rattle.logical_plan.specs.declared.parts.Pair.{Pair}
use Rattle.logical_plan.specs.declared.parts.Reach.{Reach}

pub data Query : Type 0 where
  built : Schema → Expr → Query
  listed : Schema → List Row → Query
  scanned : Leaf → Query
  filtered : Query → Expr → Query
  applied : Query → List Applied → Query
  projected : Query → List ℕ → Query
  between : Query → Bounds → Query
  subarray : Query → Bounds → Query
  sliced : Query → List Fixed → Query
  joined : Query → Query → Schema → Query
  crossed : Query → Query → List Pair → Schema → Query
  redimensioned : Query → Schema → List Aggregate → Query
  regridded : Query → List ℕ → List Aggregate → Query
  windowed : Query → List Reach → List Aggregate → Query
  aggregated : Query → List Aggregate → List ℕ → Query
  sorted : Query → List ℕ → Schema → Query
  ranked : Query → ℕ → List ℕ → Query
  cumulated : Query → List Aggregate → ℕ → Query
  transposed : Query → Query
  reversed : Query → Query
  unpacked : Query → Schema → Query
  xgridded : Query → List ℕ → Query
  merged : Query → Query → Query
  concatenated : Query → Query → Query

-- how many operators it has
abbrev pub query_size : Query → ℕ
query_size (built schema e) = 1
query_size (listed schema rows) = 1
query_size (scanned leaf) = 1
query_size (filtered source test) = query_size source + 1
query_size (applied source values) = query_size source + 1
query_size (projected source places) = query_size source + 1
query_size (between source area) = query_size source + 1
query_size (subarray source area) = query_size source + 1
query_size (sliced source fixed) = query_size source + 1
query_size (joined left right schema) = query_size left + query_size right + 1
query_size (crossed left right pairs schema) = query_size left + query_size right + 1
query_size (redimensioned source schema aggregates) = query_size source + 1
query_size (regridded source sizes aggregates) = query_size source + 1
query_size (windowed source reach aggregates) = query_size source + 1
query_size (aggregated source aggregates dimensions) = query_size source + 1
query_size (sorted source keys schema) = query_size source + 1
query_size (ranked source attribute dimensions) = query_size source + 1
query_size (cumulated source aggregates dimension) = query_size source + 1
query_size (transposed source) = query_size source + 1
query_size (reversed source) = query_size source + 1
query_size (unpacked source schema) = query_size source + 1
query_size (xgridded source sizes) = query_size source + 1
query_size (merged left right) = query_size left + query_size right + 1
query_size (concatenated left right) = query_size left + query_size right + 1
