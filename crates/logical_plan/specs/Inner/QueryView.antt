-- What a plan reads as.
use Rattle.logical_plan.specs.Query.{Query, built, listed, scanned, filtered, applied, projected, between, subarray}
use Rattle.logical_plan.specs.Query.{sliced, joined, crossed, redimensioned, regridded, windowed, aggregated}
use Rattle.logical_plan.specs.Query.{sorted, ranked, cumulated, transposed, reversed, unpacked, xgridded, merged, concatenated}
use Rattle.logical_plan.specs.declared.plan.PlanNode.{PlanNode}
use Rattle.logical_plan.specs.declared.plan.PlanNode.TheVariants.{Build, Literal, Scan, Filter, Apply, Project, Between, Subarray}
use Rattle.logical_plan.specs.declared.plan.PlanNode.TheVariants.{Slice, Join, CrossJoin, Redimension, Regrid, Window, Aggregate}
use Rattle.logical_plan.specs.declared.plan.PlanNode.TheVariants.{Sort, Rank, Cumulate, Transpose, Reverse, Unpack, Xgrid, Merge, Concat}

abbrev pub query_of : PlanNode → Query
query_of (Build schema e) = built schema e
query_of (Literal schema rows) = listed schema rows
query_of (Scan leaf) = scanned leaf
query_of (Filter source test) = filtered source.value test
query_of (Apply source values) = applied source.value values
query_of (Project source places) = projected source.value places
query_of (Between source area) = between source.value area
query_of (Subarray source area) = subarray source.value area
query_of (Slice source fixed) = sliced source.value fixed
query_of (Join left right schema) = joined left.value right.value schema
query_of (CrossJoin left right pairs schema) = crossed left.value right.value pairs schema
query_of (Redimension source schema aggregates) = redimensioned source.value schema aggregates
query_of (Regrid source sizes aggregates) = regridded source.value sizes aggregates
query_of (Window source reach aggregates) = windowed source.value reach aggregates
query_of (Aggregate source aggregates dimensions) = aggregated source.value aggregates dimensions
query_of (Sort source keys schema) = sorted source.value keys schema
query_of (Rank source attribute dimensions) = ranked source.value attribute dimensions
query_of (Cumulate source aggregates dimension) = cumulated source.value aggregates dimension
query_of (Transpose source) = transposed source.value
query_of (Reverse source) = reversed source.value
query_of (Unpack source schema) = unpacked source.value schema
query_of (Xgrid source sizes) = xgridded source.value sizes
query_of (Merge left right) = merged left.value right.value
query_of (Concat left right) = concatenated left.value right.value
