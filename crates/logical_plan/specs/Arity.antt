-- Plans by the number of their sources.
use Rattle.logical_plan.specs.declared.arity.BinaryNode.{BinaryNode}
use Rattle.logical_plan.specs.declared.arity.BinaryNode.TheVariants.{Join, CrossJoin, Merge, Concat}
use Rattle.logical_plan.specs.declared.arity.LeafNode.{LeafNode}
use Rattle.logical_plan.specs.declared.arity.LeafNode.TheVariants.{Build, Literal, Scan}
use Rattle.logical_plan.specs.declared.arity.PlanShape.{PlanShape}
use Rattle.logical_plan.specs.declared.arity.PlanShape.TheVariants.{Leaf, Unary, Binary}
use Rattle.logical_plan.specs.declared.arity.UnaryNode.{UnaryNode}
use Rattle.logical_plan.specs.declared.arity.UnaryNode.TheVariants.{Filter, Apply, Project, Between, Subarray, Slice, Redimension, Regrid}
use Rattle.logical_plan.specs.declared.arity.UnaryNode.TheVariants.{Window, Aggregate, Sort, Rank, Cumulate, Transpose, Reverse, Unpack, Xgrid}
use Rattle.logical_plan.specs.Query.{Query, built, listed, scanned, filtered, applied, projected, between, subarray}
use Rattle.logical_plan.specs.Query.{sliced, joined, crossed, redimensioned, regridded, windowed, aggregated}
use Rattle.logical_plan.specs.Query.{sorted, ranked, cumulated, transposed, reversed, unpacked, xgridded, merged, concatenated}

-- the plan that has no source
abbrev pub leaf_query : LeafNode → Query
leaf_query (Build schema value) = built schema.now value.now
leaf_query (Literal schema rows) = listed schema.now rows.now
leaf_query (Scan leaf) = scanned leaf.now

-- an operator over its source
abbrev pub unary_query : UnaryNode → Query → Query
unary_query (Filter test) source = filtered source test.now
unary_query (Apply values) source = applied source values.now
unary_query (Project places) source = projected source places.now
unary_query (Between area) source = between source area.now
unary_query (Subarray area) source = subarray source area.now
unary_query (Slice fixed) source = sliced source fixed.now
unary_query (Redimension schema gs) source = redimensioned source schema.now gs.now
unary_query (Regrid sizes gs) source = regridded source sizes.now gs.now
unary_query (Window reach gs) source = windowed source reach.now gs.now
unary_query (Aggregate gs places) source = aggregated source gs.now places.now
unary_query (Sort keys schema) source = sorted source keys.now schema.now
unary_query (Rank x dims) source = ranked source x dims.now
unary_query (Cumulate gs n) source = cumulated source gs.now n
unary_query Transpose source = transposed source
unary_query Reverse source = reversed source
unary_query (Unpack schema) source = unpacked source schema.now
unary_query (Xgrid sizes) source = xgridded source sizes.now

-- an operator over its left source and its right one
abbrev pub binary_query : BinaryNode → Query → Query → Query
binary_query (Join schema) left right = joined left right schema.now
binary_query (CrossJoin pairs schema) left right = crossed left right pairs.now schema.now
binary_query Merge left right = merged left right
binary_query Concat left right = concatenated left right

abbrev pub shape_query : PlanShape → Query
shape_query (Leaf node) = leaf_query node
shape_query (Unary source node) = unary_query node source.now
shape_query (Binary left right node) = binary_query node left.now right.now
