-- What a plan needs of its sources, and of a leaf, by the number of its sources.
use Rattle.std.specs.Prelude.{List, [], ◌∷◌}
use Rattle.cell_values.specs.declared.schema.Bounds.{Bounds}
use Rattle.logical_plan.specs.declared.arity.BinaryNode.{BinaryNode}
use Rattle.logical_plan.specs.declared.arity.BinaryNode.TheVariants.{Join, CrossJoin, Merge, Concat}
use Rattle.logical_plan.specs.declared.arity.LeafNode.{LeafNode}
use Rattle.logical_plan.specs.declared.arity.LeafNode.TheVariants.{Build, Literal, Scan}
use Rattle.logical_plan.specs.declared.arity.UnaryNode.{UnaryNode}
use Rattle.logical_plan.specs.declared.arity.UnaryNode.TheVariants.{Filter, Apply, Project, Between, Subarray, Slice, Redimension, Regrid}
use Rattle.logical_plan.specs.declared.arity.UnaryNode.TheVariants.{Window, Aggregate, Sort, Rank, Cumulate, Transpose, Reverse, Unpack, Xgrid}
use Rattle.logical_plan.specs.PlanSchema.{schema_of}
use Rattle.logical_plan.specs.Query.{Query}
use Rattle.plan_needs.specs.Needs.{is_scan}
use Rattle.plan_needs.specs.OrderSides.{of_rank, of_cumulate}
use Rattle.plan_needs.specs.ShapeSides.{of_transpose, of_reverse, of_xgrid, of_front, of_behind}
use Rattle.plan_needs.specs.Sides.{Sides, box_of, whole, of_between, of_subarray, of_slice, of_left, of_right, of_regrid, of_aggregate, of_window}

abbrev pub leaf_needs : LeafNode → Sides → List Bounds
leaf_needs (Build schema value) sides = []
leaf_needs (Literal schema rows) sides = []
leaf_needs (Scan leaf) sides = box_of sides ∷ []

-- of the source of an operator
abbrev pub source_sides : UnaryNode → Query → Sides → Sides
source_sides (Filter test) source sides = sides
source_sides (Apply values) source sides = sides
source_sides (Project places) source sides = sides
source_sides (Between area) source sides = of_between area.now sides
source_sides (Subarray area) source sides = of_subarray (schema_of source).dimensions area.now sides
source_sides (Slice fixed) source sides = of_slice (schema_of source).dimensions fixed.now sides
source_sides (Redimension schema gs) source sides = whole (schema_of source).dimensions
source_sides (Regrid sizes gs) source sides = of_regrid (schema_of source).dimensions sizes.now sides
source_sides (Window reach gs) source sides = of_window (is_scan source) (schema_of source).dimensions reach.now sides
source_sides (Aggregate gs places) source sides = of_aggregate (schema_of source).dimensions places.now sides
source_sides (Sort keys schema) source sides = whole (schema_of source).dimensions
source_sides (Rank x dims) source sides = of_rank (schema_of source).dimensions dims.now sides
source_sides (Cumulate gs n) source sides = of_cumulate (schema_of source).dimensions n sides
source_sides Transpose source sides = of_transpose sides
source_sides Reverse source sides = of_reverse (schema_of source).dimensions sides
source_sides (Unpack schema) source sides = whole (schema_of source).dimensions
source_sides (Xgrid sizes) source sides = of_xgrid (schema_of source).dimensions sizes.now sides

-- of the left source of two, and of the right one
abbrev pub left_sides : BinaryNode → Query → Sides → Sides
left_sides (Join schema) left sides = sides
left_sides (CrossJoin pairs schema) left sides = of_left (schema_of left).dimensions sides
left_sides Merge left sides = sides
left_sides Concat left sides = of_front (schema_of left).dimensions sides

abbrev pub right_sides : BinaryNode → Query → Query → Sides → Sides
right_sides (Join schema) left right sides = sides
right_sides (CrossJoin pairs schema) left right sides = of_right (schema_of left).dimensions (schema_of right).dimensions pairs.now sides
right_sides Merge left right sides = sides
right_sides Concat left right sides = of_behind (schema_of left).dimensions (schema_of right).dimensions sides
