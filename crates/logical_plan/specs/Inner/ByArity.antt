-- The schema and the meaning of an operator, by those of its sources.
use Rattle.cell_values.specs.declared.schema.Schema.{Schema}
use Rattle.array_rows.specs.Arrays.{Meant}
use Rattle.array_rows.specs.Boxes.{within, meet, bounds_of}
use Rattle.logical_plan.specs.declared.arity.BinaryNode.{BinaryNode}
use Rattle.logical_plan.specs.declared.arity.BinaryNode.TheVariants.{Join, CrossJoin, Merge, Concat}
use Rattle.logical_plan.specs.declared.arity.UnaryNode.{UnaryNode}
use Rattle.logical_plan.specs.declared.arity.UnaryNode.TheVariants.{Filter, Apply, Project, Between, Subarray, Slice, Redimension, Regrid}
use Rattle.logical_plan.specs.declared.arity.UnaryNode.TheVariants.{Window, Aggregate, Sort, Rank, Cumulate, Transpose, Reverse, Unpack, Xgrid}
use Rattle.logical_plan.specs.BoxOps.{subarray_rows, slice_rows}
use Rattle.logical_plan.specs.CellOps.{filter_rows, apply_rows, project_rows}
use Rattle.logical_plan.specs.Groups.{regrid_rows, window_rows, aggregate_rows}
use Rattle.logical_plan.specs.Joins.{join_rows, cross_rows}
use Rattle.logical_plan.specs.Made.{made, made_of_two}
use Rattle.logical_plan.specs.Meaning.{redimensioned_from, sorted_from}
use Rattle.logical_plan.specs.Ordered.{rank_rows, cumulate_rows}
use Rattle.logical_plan.specs.PlanSchema.{apply_schema, project_schema, subarray_schema, slice_schema, regrid_schema, window_schema, aggregate_schema}
use Rattle.logical_plan.specs.PlanSchema.{rank_schema, cumulate_schema}
use Rattle.logical_plan.specs.ShapeMeant.{transpose_meant, reverse_meant, unpack_meant, xgrid_meant, merge_meant, concat_meant}
use Rattle.logical_plan.specs.ShapeSchemas.{transpose_schema, xgrid_schema, merge_schema, concat_schema}

-- ---- schemas

abbrev pub unary_schema : UnaryNode → Schema → Schema
unary_schema (Filter test) source = source
unary_schema (Apply values) source = apply_schema values.now source
unary_schema (Project places) source = project_schema places.now source
unary_schema (Between area) source = source
unary_schema (Subarray area) source = subarray_schema area.now source
unary_schema (Slice fixed) source = slice_schema fixed.now source
unary_schema (Redimension schema gs) source = schema.now
unary_schema (Regrid sizes gs) source = regrid_schema sizes.now gs.now source
unary_schema (Window reach gs) source = window_schema gs.now source
unary_schema (Aggregate gs places) source = aggregate_schema gs.now places.now source
unary_schema (Sort keys schema) source = schema.now
unary_schema (Rank x dims) source = rank_schema x source
unary_schema (Cumulate gs n) source = cumulate_schema gs.now source
unary_schema Transpose source = transpose_schema source
unary_schema Reverse source = source
unary_schema (Unpack schema) source = schema.now
unary_schema (Xgrid sizes) source = xgrid_schema sizes.now source

abbrev pub binary_schema : BinaryNode → Schema → Schema → Schema
binary_schema (Join schema) left right = schema.now
binary_schema (CrossJoin pairs schema) left right = schema.now
binary_schema Merge left right = merge_schema left right
binary_schema Concat left right = concat_schema left right

-- ---- meanings

abbrev pub unary_meant : UnaryNode → Meant → Meant
unary_meant (Filter test) source = made (λ s. s) (λ s. filter_rows test.now) source
unary_meant (Apply values) source = made (apply_schema values.now) (λ s. apply_rows values.now) source
unary_meant (Project places) source = made (project_schema places.now) (λ s. project_rows places.now) source
unary_meant (Between area) source = made (λ s. s) (λ s. within area.now) source
unary_meant (Subarray area) source = made (subarray_schema area.now) (λ s. subarray_rows (meet (bounds_of s.dimensions) area.now)) source
unary_meant (Slice fixed) source = made (slice_schema fixed.now) (λ s. slice_rows fixed.now) source
unary_meant (Redimension schema gs) source = redimensioned_from schema.now gs.now source
unary_meant (Regrid sizes gs) source = made (regrid_schema sizes.now gs.now) (λ s. regrid_rows (bounds_of s.dimensions).lo.items sizes.now gs.now) source
unary_meant (Window reach gs) source = made (window_schema gs.now) (λ s. window_rows reach.now gs.now) source
unary_meant (Aggregate gs places) source = made (aggregate_schema gs.now places.now) (λ s. aggregate_rows places.now gs.now) source
unary_meant (Sort keys schema) source = sorted_from keys.now schema.now source
unary_meant (Rank x dims) source = made (rank_schema x) (λ s. rank_rows x dims.now) source
unary_meant (Cumulate gs n) source = made (cumulate_schema gs.now) (λ s. cumulate_rows n gs.now) source
unary_meant Transpose source = transpose_meant source
unary_meant Reverse source = reverse_meant source
unary_meant (Unpack schema) source = unpack_meant schema.now source
unary_meant (Xgrid sizes) source = xgrid_meant sizes.now source

abbrev pub binary_meant : BinaryNode → Meant → Meant → Meant
binary_meant (Join schema) left right = made_of_two schema.now join_rows left right
binary_meant (CrossJoin pairs schema) left right = made_of_two schema.now (cross_rows pairs.now) left right
binary_meant Merge left right = merge_meant left right
binary_meant Concat left right = concat_meant left right
