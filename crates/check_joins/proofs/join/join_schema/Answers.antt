use Rattle.std.proofs.Common.{◌≡◌, ◌++◌}
use Rattle.cell_values.specs.declared.schema.Schema.{Schema}
use Rattle.logical_plan.specs.PlanSchema.{join_schema}
use Rattle.check_joins.specs.JoinSchemas.{beside}
use Rattle.check_joins.proofs.FreeNames.{are_side_by_side}
use Rattle.check_joins.proofs.Made.{answered}
use Rattle.check_joins.proofs.join.join_schema.Goals as goal

pub returns-clause-schema : goal.returns-clause-schema
returns-clause-schema c =
    let left = c.args.left.now in
    let right = c.args.right.now in
    answered (λ (schema : Schema). schema ≡ join_schema left right) c.both_sides.result (beside c.args.span left.dimensions (left.attributes ++ right.attributes)) c.both_sides.ensures
    (are_side_by_side c.args.span left.dimensions (left.attributes ++ right.attributes))
