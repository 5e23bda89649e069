use Rattle.std.proofs.Common.{◌≡◌}
use Rattle.logical_plan.specs.PlanSchema.{cross_schema}
use Rattle.check_joins.specs.Crosses.{crossed_by}
use Rattle.check_joins.specs.declared.cross.Crossed.{Crossed}
use Rattle.check_joins.proofs.Made.{answered, crossed_is}
use Rattle.check_joins.proofs.cross.cross_parts.Goals as goal

pub returns-clause-schema : goal.returns-clause-schema
returns-clause-schema c =
    let left = c.args.left.now in
    let right = c.args.right.now in
    answered (λ (p : Crossed). p.schema ≡ cross_schema p.pairs left right) c.crossed_by.result (crossed_by c.args.span left right c.in_ok-pairs.pairs) c.crossed_by.ensures
    (crossed_is c.args.span left right c.in_ok-pairs.pairs)
