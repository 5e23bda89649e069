-- When a plan may stand for another one.
use Rattle.std.specs.Prelude.{◌≡◌, IsTrue}
use Rattle.logical_plan.specs.Leaves.{leaves}
use Rattle.logical_plan.specs.Meaning.{Database, meaning}
use Rattle.logical_plan.specs.PlanSchema.{schema_of}
use Rattle.logical_plan.specs.Query.{Query}
use Rattle.logical_plan.specs.Typing.{IsTyped}
use Rattle.plan_needs.specs.Needs.{is_scan, needs}
use Rattle.plan_needs.specs.Sides.{Sides}
use Rattle.plan_needs.specs.Sufficient.{HasArrays}
use Rattle.plan_rewrite.specs.Settled.{is_settled}

-- The same leaves in the same order, the same schema, and over every such database the same meaning, faults included. For each box
-- of the result the same boxes of the leaves are needed.
pub record IsSame (query result : Query) : Type 0 where
  pub keeps_type : IsTyped query → IsTyped result
  pub same_schema : schema_of result ≡ schema_of query
  pub same_leaves : leaves result ≡ leaves query
  pub same_meaning : (db : Database) → HasArrays db query → meaning db result ≡ meaning db query
  pub same_needs : (sides : Sides) → needs result sides ≡ needs query sides
  pub same_scan : is_scan result ≡ is_scan query

-- a settled plan in place of another one
pub record IsRewritten (query result : Query) : Type 0 where
  pub is_same : IsSame query result
  pub is_typed : IsTyped result
  pub settled : IsTrue (is_settled result)
