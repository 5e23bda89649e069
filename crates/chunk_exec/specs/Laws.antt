-- Typed plans mean arrays.
use Rattle.logical_plan.specs.Query.{Query}
use Rattle.plan_changes.specs.Databases.{Database, rows_of, names_of}
use Rattle.plan_changes.specs.Kept.{MeansArray}
use Rattle.plan_changes.specs.Stored.{IsDatabase}
use Rattle.plan_changes.specs.Typed.{IsTypedOver}
use Rattle.chunk_exec.specs.Counts.{CountsFit}

-- over a database that it is typed for a plan means an array of its schema, where it is not broken
abbrev pub TypedPlansMeanArrays : Type 0
TypedPlansMeanArrays = (db : Database) (plan : Query) → IsDatabase db → IsTypedOver (names_of db) plan → CountsFit (rows_of db) plan → MeansArray db plan
