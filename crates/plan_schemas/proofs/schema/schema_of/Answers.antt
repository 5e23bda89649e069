use Rattle.logical_plan.proofs.SchemaLaws.{schema_meant}
use Rattle.plan_schemas.proofs.schema.schema_of.Goals as goal

pub returns-clause-meaning : goal.returns-clause-meaning
returns-clause-meaning c = schema_meant c.schema_within.result c.args.plan.now c.schema_within.ensures
