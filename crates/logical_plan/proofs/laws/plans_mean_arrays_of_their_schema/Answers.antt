use Rattle.logical_plan.proofs.SchemaLaws.{meaning_schema, typed_valid}
use Rattle.logical_plan.proofs.laws.plans_mean_arrays_of_their_schema.Goals as goal

pub returns-clause-schema : goal.returns-clause-schema
returns-clause-schema c = meaning_schema

pub returns-clause-valid : goal.returns-clause-valid
returns-clause-valid c = typed_valid
