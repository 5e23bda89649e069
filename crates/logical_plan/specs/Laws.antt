-- Laws of plans.
use Rattle.std.specs.Prelude.{◌≡◌}
use Rattle.std.specs.Cmp.{IsTotalOrder}
use Rattle.std.specs.declared.cmp.Ordering.TheVariants.{Equal}
use Rattle.cell_values.specs.declared.datum.Datum.{Datum}
use Rattle.cell_values.specs.Schemas.{IsValid}
use Rattle.logical_plan.specs.Groups.{datum_cmp}
use Rattle.logical_plan.specs.Meaning.{Database, meaning}
use Rattle.logical_plan.specs.PlanSchema.{schema_of}
use Rattle.logical_plan.specs.Query.{Query}
use Rattle.logical_plan.specs.Typing.{IsTyped}

-- the array that a plan means has the plan's schema
abbrev pub MeaningHasSchema : Type 0
MeaningHasSchema = (db : Database) (query : Query) → (meaning db query).schema ≡ schema_of query

-- the schema of a typed plan is valid
abbrev pub TypedPlansHaveValidSchemas : Type 0
TypedPlansHaveValidSchemas = (query : Query) → IsTyped query → IsValid (schema_of query)

-- values have one order, in which no two are equal
abbrev pub ValuesAreOrdered : Type 0
ValuesAreOrdered = IsTotalOrder datum_cmp × ((v w : Datum) → datum_cmp v w ≡ Equal → v ≡ w)
