-- The plan of `redimension` over a source. The schema of the result keeps the rules of a new schema: they are those of the schema that is written.
use Rattle.std.specs.Prelude.{Ok, List}
use Rattle.cell_values.specs.declared.name.Span.{Span}
use Rattle.afl_trees.specs.Term.{Term}
use Rattle.logical_plan.specs.PlanSchema.{schema_of}
use Rattle.logical_plan.specs.Query.{Query, redimensioned}
use Rattle.check_rules.specs.Checked.{Checked, then}
use Rattle.check_sources.specs.Redimension.{redimension_parts}

abbrev pub redimension_call : Span → Query → List Term → Checked Query
redimension_call s source arguments = then (redimension_parts s (schema_of source) arguments) (λ p. Ok (redimensioned source p.schema p.aggregates))
