-- The plans of `regrid`, `window` and `aggregate` over a source: what stands behind it, and then the rules of the new schema.
use Rattle.std.specs.Prelude.{List}
use Rattle.cell_values.specs.declared.name.Span.{Span}
use Rattle.afl_trees.specs.Term.{Term}
use Rattle.logical_plan.specs.PlanSchema.{schema_of}
use Rattle.logical_plan.specs.Query.{Query, regridded, windowed, aggregated}
use Rattle.check_rules.specs.Checked.{Checked, then}
use Rattle.check_rules.specs.NewSchema.{of_new_schema}
use Rattle.check_joins.specs.Blocks.{regrid_parts}
use Rattle.check_joins.specs.Groups.{aggregate_parts}
use Rattle.check_joins.specs.Windows.{window_parts}

abbrev pub regrid_call : Span → Query → List Term → Checked Query
regrid_call s source arguments = then (regrid_parts s (schema_of source) arguments) (λ p. of_new_schema s (regridded source p.sizes p.aggregates))

abbrev pub window_call : Span → Query → List Term → Checked Query
window_call s source arguments = then (window_parts s (schema_of source) arguments) (λ p. of_new_schema s (windowed source p.reach p.aggregates))

abbrev pub aggregate_call : Span → Query → List Term → Checked Query
aggregate_call s source arguments = then (aggregate_parts s (schema_of source) arguments) (λ p. of_new_schema s (aggregated source p.aggregates p.places))
