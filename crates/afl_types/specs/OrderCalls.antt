-- The plans of `sort`, `rank` and `cumulate` over a source: what stands behind it, and then the rules of the new schema.
use Rattle.std.specs.Prelude.{List}
use Rattle.cell_values.specs.declared.name.Span.{Span}
use Rattle.afl_trees.specs.Term.{Term}
use Rattle.logical_plan.specs.PlanSchema.{schema_of}
use Rattle.logical_plan.specs.Query.{Query, sorted, ranked, cumulated}
use Rattle.check_rules.specs.Checked.{Checked, then}
use Rattle.check_rules.specs.NewSchema.{of_new_schema}
use Rattle.check_groups.specs.Cumulations.{cumulate_parts}
use Rattle.check_shapes.specs.Rank.{rank_parts}
use Rattle.check_shapes.specs.Sort.{sort_parts}

abbrev pub sort_call : Span → Query → List Term → Checked Query
sort_call s source arguments = then (sort_parts s (schema_of source) arguments) (λ p. of_new_schema s (sorted source p.keys p.schema))

abbrev pub rank_call : Span → Query → List Term → Checked Query
rank_call s source arguments = then (rank_parts s (schema_of source) arguments) (λ p. of_new_schema s (ranked source p.attribute p.dimensions))

abbrev pub cumulate_call : Span → Query → List Term → Checked Query
cumulate_call s source arguments = then (cumulate_parts s (schema_of source) arguments) (λ p. of_new_schema s (cumulated source p.aggregates p.dimension))
