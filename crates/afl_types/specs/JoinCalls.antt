-- The plans of `join` and `cross_join` over two sources: the schema with the names that it gives, and then its other rules.
use Rattle.std.specs.Prelude.{List}
use Rattle.cell_values.specs.declared.name.Span.{Span}
use Rattle.afl_trees.specs.Term.{Term}
use Rattle.logical_plan.specs.PlanSchema.{schema_of}
use Rattle.logical_plan.specs.Query.{Query, joined, crossed}
use Rattle.check_rules.specs.Checked.{Checked, then}
use Rattle.check_rules.specs.NewSchema.{of_new_schema}
use Rattle.check_joins.specs.Crosses.{cross_parts}
use Rattle.check_joins.specs.JoinSchemas.{joined_schema}

abbrev pub join_call : Span → Query → Query → Checked Query
join_call s left right = then (joined_schema s (schema_of left) (schema_of right)) (λ schema. of_new_schema s (joined left right schema))

abbrev pub cross_call : Span → Query → Query → List Term → Checked Query
cross_call s left right arguments =
    then (cross_parts s (schema_of left) (schema_of right) arguments) (λ p. of_new_schema s (crossed left right p.pairs p.schema))
