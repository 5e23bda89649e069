-- The plans of `join` and `cross_join` that checking answers are typed where their sources are.
use Rattle.std.proofs.Common.{IfOk, List}
use Rattle.cell_values.specs.declared.name.Span.{Span}
use Rattle.cell_values.specs.declared.schema.Schema.{Schema}
use Rattle.cell_values.specs.Schemas.{IsValid}
use Rattle.afl_trees.specs.Term.{Term}
use Rattle.logical_plan.proofs.SchemaLaws.{typed_valid}
use Rattle.logical_plan.specs.PlanSchema.{schema_of}
use Rattle.logical_plan.specs.Query.{Query, joined, crossed}
use Rattle.logical_plan.specs.Typing.{IsTyped}
use Rattle.check_rules.proofs.RulesHolding.{thens, of_answer}
use Rattle.check_rules.proofs.OperatorsHolding.{new_holds}
use Rattle.check_joins.specs.Crosses.{cross_parts}
use Rattle.check_joins.specs.JoinSchemas.{joined_schema}
use Rattle.check_joins.proofs.SchemasFit.{JoinFits, CrossFits, join_fits, cross_fits}
use Rattle.afl_types.specs.JoinCalls.{join_call, cross_call}

module _ (s : Span) (left right : Query) (left_typed : IsTyped left) (right_typed : IsTyped right) where
  abbrev l : Schema
  l = schema_of left

  abbrev r : Schema
  r = schema_of right

  l_valid : IsValid l
  l_valid = typed_valid left left_typed

  r_valid : IsValid r
  r_valid = typed_valid right right_typed

  pub join_typed : IfOk (join_call s left right) IsTyped
  join_typed =
      thens IsTyped (joined_schema s l r) _ (λ schema e.
      let fits : JoinFits s l r l_valid r_valid schema = of_answer (JoinFits s l r l_valid r_valid) (joined_schema s l r) schema (join_fits s l r l_valid r_valid) e in
      new_holds IsTyped s (joined left right schema) (λ within. (left_typed, right_typed, fits.bounds, fits.schema, fits.valid within)))

  pub cross_typed : (arguments : List Term) → IfOk (cross_call s left right arguments) IsTyped
  cross_typed arguments =
      thens IsTyped (cross_parts s l r arguments) _ (λ p e.
      let fits : CrossFits s l r l_valid r_valid p = of_answer (CrossFits s l r l_valid r_valid) (cross_parts s l r arguments) p (cross_fits s l r l_valid r_valid arguments) e in
      new_holds IsTyped s (crossed left right p.pairs p.schema) (λ within. (left_typed, right_typed, fits.pairs, fits.schema, fits.valid within)))
