-- The plans of `sort`, `rank` and `cumulate` that checking answers are typed where their source is.
use Rattle.std.proofs.Common.{IfOk, List}
use Rattle.cell_values.specs.declared.name.Span.{Span}
use Rattle.cell_values.specs.declared.schema.Schema.{Schema}
use Rattle.cell_values.specs.Schemas.{IsValid}
use Rattle.afl_trees.specs.Term.{Term}
use Rattle.logical_plan.proofs.SchemaLaws.{typed_valid}
use Rattle.logical_plan.specs.PlanSchema.{schema_of}
use Rattle.logical_plan.specs.Query.{Query, sorted, ranked, cumulated}
use Rattle.logical_plan.specs.Typing.{IsTyped}
use Rattle.check_rules.proofs.RulesHolding.{thens, of_answer}
use Rattle.check_rules.proofs.OperatorsHolding.{new_holds}
use Rattle.check_groups.specs.Cumulations.{cumulate_parts}
use Rattle.check_groups.proofs.PartsFit.{CumulationFits, cumulate_fits}
use Rattle.check_shapes.specs.Rank.{rank_parts}
use Rattle.check_shapes.specs.Sort.{sort_parts}
use Rattle.check_shapes.proofs.OrdersFit.{SortFits, RankFits, sort_fits, rank_fits}
use Rattle.afl_types.specs.OrderCalls.{sort_call, rank_call, cumulate_call}

module _ (s : Span) (source : Query) (typed_source : IsTyped source) where
  abbrev shape : Schema
  shape = schema_of source

  valid : IsValid shape
  valid = typed_valid source typed_source

  pub sort_typed : (arguments : List Term) → IfOk (sort_call s source arguments) IsTyped
  sort_typed arguments =
      thens IsTyped (sort_parts s shape arguments) _ (λ p e.
      let fits : SortFits s shape valid p = of_answer (SortFits s shape valid) (sort_parts s shape arguments) p (sort_fits s shape valid arguments) e in
      new_holds IsTyped s (sorted source p.keys p.schema) (λ within. (typed_source, fits.keys, fits.schema, fits.valid within)))

  pub rank_typed : (arguments : List Term) → IfOk (rank_call s source arguments) IsTyped
  rank_typed arguments =
      thens IsTyped (rank_parts s shape arguments) _ (λ p e.
      let fits : RankFits s shape valid p = of_answer (RankFits s shape valid) (rank_parts s shape arguments) p (rank_fits s shape valid arguments) e in
      new_holds IsTyped s (ranked source p.attribute p.dimensions) (λ within. (typed_source, fits.fit, fits.valid within)))

  pub cumulate_typed : (arguments : List Term) → IfOk (cumulate_call s source arguments) IsTyped
  cumulate_typed arguments =
      thens IsTyped (cumulate_parts s shape arguments) _ (λ p e.
      let fits : CumulationFits s shape valid p = of_answer (CumulationFits s shape valid) (cumulate_parts s shape arguments) p (cumulate_fits s shape valid arguments) e in
      new_holds IsTyped s (cumulated source p.aggregates p.dimension) (λ within. (typed_source, fits.fit, fits.valid within)))
