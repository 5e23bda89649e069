-- The plans of `regrid`, `window` and `aggregate` that checking answers are typed where their source is.
use Rattle.std.proofs.Common.{IfOk, List}
use Rattle.cell_values.specs.declared.name.Span.{Span}
use Rattle.cell_values.specs.declared.schema.Schema.{Schema}
use Rattle.cell_values.specs.Schemas.{IsValid}
use Rattle.afl_trees.specs.Term.{Term}
use Rattle.logical_plan.proofs.SchemaLaws.{typed_valid}
use Rattle.logical_plan.specs.PlanSchema.{schema_of}
use Rattle.logical_plan.specs.Query.{Query, regridded, windowed, aggregated}
use Rattle.logical_plan.specs.Typing.{IsTyped}
use Rattle.check_rules.proofs.RulesHolding.{thens, of_answer}
use Rattle.check_rules.proofs.OperatorsHolding.{new_holds}
use Rattle.check_groups.specs.Blocks.{regrid_parts}
use Rattle.check_groups.specs.Groups.{aggregate_parts}
use Rattle.check_groups.specs.Windows.{window_parts}
use Rattle.check_groups.proofs.PartsFit.{BlocksFit, WindowsFit, GroupsFit, regrid_fits, window_fits, aggregate_fits}
use Rattle.afl_types.specs.GroupCalls.{regrid_call, window_call, aggregate_call}

module _ (s : Span) (source : Query) (typed_source : IsTyped source) where
  abbrev shape : Schema
  shape = schema_of source

  valid : IsValid shape
  valid = typed_valid source typed_source

  pub regrid_typed : (arguments : List Term) → IfOk (regrid_call s source arguments) IsTyped
  regrid_typed arguments =
      thens IsTyped (regrid_parts s shape arguments) _ (λ p e.
      let fits : BlocksFit s shape valid p = of_answer (BlocksFit s shape valid) (regrid_parts s shape arguments) p (regrid_fits s shape valid arguments) e in
      new_holds IsTyped s (regridded source p.sizes p.aggregates) (λ within. (typed_source, fits.fit, fits.valid within)))

  pub window_typed : (arguments : List Term) → IfOk (window_call s source arguments) IsTyped
  window_typed arguments =
      thens IsTyped (window_parts s shape arguments) _ (λ p e.
      let fits : WindowsFit s shape valid p = of_answer (WindowsFit s shape valid) (window_parts s shape arguments) p (window_fits s shape valid arguments) e in
      new_holds IsTyped s (windowed source p.reach p.aggregates) (λ within. (typed_source, fits.fit, fits.valid within)))

  pub aggregate_typed : (arguments : List Term) → IfOk (aggregate_call s source arguments) IsTyped
  aggregate_typed arguments =
      thens IsTyped (aggregate_parts s shape arguments) _ (λ p e.
      let fits : GroupsFit s shape valid p = of_answer (GroupsFit s shape valid) (aggregate_parts s shape arguments) p (aggregate_fits s shape valid arguments) e in
      new_holds IsTyped s (aggregated source p.aggregates p.places) (λ within. (typed_source, fits.fit, fits.valid within)))
