-- The plan of `redimension` that checking answers is typed where its source is.
use Rattle.std.proofs.Common.{IfOk, List}
use Rattle.cell_values.specs.declared.name.Span.{Span}
use Rattle.cell_values.specs.declared.schema.Schema.{Schema}
use Rattle.afl_trees.specs.Term.{Term}
use Rattle.logical_plan.specs.PlanSchema.{schema_of}
use Rattle.logical_plan.specs.Query.{Query}
use Rattle.logical_plan.specs.Typing.{IsTyped}
use Rattle.check_rules.proofs.RulesHolding.{thens, of_answer}
use Rattle.check_sources.specs.Redimension.{redimension_parts}
use Rattle.check_sources.proofs.PartsFit.{MovedFit, redimension_fits}
use Rattle.afl_types.specs.MovedCalls.{redimension_call}

module _ (s : Span) (source : Query) (typed_source : IsTyped source) where
  abbrev shape : Schema
  shape = schema_of source

  pub redimension_typed : (arguments : List Term) → IfOk (redimension_call s source arguments) IsTyped
  redimension_typed arguments =
      thens IsTyped (redimension_parts s shape arguments) _ (λ p e.
      let fits : MovedFit s shape p = of_answer (MovedFit s shape) (redimension_parts s shape arguments) p (redimension_fits s shape arguments) e in
      (typed_source, fits.fit, fits.valid))
