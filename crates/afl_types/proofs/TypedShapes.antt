-- The plans of `transpose`, `reverse`, `unpack`, `xgrid`, `merge` and `concat` that checking answers are typed where their sources are.
use Rattle.std.proofs.Common.{IfOk, List}
use Rattle.cell_values.specs.declared.name.Span.{Span}
use Rattle.cell_values.specs.declared.schema.Schema.{Schema}
use Rattle.cell_values.specs.Schemas.{IsValid}
use Rattle.afl_trees.specs.Term.{Term}
use Rattle.logical_plan.proofs.SchemaLaws.{typed_valid}
use Rattle.logical_plan.specs.PlanSchema.{schema_of}
use Rattle.logical_plan.specs.Query.{Query, transposed, unpacked, xgridded, merged, concatenated}
use Rattle.logical_plan.specs.Typing.{IsTyped}
use Rattle.check_rules.proofs.RulesHolding.{thens, of_answer}
use Rattle.check_rules.proofs.OperatorsHolding.{new_holds}
use Rattle.check_shapes.specs.Pairs.{concat_rules, merge_rules}
use Rattle.check_shapes.specs.Reverse.{reverse_rules}
use Rattle.check_shapes.specs.Tables.{all_hold}
use Rattle.check_shapes.specs.Unpack.{unpack_parts}
use Rattle.check_shapes.specs.Xgrid.{xgrid_parts}
use Rattle.check_shapes.proofs.PairsFit.{MergeFits, ConcatFits, merge_fits, concat_fits}
use Rattle.check_shapes.proofs.ShapesFit.{UnpackFits, XgridFits, transpose_valid, reverse_fits, unpack_fits, xgrid_fits}
use Rattle.afl_types.specs.ShapeCalls.{transpose_call, reverse_call, unpack_call, xgrid_call, merge_call, concat_call}

module _ (s : Span) (source : Query) (typed_source : IsTyped source) where
  abbrev shape : Schema
  shape = schema_of source

  valid : IsValid shape
  valid = typed_valid source typed_source

  pub transpose_typed : IfOk (transpose_call s source) IsTyped
  transpose_typed = new_holds IsTyped s (transposed source) (λ within. (typed_source, transpose_valid s shape valid within))

  pub reverse_typed : (at : Span) → IfOk (reverse_call at source) IsTyped
  reverse_typed at = thens IsTyped (all_hold (reverse_rules at shape)) _ (λ hold e. (typed_source, reverse_fits s shape valid at hold e))

  pub unpack_typed : (arguments : List Term) → IfOk (unpack_call s source arguments) IsTyped
  unpack_typed arguments =
      thens IsTyped (unpack_parts s shape arguments) _ (λ schema e.
      let fits : UnpackFits s shape valid schema = of_answer (UnpackFits s shape valid) (unpack_parts s shape arguments) schema (unpack_fits s shape valid arguments) e in
      new_holds IsTyped s (unpacked source schema) (λ within. (typed_source, fits.schema, fits.valid within)))

  pub xgrid_typed : (arguments : List Term) → IfOk (xgrid_call s source arguments) IsTyped
  xgrid_typed arguments =
      thens IsTyped (xgrid_parts s shape arguments) _ (λ sizes e.
      let fits : XgridFits s shape valid sizes = of_answer (XgridFits s shape valid) (xgrid_parts s shape arguments) sizes (xgrid_fits s shape valid arguments) e in
      new_holds IsTyped s (xgridded source sizes) (λ within. (typed_source, fits.fit, fits.valid within)))

module _ (s : Span) (left right : Query) (left_typed : IsTyped left) (right_typed : IsTyped right) where
  abbrev l : Schema
  l = schema_of left

  abbrev r : Schema
  r = schema_of right

  l_valid : IsValid l
  l_valid = typed_valid left left_typed

  pub merge_typed : IfOk (merge_call s left right) IsTyped
  merge_typed =
      thens IsTyped (all_hold (merge_rules s l r)) _ (λ hold e.
      let fits : MergeFits s l r l_valid = merge_fits s l r l_valid hold e in
      new_holds IsTyped s (merged left right) (λ within. (left_typed, right_typed, fits.fit, fits.valid within)))

  pub concat_typed : (at : Span) → IfOk (concat_call s at left right) IsTyped
  concat_typed at =
      thens IsTyped (all_hold (concat_rules s at l r)) _ (λ hold e.
      let fits : ConcatFits s l r l_valid = concat_fits s l r l_valid at hold e in
      new_holds IsTyped s (concatenated left right) (λ within. (left_typed, right_typed, fits.fit, fits.valid within)))
