-- The plans of `transpose`, `reverse`, `unpack` and `xgrid` over a source, and of `merge` and `concat` over two: their own rules, and then those of
-- the new schema.
use Rattle.std.specs.Prelude.{Ok, List}
use Rattle.cell_values.specs.declared.name.Span.{Span}
use Rattle.afl_trees.specs.Term.{Term}
use Rattle.logical_plan.specs.PlanSchema.{schema_of}
use Rattle.logical_plan.specs.Query.{Query, transposed, reversed, unpacked, xgridded, merged, concatenated}
use Rattle.check_rules.specs.Checked.{Checked, then}
use Rattle.check_rules.specs.NewSchema.{of_new_schema}
use Rattle.check_shapes.specs.Pairs.{concat_rules, merge_rules}
use Rattle.check_shapes.specs.Reverse.{reverse_rules}
use Rattle.check_shapes.specs.Tables.{all_hold}
use Rattle.check_shapes.specs.Unpack.{unpack_parts}
use Rattle.check_shapes.specs.Xgrid.{xgrid_parts}

abbrev pub transpose_call : Span → Query → Checked Query
transpose_call s source = of_new_schema s (transposed source)

-- the content of the source stands at a place. The schema stays
abbrev pub reverse_call : Span → Query → Checked Query
reverse_call at source = then (all_hold (reverse_rules at (schema_of source))) (λ hold. Ok (reversed source))

abbrev pub unpack_call : Span → Query → List Term → Checked Query
unpack_call s source arguments = then (unpack_parts s (schema_of source) arguments) (λ schema. of_new_schema s (unpacked source schema))

abbrev pub xgrid_call : Span → Query → List Term → Checked Query
xgrid_call s source arguments = then (xgrid_parts s (schema_of source) arguments) (λ sizes. of_new_schema s (xgridded source sizes))

abbrev pub merge_call : Span → Query → Query → Checked Query
merge_call s left right = then (all_hold (merge_rules s (schema_of left) (schema_of right))) (λ hold. of_new_schema s (merged left right))

-- the content of the left source stands at a place
abbrev pub concat_call : Span → Span → Query → Query → Checked Query
concat_call s at left right =
    then (all_hold (concat_rules s at (schema_of left) (schema_of right))) (λ hold. of_new_schema s (concatenated left right))
