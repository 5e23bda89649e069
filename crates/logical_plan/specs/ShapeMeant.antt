-- What these operators make of arrays. A broken source breaks the result, of two broken ones the left one.
use Rattle.std.specs.Prelude.{ℕ, List}
use Rattle.cell_values.specs.declared.schema.Schema.{Schema}
use Rattle.array_rows.specs.Arrays.{Meant}
use Rattle.logical_plan.specs.Made.{made, made_numbers, made_of_two}
use Rattle.logical_plan.specs.Shapes.{transpose_rows, reverse_rows, unpack_rows, xgrid_rows, merge_rows, concat_rows, step_between}
use Rattle.logical_plan.specs.ShapeSchemas.{transpose_schema, xgrid_schema, merge_schema, concat_schema}

abbrev pub transpose_meant : Meant → Meant
transpose_meant = made transpose_schema (λ s. transpose_rows)

abbrev pub reverse_meant : Meant → Meant
reverse_meant = made (λ s. s) (λ s. reverse_rows s.dimensions)

-- the schema is the plan's; some cell may break the result
abbrev pub unpack_meant : Schema → Meant → Meant
unpack_meant schema = made_numbers schema unpack_rows

abbrev pub xgrid_meant : List ℕ → Meant → Meant
xgrid_meant sizes = made (xgrid_schema sizes) (λ s. xgrid_rows s.dimensions sizes)

abbrev pub merge_meant : Meant → Meant → Meant
merge_meant left right = made_of_two (merge_schema left.schema right.schema) merge_rows left right

abbrev pub concat_meant : Meant → Meant → Meant
concat_meant left right =
    made_of_two (concat_schema left.schema right.schema) (concat_rows (step_between left.schema.dimensions right.schema.dimensions)) left right
