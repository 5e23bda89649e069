-- What parts and slices of an array mean.
use Rattle.std.specs.Prelude.{List}
use Rattle.cell_values.specs.declared.schema.Bounds.{Bounds}
use Rattle.array_rows.specs.Arrays.{Meant}
use Rattle.array_rows.specs.Boxes.{meet, bounds_of}
use Rattle.logical_plan.specs.declared.parts.Fixed.{Fixed}
use Rattle.logical_plan.specs.BoxOps.{subarray_rows, slice_rows}
use Rattle.logical_plan.specs.Meaning.{made}
use Rattle.logical_plan.specs.PlanSchema.{subarray_schema, slice_schema}

-- the part of an array in a box, and a slice of it. A broken array stays broken
abbrev pub part_meant : Bounds → Meant → Meant
part_meant area = made (subarray_schema area) (λ s. subarray_rows (meet (bounds_of s.dimensions) area))

abbrev pub slice_meant : List Fixed → Meant → Meant
slice_meant fixed = made (slice_schema fixed) (λ s. slice_rows fixed)
