-- Rows that are moved are the rows of an array.
use Rattle.std.specs.Prelude.{List}
use Rattle.cell_values.specs.declared.datum.Row.{Row}
use Rattle.cell_values.specs.declared.schema.Bounds.{Bounds}
use Rattle.cell_values.specs.declared.schema.Schema.{Schema}
use Rattle.cell_values.specs.Schemas.{IsValid}
use Rattle.array_rows.specs.Arrays.{AreRowsOf}
use Rattle.array_rows.specs.Boxes.{meet, bounds_of}
use Rattle.logical_plan.specs.declared.parts.Fixed.{Fixed}
use Rattle.logical_plan.specs.BoxOps.{subarray_rows, slice_rows}
use Rattle.logical_plan.specs.PlanSchema.{subarray_schema, slice_schema}

-- the rows in a box, which then begins at 0, are those of the part's schema
abbrev pub SubarraysAreArrays : Type 0
SubarraysAreArrays = (area : Bounds) (schema : Schema) (rows : List Row) → AreRowsOf schema rows → IsValid (subarray_schema area schema)
    → AreRowsOf (subarray_schema area schema) (subarray_rows (meet (bounds_of schema.dimensions) area) rows)

-- the rows with fixed numbers, without these, are those of the slice's schema
abbrev pub SlicesAreArrays : Type 0
SlicesAreArrays = (fixed : List Fixed) (schema : Schema) (rows : List Row) → AreRowsOf schema rows → IsValid (slice_schema fixed schema)
    → AreRowsOf (slice_schema fixed schema) (slice_rows fixed rows)
