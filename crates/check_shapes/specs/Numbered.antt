-- Cells that are numbered: attributes at the numbers from 0 on, along a dimension `NAME=0:*,1000,0`.
use Rattle.std.specs.Prelude.{ℕ, List, [], ◌∷◌}
use Rattle.cell_values.specs.declared.schema.Attribute.{Attribute}
use Rattle.cell_values.specs.declared.schema.Schema.{Schema}
use Rattle.logical_plan.specs.ShapeSchemas.{counting}

abbrev pub numbered_schema : List Attribute → List ℕ → Schema
numbered_schema attributes name = record { attributes = attributes; dimensions = counting name ∷ [] }
