-- What an operator makes of arrays that may be broken.
use Rattle.std.specs.Prelude.{List, Result, Ok}
use Rattle.cell_values.specs.declared.datum.Broken.{Broken}
use Rattle.cell_values.specs.declared.datum.Row.{Row}
use Rattle.cell_values.specs.declared.schema.Schema.{Schema}
use Rattle.array_rows.specs.Arrays.{Meant}
use Rattle.array_rows.specs.Boxes.{within, bounds_of}
use Rattle.logical_plan.specs.Faults.{if_whole, and_then}

-- an array that is not broken
abbrev pub whole : Schema → List Row → Meant
whole schema rows = record { schema = schema; rows = Ok rows }

-- what an operator makes of its source: its schema, and its rows where the source is not broken
abbrev pub made : (Schema → Schema) → (Schema → List Row → List Row) → Meant → Meant
made schema rows source = record { schema = schema source.schema; rows = if_whole (rows source.schema) source.rows }

-- what an operator makes whose cells are numbered from 0 along the one dimension of a schema, and which some cell may break. Beyond its
-- last place, up to which no array in memory has so many cells, there is no cell
abbrev pub made_numbers : Schema → (List Row → Result (List Row) Broken) → Meant → Meant
made_numbers schema rows source = record { schema = schema; rows = if_whole (within (bounds_of schema.dimensions)) (and_then rows source.rows) }

-- what an operator makes of two sources; of two broken ones the left one breaks the result
abbrev pub made_of_two : Schema → (List Row → List Row → List Row) → Meant → Meant → Meant
made_of_two schema rows left right = record { schema = schema; rows = and_then (λ l. if_whole (rows l) right.rows) left.rows }
