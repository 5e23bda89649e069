-- The text of an array as CSV: a record of names, and a record for each cell, in the order of the rows.
use Rattle.std.specs.Prelude.{ℕ, List, [], ◌++◌, map}
use Rattle.std.specs.Fmt.{signed_decimal}
use Rattle.std.specs.List.{flat_map}
use Rattle.csv.specs.Writing.{default_writer, row_text}
use Rattle.cell_values.specs.declared.datum.Cell.{Cell}
use Rattle.cell_values.specs.declared.datum.Cell.TheVariants.{Full, Doubt}
use Rattle.cell_values.specs.declared.datum.Row.{Row}
use Rattle.cell_values.specs.declared.schema.Schema.{Schema}
use Rattle.cell_values.specs.Schemas.{attribute_names, dimension_names}
use Rattle.result_print.specs.Texts.{spelled}

-- A record of fields: commas between, and a line feed behind. A field with a comma, a quote, a carriage return or a line feed in it
-- stands in quotes, and each quote in it is doubled.
abbrev pub record_text : List (List ℕ) → List ℕ
record_text = row_text default_writer

-- the names of the dimensions, and those of the attributes
abbrev pub name_fields : Schema → List (List ℕ)
name_fields schema = dimension_names schema.dimensions ++ attribute_names schema.attributes

-- the values of a cell; a doubt has none
abbrev pub value_fields : Cell → List (List ℕ)
value_fields (Full values) = map spelled values
value_fields (Doubt kind) = []

-- the coordinate, the first dimension first, and the values
abbrev pub row_fields : Row → List (List ℕ)
row_fields row = map signed_decimal row.at.items ++ value_fields row.cell

-- `x,y,a`
abbrev pub name_record : Schema → List ℕ
name_record schema = record_text (name_fields schema)

-- `0,1,5`
abbrev pub row_record : Row → List ℕ
row_record row = record_text (row_fields row)

abbrev pub csv_text : Schema → List Row → List ℕ
csv_text schema rows = name_record schema ++ flat_map row_record rows
