-- The text of an array: a header, and a line for each cell, in the order of the rows.
use Rattle.std.specs.Prelude.{ℕ, ℤ, true, false, List, [], ◌++◌, map, codes}
use Rattle.std.specs.Fmt.{decimal, signed_decimal}
use Rattle.std.specs.List.{flat_map, join_with_byte}
use Rattle.cell_values.specs.declared.datum.Datum.{Datum}
use Rattle.cell_values.specs.declared.datum.Datum.TheVariants.{Null, Missing, Int, Text, Truth, Bad}
use Rattle.cell_values.specs.declared.datum.Cell.{Cell}
use Rattle.cell_values.specs.declared.datum.Cell.TheVariants.{Full, Doubt}
use Rattle.cell_values.specs.declared.datum.Row.{Row}
use Rattle.cell_values.specs.declared.schema.Schema.{Schema}
use Rattle.cell_values.specs.Schemas.{attribute_names, dimension_names}
use Rattle.afl_lexer.specs.Spelling.{quoted_text}

-- A value as an expression spells it: `null`, or `?` and the code of a null that has one; a number in decimal digits;
-- a text in quotes, with a `\` before each `'` and each `\`; `true` or `false`. A fault has no text.
abbrev pub spelled : Datum → List ℕ
spelled Null = codes "null"
spelled (Missing code) = codes "?" ++ decimal code
spelled (Int n) = signed_decimal n
spelled (Text content) = quoted_text content
spelled (Truth true) = codes "true"
spelled (Truth false) = codes "false"
spelled (Bad kind) = []

-- texts with commas between
abbrev pub listed : List (List ℕ) → List ℕ
listed = join_with_byte 44

-- `{0,-1}`: the first dimension first
abbrev pub place_text : List ℤ → List ℕ
place_text numbers = codes "{" ++ listed (map signed_decimal numbers) ++ codes "}"

-- `{x,y} a,b`: the names of the dimensions, and those of the attributes
abbrev pub header : Schema → List ℕ
header schema = codes "{" ++ listed (dimension_names schema.dimensions) ++ codes "} " ++ listed (attribute_names schema.attributes) ++ codes "\n"

-- the values of a cell; a doubt has none
abbrev pub values_text : Cell → List ℕ
values_text (Full values) = listed (map spelled values)
values_text (Doubt kind) = []

-- `{0,1} 5,'t'`
abbrev pub line_of : Row → List ℕ
line_of row = place_text row.at.items ++ codes " " ++ values_text row.cell ++ codes "\n"

abbrev pub array_text : Schema → List Row → List ℕ
array_text schema rows = header schema ++ flat_map line_of rows
