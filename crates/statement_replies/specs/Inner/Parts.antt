-- The parts of an array's text, as CSV where the test is true: what stands before the rows, and what a row adds.
use Rattle.std.specs.Prelude.{ℕ, Bool, true, false, List}
use Rattle.cell_values.specs.declared.datum.Row.{Row}
use Rattle.cell_values.specs.declared.schema.Schema.{Schema}
use Rattle.result_print.specs.Records.{name_record, row_record}
use Rattle.result_print.specs.Texts.{header, line_of}

abbrev pub names_part : Bool → Schema → List ℕ
names_part true = name_record
names_part false = header

abbrev pub row_part : Bool → Row → List ℕ
row_part true = row_record
row_part false = line_of
