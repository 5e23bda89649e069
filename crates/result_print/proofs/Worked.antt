-- Arrays as CSV.
use Rattle.std.proofs.Common.{◌≡◌, ℕ, pos, false, [], ◌∷◌, refl}
use Rattle.std.specs.Prelude.{codes}
use Rattle.std.specs.Fmt.{digits}
use Rattle.csv.specs.Writing.{escaped, fields_text, is_blank}
use Rattle.cell_values.specs.declared.datum.Cell.TheVariants.{Full}
use Rattle.cell_values.specs.declared.datum.Datum.{Datum}
use Rattle.cell_values.specs.declared.datum.Datum.TheVariants.{Int, Null, Text}
use Rattle.cell_values.specs.declared.datum.Row.{Row}
use Rattle.cell_values.specs.declared.schema.Kind.{Kind}
use Rattle.cell_values.specs.declared.schema.Kind.TheVariants.{Int64, Str}
use Rattle.cell_values.specs.declared.schema.Schema.{Schema}
use Rattle.result_print.specs.Records.{csv_text}

abbrev line : Kind → Schema
line kind = record {
  attributes = record { name = codes "v"; kind = kind; nullable = false } ∷ [];
  dimensions = record { name = codes "i"; lo = pos 0; hi = pos 4; chunk = 5; overlap = 0 } ∷ [];
}

abbrev row : ℕ → Datum → Row
row n value = record { at = record { items = pos n ∷ [] }; cell = Full (value ∷ []) }

numbers : csv_text (line Int64) (row 3 (Int (pos 5)) ∷ row 4 (Int (pos 2)) ∷ []) ≡ codes "i,v\n3,5\n4,2\n"
unfolding digits fields_text is_blank
numbers = refl

-- a text with a comma, a quote and a line feed
quoted : csv_text (line Str) (row 3 (Text (codes "a,\"b\nc")) ∷ row 4 Null ∷ []) ≡ codes "i,v\n3,\"'a,\"\"b\nc'\"\n4,null\n"
unfolding digits escaped fields_text is_blank
quoted = refl
