-- Which values a cell of a schema may hold.
use Rattle.std.specs.Prelude.{Bool, true, false, ◌&&◌, nat_le, nat_lt, List, length, IsTrue, ⊤}
use Rattle.std.specs.List.{list_all, AllZip}
use Rattle.cell_values.specs.declared.datum.Datum.{Datum}
use Rattle.cell_values.specs.declared.datum.Datum.TheVariants.{Null, Missing, Int, Text, Truth, Bad}
use Rattle.cell_values.specs.declared.datum.Cell.{Cell}
use Rattle.cell_values.specs.declared.datum.Cell.TheVariants.{Full, Doubt}
use Rattle.cell_values.specs.declared.schema.Kind.{Kind}
use Rattle.cell_values.specs.declared.schema.Kind.TheVariants.{Int64, Str, Bool as Truths}
use Rattle.cell_values.specs.declared.schema.Attribute.{Attribute}
use Rattle.cell_values.specs.Table.{fits_int64}

-- a null of a code from 0 to 127, a fault, or a value of the kind: a number of 64 bits, a text of at most 65,535 bytes, a truth
abbrev pub is_of_kind : Kind → Datum → Bool
is_of_kind kind Null = true
is_of_kind kind (Missing code) = nat_le 1 code && nat_le code 127
is_of_kind kind (Bad fault) = true
is_of_kind Int64 (Int n) = fits_int64 n
is_of_kind Str (Text s) = nat_le (length s) 65535 && list_all (λ b. nat_lt b 256) s
is_of_kind Truths (Truth b) = true
is_of_kind kind v = false

-- one value for each attribute, in their order
abbrev pub AreOfKinds : List Attribute → List Datum → Type 0
AreOfKinds = AllZip (λ attribute v. IsTrue (is_of_kind attribute.kind v))

-- a cell that is there has one value for each attribute
abbrev pub IsCellOf : List Attribute → Cell → Type 0
IsCellOf attributes (Full values) = AreOfKinds attributes values
IsCellOf attributes (Doubt fault) = ⊤
