-- The value of a field.
use Rattle.std.specs.Prelude.{◌≡◌, ◌==◌, ℕ, pos, Bool, true, false, ◌||◌, if◌then◌else◌, Option, Some, None, List, [], ◌∷◌, ◌++◌, ◌-◌, length, take, drop, replicate, IsTrue, codes}
use Rattle.std.specs.List.{list_all}
use Rattle.std.specs.Str.{bytes_eq}
use Rattle.std.specs.Str.Parse.{signed_digits_value}
use Rattle.cell_values.specs.declared.datum.Datum.{Datum}
use Rattle.cell_values.specs.declared.datum.Datum.TheVariants.{Null, Int, Text, Truth}
use Rattle.cell_values.specs.declared.datum.Cell.{Cell}
use Rattle.cell_values.specs.declared.datum.Cell.TheVariants.{Full}
use Rattle.cell_values.specs.declared.datum.Row.{Row}
use Rattle.cell_values.specs.declared.schema.Attribute.{Attribute}
use Rattle.cell_values.specs.declared.schema.Dimension.{Dimension}
use Rattle.check_rules.specs.LiteralRows.{literal_rows}

-- a dimension of one place
abbrev pub one_place : Dimension
one_place = record { name = codes "i"; lo = pos 0; hi = pos 0; chunk = 1; overlap = 0 }

abbrev pub first_value : Cell → Option Datum
first_value (Full (v ∷ vs)) = Some v
first_value _ = None

abbrev pub value_in : Option (List Row) → Option Datum
value_in (Some (row ∷ rows)) = first_value row.cell
value_in _ = None

-- the value that the field spells as the only element of a literal
abbrev pub spelled_value : List Attribute → List ℕ → Option Datum
spelled_value columns field = value_in (literal_rows columns one_place (codes "[" ++ field ++ codes "]"))

-- the truth that another program's word says
abbrev pub truth_word : List ℕ → Option Bool
truth_word field =
    if bytes_eq field (codes "true") || bytes_eq field (codes "True") || bytes_eq field (codes "TRUE") then Some true else
    if bytes_eq field (codes "false") || bytes_eq field (codes "False") || bytes_eq field (codes "FALSE") then Some false else
    None

-- nothing, or the word that stands for a null
abbrev pub is_null_field : List ℕ → List ℕ → Bool
is_null_field field null = length field == 0 || bytes_eq field null

-- the bytes of a number before its point: all of them where it has none
abbrev pub whole_part : List ℕ → List ℕ
whole_part [] = []
whole_part (b ∷ bs) = if b == 46 then [] else b ∷ whole_part bs

-- and those behind it
abbrev pub decimal_part : List ℕ → List ℕ
decimal_part [] = []
decimal_part (b ∷ bs) = if b == 46 then bs else decimal_part bs

-- the digits of a number in the unit that makes so many decimals whole
abbrev pub fixed_digits : ℕ → List ℕ → List ℕ
fixed_digits decimals field = whole_part field ++ take decimals (decimal_part field) ++ replicate (decimals - length (decimal_part field)) 48

-- the decimals behind so many are zeros
abbrev pub are_zeros_behind : ℕ → List ℕ → Bool
are_zeros_behind decimals field = list_all (λ b. b == 48) (drop decimals (decimal_part field))

-- a number: the one that the digits write; with decimals in the unit that makes them whole, where further ones are zeros
abbrev pub HasNumberValue : ℕ → List ℕ → Datum → Type 0
HasNumberValue decimals field v = (v ≡ Int (signed_digits_value 10 (if decimals == 0 then field else fixed_digits decimals field)))
    × IsTrue (decimals == 0 || are_zeros_behind decimals field)

-- whether the column may be null
abbrev pub is_nullable : List Attribute → Bool
is_nullable [] = false
is_nullable (column ∷ columns) = column.nullable

-- The value of a field in a column, which is the list's only one.
pub data HasFieldValue (is_bare : Bool) (null : List ℕ) (decimals : ℕ) (columns : List Attribute) (field : List ℕ) (v : Datum) : Type 0 where
  a_null : is_null_field field null ≡ true → is_nullable columns ≡ true → v ≡ Null → HasFieldValue is_bare null decimals columns field v
  a_number : HasNumberValue decimals field v → HasFieldValue is_bare null decimals columns field v
  a_text : is_bare ≡ true → v ≡ Text field → HasFieldValue is_bare null decimals columns field v
  a_truth : (b : Bool) → is_bare ≡ true → v ≡ Truth b → truth_word field ≡ Some b → HasFieldValue is_bare null decimals columns field v
  an_element : spelled_value columns field ≡ Some v → HasFieldValue is_bare null decimals columns field v
