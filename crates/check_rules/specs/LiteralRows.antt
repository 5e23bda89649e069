-- The rows of a literal: its elements at the places from the low bound on.
--
-- An element without values leaves its place empty. Each other has one value for each attribute, of its kind, and a null only where the
-- attribute may be null. No element lies behind the high bound.
use Rattle.std.specs.Prelude.{◌≡◌, ◌↔◌, ℕ, ℤ, pos, ◌+ℤ◌, int_le, Bool, true, false, ◌&&◌, ◌==◌, if◌then◌else◌, Option, Some, None, List, [], ◌∷◌, length}
use Rattle.cell_values.specs.Nulls.{is_null}
use Rattle.cell_values.specs.declared.datum.Datum.{Datum}
use Rattle.cell_values.specs.declared.datum.Datum.TheVariants.{Int, Text, Truth}
use Rattle.cell_values.specs.declared.datum.Cell.TheVariants.{Full}
use Rattle.cell_values.specs.declared.datum.Row.{Row}
use Rattle.cell_values.specs.declared.schema.Kind.{Kind}
use Rattle.cell_values.specs.declared.schema.Kind.TheVariants.{Int64, Str, Bool as Truths}
use Rattle.cell_values.specs.declared.schema.Attribute.{Attribute}
use Rattle.cell_values.specs.declared.schema.Dimension.{Dimension}
use Rattle.array_rows.specs.Rows.{placed}
use Rattle.check_rules.specs.Inner.Reader.{elements_of}
use Rattle.check_rules.specs.Literals.{SpellsElementsOf}

-- a value that is not null is of the kind
abbrev pub is_value_of : Kind → Datum → Bool
is_value_of Int64 (Int n) = true
is_value_of Str (Text s) = true
is_value_of Truths (Truth b) = true
is_value_of kind v = false

abbrev pub fits_attribute : Attribute → Datum → Bool
fits_attribute attribute v = if is_null v then attribute.nullable else is_value_of attribute.kind v

-- one value for each attribute
abbrev pub fit_attributes : List Attribute → List Datum → Bool
fit_attributes [] [] = true
fit_attributes (a ∷ attributes) (v ∷ vs) = fits_attribute a v && fit_attributes attributes vs
fit_attributes attributes vs = false

abbrev pub fits_element : List Attribute → List Datum → Bool
fits_element attributes [] = true
fits_element attributes (v ∷ vs) = fit_attributes attributes (v ∷ vs)

-- an element at a place, before the rows behind it
abbrev pub with_row : ℤ → List Datum → Option (List Row) → Option (List Row)
with_row at [] rows = rows
with_row at (v ∷ vs) (Some rows) = Some (placed (at ∷ []) (Full (v ∷ vs)) ∷ rows)
with_row at (v ∷ vs) None = None

-- the rows of elements from a place on, or none where one of them doesn't fit
abbrev pub rows_from : List Attribute → ℤ → ℤ → List (List Datum) → Option (List Row)
rows_from attributes hi at [] = Some []
rows_from attributes hi at (vs ∷ elements) =
    if int_le at hi && fits_element attributes vs then with_row at vs (rows_from attributes hi (at +ℤ pos 1) elements) else None

abbrev pub rows_of : List Attribute → Dimension → Option (List (List Datum)) → Option (List Row)
rows_of attributes d (Some elements) = rows_from attributes d.hi d.lo elements
rows_of attributes d None = None

-- a text spells rows where it spells elements that fit at their places. Only with one attribute may an element stand without brackets
pub record SpellsRows (attributes : List Attribute) (d : Dimension) (text : List ℕ) (rows : List Row) : Type 0 where
  pub elements : List (List Datum)
  pub spelled : SpellsElementsOf (length attributes == 1) text elements
  pub fit : rows_from attributes d.hi d.lo elements ≡ Some rows

-- the rows that a text spells, or none where it is a bad literal
abbrev pub literal_rows : List Attribute → Dimension → List ℕ → Option (List Row)
literal_rows attributes d text = rows_of attributes d (elements_of (length attributes == 1) text)

-- what is read is the rows that the text spells, and none where it spells none
abbrev pub AreSpelled : List Attribute → Dimension → List ℕ → Option (List Row) → Type 0
AreSpelled attributes d text read = (rows : List Row) → (read ≡ Some rows) ↔ SpellsRows attributes d text rows
