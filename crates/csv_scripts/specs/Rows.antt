-- The rows that `build` reads of a literal of records.
use Rattle.std.specs.Prelude.{◌≡◌, ◌≤◌, ℤ, pos, ◌+ℤ◌, int_le, true, ⊤, IsTrue, Some, List, [], ◌∷◌, length}
use Rattle.cell_values.specs.declared.datum.Datum.{Datum}
use Rattle.cell_values.specs.declared.datum.Cell.TheVariants.{Full}
use Rattle.cell_values.specs.declared.datum.Row.{Row}
use Rattle.cell_values.specs.declared.schema.Attribute.{Attribute}
use Rattle.cell_values.specs.declared.schema.Dimension.{Dimension}
use Rattle.array_rows.specs.Rows.{placed}
use Rattle.check_rules.specs.LiteralRows.{fit_attributes, literal_rows}
use Rattle.csv_scripts.specs.Literal.{literal_bytes, are_all_spellable}

-- the records at places one behind the other
abbrev pub numbered : ℤ → List (List Datum) → List Row
numbered at [] = []
numbered at (values ∷ rows) = placed (at ∷ []) (Full values) ∷ numbered (at +ℤ pos 1) rows

-- each record has a value for each column, and its place
abbrev pub Fit : List Attribute → ℤ → ℤ → List (List Datum) → Type 0
Fit columns hi at [] = ⊤
Fit columns hi at ([] ∷ rows) = ⊥
Fit columns hi at ((v ∷ vs) ∷ rows) = (int_le at hi ≡ true) × (fit_attributes columns (v ∷ vs) ≡ true) × Fit columns hi (at +ℤ pos 1) rows

-- What `build` reads of the literal of records are the records, from the low bound on.
abbrev pub RowsAreRead : Type 0
RowsAreRead = (columns : List Attribute) (d : Dimension) (rows : List (List Datum)) → IsTrue (are_all_spellable rows) → length (literal_bytes rows) ≤ 65535
    → Fit columns d.hi d.lo rows → literal_rows columns d (literal_bytes rows) ≡ Some (numbered d.lo rows)
