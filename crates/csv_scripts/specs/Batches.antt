-- Literals that grow.
use Rattle.std.specs.Prelude.{◌≡◌, ℕ, IsTrue, List, ◌++◌, map, length, codes}
use Rattle.cell_values.specs.declared.datum.Datum.{Datum}
use Rattle.result_print.specs.Texts.{listed}
use Rattle.csv_scripts.specs.Literal.{element_bytes, are_all_spellable}

-- a literal without the bracket behind it
abbrev pub open_bytes : List (List Datum) → List ℕ
open_bytes rows = codes "[" ++ listed (map element_bytes rows)

-- the text is the literal of these records, but for the bracket behind it
abbrev pub IsOpenLiteral : List ℕ → ℕ → List (List Datum) → Type 0
IsOpenLiteral text count rows = (text ≡ open_bytes rows) × (count ≡ length rows) × IsTrue (are_all_spellable rows)
