-- Cells with one value for each attribute.
use Rattle.std.specs.Prelude.{◌≡◌, ℕ, List, length, ⊤}
use Rattle.std.specs.List.{AllByRecursion}
use Rattle.cell_values.specs.declared.datum.Cell.{Cell}
use Rattle.cell_values.specs.declared.datum.Cell.TheVariants.{Full, Doubt}
use Rattle.cell_values.specs.declared.datum.Row.{Row}

-- as many values as there are attributes, unless it is in doubt
abbrev pub IsWide : ℕ → Cell → Type 0
IsWide n (Full vs) = length vs ≡ n
IsWide n (Doubt kind) = ⊤

abbrev pub AreWide : ℕ → List Row → Type 0
AreWide n rows = AllByRecursion (λ row. IsWide n row.cell) rows
