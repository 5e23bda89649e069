-- The stored arrays that a query may name.
use Rattle.std.specs.Prelude.{List}
use Rattle.std.specs.List.{AllByRecursion}
use Rattle.cell_values.specs.Schemas.{IsValid}
use Rattle.logical_plan.specs.declared.names.NameEntry.{NameEntry}

-- their schemas are valid
abbrev pub AreValid : List NameEntry → Type 0
AreValid = AllByRecursion (λ entry. IsValid entry.schema)
