-- Nulls: a value may be missing without a reason, which counts as code 0, or for one of the reasons 1 to 127.
use Rattle.std.specs.Prelude.{Bool, true, false}
use Rattle.cell_values.specs.declared.datum.Datum.{Datum}
use Rattle.cell_values.specs.declared.datum.Datum.TheVariants.{Null, Missing}

-- whether a value is null, of whatever code
abbrev pub is_null : Datum → Bool
is_null Null = true
is_null (Missing code) = true
is_null _ = false
