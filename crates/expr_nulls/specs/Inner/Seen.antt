-- The value that an expression's reading holds.
use Rattle.std.specs.Prelude.{◌≡◌}
use Rattle.cell_values.specs.declared.datum.Datum.{Datum}
use Rattle.cell_values.specs.Table.{both_of, either_of}
use Rattle.expr_nulls.specs.declared.evaluate.Seen.{Seen}
use Rattle.expr_nulls.specs.declared.evaluate.Seen.TheVariants.{Held, Made}

abbrev pub datum_of : Seen → Datum
datum_of (Held v) = v.now
datum_of (Made v) = v

-- the value of `l and r`, whatever r is
abbrev pub DecidesBoth : Datum → Type 0
DecidesBoth l = (r : Datum) → both_of l r ≡ l

-- the value of `l or r`, whatever r is
abbrev pub DecidesEither : Datum → Type 0
DecidesEither l = (r : Datum) → either_of l r ≡ l
