-- Places from -1 to 2 and from 0 to 4, in chunks of two and three.
use Rattle.std.specs.Prelude.{ℕ, ℤ, pos, negsuc, true, List, [], ◌∷◌, codes}
use Rattle.array_rows.specs.Dimension.{Dimension}
use Rattle.array_rows.specs.Kind.TheVariants.{Int64}
use Rattle.array_rows.specs.Schema.{Schema}

abbrev pub dimension : List ℕ → ℤ → ℤ → ℕ → ℕ → Dimension
dimension name lo hi chunk overlap = record { name = name; lo = lo; hi = hi; chunk = chunk; overlap = overlap }

abbrev pub schema_of : List Dimension → Schema
schema_of dims = record { attributes = record { name = codes "v"; kind = Int64; nullable = true } ∷ []; dimensions = dims }

abbrev pub example : Schema
example = schema_of (dimension (codes "x") (negsuc 0) (pos 2) 2 1 ∷ dimension (codes "y") (pos 0) (pos 4) 3 1 ∷ [])
