-- Boxes that begin at 0, or have fewer dimensions, where they lie in the array from which they are taken.
use Rattle.std.specs.Prelude.{ℕ, ◌+◌, ◌==◌, ℤ, ◌+ℤ◌, if◌then◌else◌, List, [], ◌∷◌, Option, Some, None}
use Rattle.std.specs.Int.{w64, saturate_signed}
use Rattle.cell_values.specs.declared.schema.Dimension.{Dimension}
use Rattle.logical_plan.specs.declared.parts.Fixed.{Fixed}

-- each number above that of a low coordinate, as far as 64 bits go
abbrev pub raised : List ℤ → List ℤ → List ℤ
raised [] low = []
raised (x ∷ xs) [] = x ∷ raised xs []
raised (x ∷ xs) (l ∷ low) = saturate_signed w64 (x +ℤ l) ∷ raised xs low

-- the number at which a dimension is fixed
abbrev pub fixed_number : List Fixed → ℕ → Option ℤ
fixed_number [] place = None
fixed_number (f ∷ fixed) place = if f.dimension == place then Some f.at else fixed_number fixed place

-- a fixed number before the next ones, or the next one
abbrev pub spread_by : Option ℤ → List ℤ → (List ℤ → List ℤ) → List ℤ
spread_by (Some x) at rest = x ∷ rest at
spread_by None [] rest = []
spread_by None (x ∷ at) rest = x ∷ rest at

-- the fixed numbers at their places, and the others at the other ones. The first dimension has the place n
abbrev pub spread : List Fixed → ℕ → List Dimension → List ℤ → List ℤ
spread fixed n [] at = []
spread fixed n (d ∷ dims) at = spread_by (fixed_number fixed n) at (spread fixed (n + 1) dims)
