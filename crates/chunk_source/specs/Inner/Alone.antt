-- Chunks that hold no cell of other chunks.
use Rattle.std.specs.Prelude.{ℕ, ◌==◌, Bool, true, ◌&&◌, ◌||◌, List, [], ◌∷◌, length}
use Rattle.arrayvec.specs.ArrayVec.{ArrayVec}
use Rattle.cell_values.specs.declared.schema.Dimension.{Dimension}

abbrev pub have_no_overlap : List Dimension → Bool
have_no_overlap [] = true
have_no_overlap (d ∷ dims) = (d.overlap == 0) && have_no_overlap dims

-- the wanted ones are all that are stored, or no frame is larger than its core
abbrev pub stand_alone : List Dimension → List (ArrayVec ℕ) → List (ArrayVec ℕ) → Bool
stand_alone dims stored wanted = (length wanted == length stored) || have_no_overlap dims
