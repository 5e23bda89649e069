-- What is known of a small array by some of its chunks.
use Rattle.std.proofs.Common.{◌≡◌, ℕ, ℤ, pos, true, List, [], ◌∷◌, refl, codes}
use Rattle.arrayvec.specs.ArrayVec.{ArrayVec}
use Rattle.cell_values.specs.declared.datum.Cell.TheVariants.{Full}
use Rattle.cell_values.specs.declared.datum.Datum.TheVariants.{Int}
use Rattle.cell_values.specs.declared.datum.Row.{Row}
use Rattle.cell_values.specs.declared.schema.Bounds.{Bounds}
use Rattle.cell_values.specs.declared.schema.Kind.TheVariants.{Int64}
use Rattle.array_rows.specs.Boxes.{corners}
use Rattle.array_rows.specs.Rows.{placed}
use Rattle.logical_plan.specs.declared.parts.Leaf.{Leaf}
use Rattle.plan_needs.specs.Wanted.{wanted_of}
use Rattle.chunk_source.specs.Known.{known_for}

-- `A<v:int64>[i=0:5,2,overlap]`, version 1
leaf : ℕ → Leaf
leaf overlap = record {
  name = codes "A";
  version = 1;
  schema = record {
    attributes = record { name = codes "v"; kind = Int64; nullable = true } ∷ [];
    dimensions = record { name = codes "i"; lo = pos 0; hi = pos 5; chunk = 2; overlap = overlap } ∷ [];
  };
}

cell : ℤ → Row
cell i = placed (i ∷ []) (Full (Int i ∷ []))

-- a cell in each of its three chunks
rows : List Row
rows = cell (pos 1) ∷ cell (pos 2) ∷ cell (pos 5) ∷ []

at : ℕ → ArrayVec ℕ
at k = record { items = k ∷ [] }

three : List (ArrayVec ℕ)
three = at 0 ∷ at 1 ∷ at 2 ∷ []

first_two : Bounds
first_two = corners (pos 0 ∷ []) (pos 1 ∷ [])

all_six : Bounds
all_six = corners (pos 0 ∷ []) (pos 5 ∷ [])

-- of the first chunk's neighbour, what its margin tells: 1 and 2 of 1, 2 and 5
with_overlap : (wanted_of (leaf 1).schema.dimensions first_two three ≡ at 0 ∷ []) × (known_for (leaf 1) first_two three rows ≡ cell (pos 1) ∷ cell (pos 2) ∷ [])
unfolding leaf cell rows at three first_two
with_overlap = (refl, refl)

-- without an overlap its own cells alone
without_overlap : known_for (leaf 0) first_two three rows ≡ cell (pos 1) ∷ []
unfolding leaf cell rows at three first_two
without_overlap = refl

-- by all chunks all is known
all_known : known_for (leaf 1) all_six three rows ≡ rows
unfolding leaf cell rows at three all_six
all_known = refl
