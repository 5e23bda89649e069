-- The chunks of its target that an insert wants.
use Rattle.std.specs.Prelude.{ℕ, zero, suc, ◌+◌, ◌/◌, ◌-ℤ◌, unsigned_abs, Bool, ◌&&◌, List, [], ◌∷◌, ◌++◌, filter, map}
use Rattle.std.specs.List.{flat_map, list_any}
use Rattle.arrayvec.specs.ArrayVec.{ArrayVec}
use Rattle.cell_values.specs.declared.datum.Row.{Row}
use Rattle.cell_values.specs.declared.schema.Dimension.{Dimension}
use Rattle.array_geom.specs.Geometry.{ChunkNumber, core_meets, frame, has_core, overlaps}
use Rattle.commit_pages.specs.Lengths.{meets}

-- the numbers below one
abbrev pub below : ℕ → List ℕ
below zero = []
below (suc n) = below n ++ n ∷ []

-- the numbers of all chunks of an array
abbrev pub count_along : Dimension → ℕ
count_along d = unsigned_abs (d.hi -ℤ d.lo) / d.chunk + 1

abbrev pub all_numbers : List Dimension → List ChunkNumber
all_numbers [] = [] ∷ []
all_numbers (d ∷ dims) = flat_map (λ k. map (λ ks. k ∷ ks) (all_numbers dims)) (below (count_along d))

-- of them those whose frame holds a row that is put in
abbrev pub touched : List Dimension → List Row → List ChunkNumber
touched dims new = filter (λ k. meets dims new k) (all_numbers dims)

-- A STORED CHUNK OF THE ARRAY IS WANTED WHERE ITS CORE MEETS THE FRAME OF A CHUNK WHOSE FRAME HOLDS A ROW THAT IS PUT IN
abbrev pub is_wanted : List Dimension → List Row → ChunkNumber → Bool
is_wanted dims new stored = has_core dims stored && list_any (λ k. core_meets dims (frame dims (overlaps dims) k) stored) (touched dims new)

abbrev pub target_wanted : List Dimension → List Row → List (ArrayVec ℕ) → List (ArrayVec ℕ)
target_wanted dims new stored = filter (λ at. is_wanted dims new at.items) stored
