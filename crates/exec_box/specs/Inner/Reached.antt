-- The numbers of the chunks into which cells of other chunks come.
use Rattle.std.specs.Prelude.{◌≡◌, ℕ, ◌/◌, ◌==◌, ℤ, ◌-ℤ◌, unsigned_abs, Bool, true, false, ◌&&◌, ◌||◌, List, [], ◌∷◌, ◌++◌}
use Rattle.std.specs.List.{AllByRecursion}
use Rattle.arrayvec.specs.ArrayVec.{ArrayVec}
use Rattle.cell_values.specs.declared.schema.Bounds.{Bounds}
use Rattle.cell_values.specs.declared.schema.Dimension.{Dimension}
use Rattle.array_rows.specs.Boxes.{is_inside}
use Rattle.array_rows.specs.Rows.{Coordinate}
use Rattle.array_geom.specs.declared.chunk.Chunk.{Chunk}
use Rattle.array_geom.specs.Geometry.{ChunkNumber, core, has_core}
use Rattle.array_geom.specs.Link.{is_listed}
use Rattle.chunk_cells.specs.Inner.Numbers.{numbers_in}

-- how many chunks a coordinate is away from a low one, in each dimension
abbrev pub chunks_from : List Dimension → List ℤ → Coordinate → ChunkNumber
chunks_from (d ∷ dims) (l ∷ low) (x ∷ c) = (unsigned_abs (x -ℤ l) / d.chunk) ∷ chunks_from dims low c
chunks_from _ _ _ = []

-- each number is that of the first list or that of the second
abbrev pub is_pick : ChunkNumber → ChunkNumber → ChunkNumber → Bool
is_pick [] [] [] = true
is_pick (l ∷ low) (h ∷ high) (k ∷ ks) = (k == l || k == h) && is_pick low high ks
is_pick _ _ _ = false

abbrev pub HaveCores : List Dimension → List (ArrayVec ℕ) → Type 0
HaveCores dims found = AllByRecursion (λ k. has_core dims k ≡ true) (numbers_in found)

-- what was listed, and each number of a core that begins so and goes on with picks
pub record AddsPicks (dims : List Dimension) (front low high : ChunkNumber) (old new : List (ArrayVec ℕ)) : Type 0 where
  pub kept : (k : ChunkNumber) → is_listed k (numbers_in old) ≡ true → is_listed k (numbers_in new) ≡ true
  pub picked : (ks : ChunkNumber) → is_pick low high ks ≡ true → has_core dims (front ++ ks) ≡ true → is_listed (front ++ ks) (numbers_in new) ≡ true
  pub cores : HaveCores dims old → HaveCores dims new

-- the chunks into which those coordinates of a box come that pass a test are listed
abbrev pub Reaches : List Dimension → (Coordinate → Bool) → (Coordinate → ChunkNumber) → Bounds → List (ArrayVec ℕ) → Type 0
Reaches dims test number box found = (c : Coordinate) → is_inside box c ≡ true → test c ≡ true → has_core dims (number c) ≡ true
    → is_listed (number c) (numbers_in found) ≡ true

-- what was listed, and these chunks
pub record AddsReached (dims : List Dimension) (test : Coordinate → Bool) (number : Coordinate → ChunkNumber) (box : Bounds) (old new : List (ArrayVec ℕ)) : Type 0 where
  pub kept : (k : ChunkNumber) → is_listed k (numbers_in old) ≡ true → is_listed k (numbers_in new) ≡ true
  pub reached : Reaches dims test number box new
  pub cores : HaveCores dims old → HaveCores dims new

-- numbers of cores, among them those of the chunks into which coordinates of the old cores come
pub record AreReached (old dims : List Dimension) (test : Coordinate → Bool) (number : Coordinate → ChunkNumber) (chunks : List Chunk) (found : List (ArrayVec ℕ)) : Type 0 where
  pub cores : HaveCores dims found
  pub reached : AllByRecursion (λ chunk. Reaches dims test number (core old chunk.at.items) found) chunks
