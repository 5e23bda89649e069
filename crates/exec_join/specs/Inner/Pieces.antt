-- Cross joins chunk by chunk: the numbers of their chunks, and where their boxes lie in the right array.
use Rattle.std.specs.Prelude.{◌≡◌, ℕ, ◌+◌, ◌==◌, ℤ, pos, true, if◌then◌else◌, List, [], ◌∷◌, ◌++◌, Option, Some, None, slice_index_or}
use Rattle.std.specs.List.{AllByRecursion}
use Rattle.arrayvec.specs.ArrayVec.{ArrayVec}
use Rattle.cell_values.specs.declared.schema.Dimension.{Dimension}
use Rattle.array_geom.specs.declared.chunk.Chunk.{Chunk}
use Rattle.array_geom.specs.Geometry.{ChunkNumber, has_core}
use Rattle.array_geom.specs.Link.{is_listed}
use Rattle.chunk_cells.specs.Inner.Numbers.{numbers_in}
use Rattle.logical_plan.specs.declared.parts.Pair.{Pair}
use Rattle.exec_box.specs.Inner.Reached.{HaveCores}

-- the left dimension with which a right one is paired
abbrev pub paired_place : List Pair → ℕ → Option ℕ
paired_place [] place = None
paired_place (p ∷ pairs) place = if p.right == place then Some p.left else paired_place pairs place

-- the paired number of a left corner before the next ones, or the next one
abbrev pub aside : Option ℕ → List ℤ → List ℤ → (List ℤ → List ℤ) → List ℤ
aside (Some j) corner at rest = slice_index_or corner j (pos 0) ∷ rest at
aside None corner [] rest = []
aside None corner (x ∷ at) rest = x ∷ rest at

-- a right corner: the paired numbers of a left one at their places, and the others at the other ones. The first dimension has the place n
abbrev pub set_aside : List Pair → List ℤ → ℕ → List Dimension → List ℤ → List ℤ
set_aside pairs corner n [] at = []
set_aside pairs corner n (d ∷ dims) at = aside (paired_place pairs n) corner at (set_aside pairs corner (n + 1) dims)

-- a left number and another one are listed together, if they are those of a core
abbrev pub IsListedWith : List Dimension → List (ArrayVec ℕ) → ChunkNumber → ArrayVec ℕ → Type 0
IsListedWith dims found front other = has_core dims (front ++ other.items) ≡ true → is_listed (front ++ other.items) (numbers_in found) ≡ true

-- what was listed, and a left number with each of the others
pub record AddsOthers (dims : List Dimension) (front : ChunkNumber) (others old new : List (ArrayVec ℕ)) : Type 0 where
  pub kept : (k : ChunkNumber) → is_listed k (numbers_in old) ≡ true → is_listed k (numbers_in new) ≡ true
  pub listed : AllByRecursion (IsListedWith dims new front) others
  pub cores : HaveCores dims old → HaveCores dims new

-- numbers of cores, among them those of each left chunk with each of the others
pub record AreCrossed (dims : List Dimension) (others : List (ArrayVec ℕ)) (chunks : List Chunk) (found : List (ArrayVec ℕ)) : Type 0 where
  pub cores : HaveCores dims found
  pub listed : AllByRecursion (λ chunk. AllByRecursion (IsListedWith dims found chunk.at.items) others) chunks
