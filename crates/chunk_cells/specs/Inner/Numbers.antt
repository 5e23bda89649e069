-- Rising lists of chunk numbers.
use Rattle.std.specs.Prelude.{◌≡◌, ℕ, Bool, false, List, [], ◌∷◌, map, length}
use Rattle.std.specs.List.{AllByRecursion}
use Rattle.std.specs.Ordering.{is_eq, is_lt}
use Rattle.std.specs.declared.cmp.Ordering.TheVariants.{Less}
use Rattle.cell_values.specs.declared.datum.Row.{Row}
use Rattle.cell_values.specs.declared.schema.Dimension.{Dimension}
use Rattle.arrayvec.specs.ArrayVec.{ArrayVec}
use Rattle.array_geom.specs.Geometry.{ChunkNumber}
use Rattle.array_geom.specs.Link.{number_order, NumbersRise, is_listed, has_cell}

abbrev pub numbers_in : List (ArrayVec ℕ) → List ChunkNumber
numbers_in listed = map (λ k. k.items) listed

-- each number comes before k
abbrev pub AreBefore : ChunkNumber → List (ArrayVec ℕ) → Type 0
AreBefore k = AllByRecursion (λ n. number_order n.items k ≡ Less)

-- each number is k or comes after it
abbrev pub AreFrom : ChunkNumber → List (ArrayVec ℕ) → Type 0
AreFrom k = AllByRecursion (λ n. is_lt (number_order n.items k) ≡ false)

-- whether the first number is k
abbrev pub starts_with : ChunkNumber → List (ArrayVec ℕ) → Bool
starts_with k [] = false
starts_with k (n ∷ listed) = is_eq (number_order n.items k)

-- the numbers of the chunks whose core has one of the rows
pub record NameCores (dims : List Dimension) (rows : List Row) (found : List (ArrayVec ℕ)) : Type 0 where
  pub sized : AllByRecursion (λ k. length k ≡ length dims) (numbers_in found)
  pub cores : (k : ChunkNumber) → length k ≡ length dims → is_listed k (numbers_in found) ≡ has_cell dims rows k

-- the same in order and each of them once
pub record AreCoresOf (dims : List Dimension) (rows : List Row) (listed : List (ArrayVec ℕ)) : Type 0 where
  pub in_order : NumbersRise (numbers_in listed)
  pub named : NameCores dims rows listed
