-- A chunk whose cells all stay as they are.
use Rattle.std.proofs.Common.{◌≡◌, ℕ, ◌+◌, ◌<◌, ℤ, List, [], ◌∷◌, map, length, drop, Option, refl, sym, ap, ◌∙◌, subst}
use Rattle.std.specs.Prelude.{slice_index_or}
use Rattle.std.specs.List.{AllByRecursion}
use Rattle.std.proofs.lemmas.List.{drop_more}
use Rattle.cell_values.specs.declared.datum.Cell.{Cell}
use Rattle.cell_values.specs.declared.datum.Cell.TheVariants.{Full}
use Rattle.cell_values.specs.declared.datum.Datum.{Datum}
use Rattle.cell_values.specs.declared.datum.Row.{Row}
use Rattle.cell_values.specs.declared.schema.Dimension.{Dimension}
use Rattle.array_rows.specs.Cellwise.{put_first, cell_wise}
use Rattle.array_rows.specs.Rows.{Coordinate, placed}
use Rattle.array_geom.specs.declared.chunk.Chunk.{Chunk}
use Rattle.array_geom.specs.Geometry.{coordinate_in, frame_low, frame_lengths}
use Rattle.array_geom.specs.Link.{rows_in}
use Rattle.array_parts.specs.Made.{IsPlaced, IsMadeBy}
use Rattle.array_parts.specs.Inner.Quickly.{StaysAnywhere}

-- the item at a place, and those behind it
pub one_more : {A : Type 0} (P : A → Type 0) (xs : List A) (k : ℕ) (d : A) → k < length xs → P (slice_index_or xs k d) → AllByRecursion P (drop (k + 1) xs) → AllByRecursion P (drop k xs)
one_more P xs k d l p a = subst (AllByRecursion P) (sym (drop_more xs k d l)) (p, a)

pub all_full : (P : Cell → Type 0) (rows : List (List Datum)) → AllByRecursion (λ row. P (Full row)) rows → AllByRecursion P (map Full rows)
all_full P [] a = tt
all_full P (row ∷ rows) a = (a.0, all_full P rows a.1)

same_rows : (change : Coordinate → Cell → Option Cell) (low : List ℤ) (lengths positions : List ℕ) (cells : List Cell) → AllByRecursion (StaysAnywhere change) cells → rows_in low lengths positions cells ≡ cell_wise change (rows_in low lengths positions cells)
same_rows change low lengths [] [] a = refl
same_rows change low lengths [] (c ∷ cells) a = refl
same_rows change low lengths (p ∷ positions) [] a = refl
same_rows change low lengths (p ∷ positions) (c ∷ cells) a =
    ap (λ (rows : List Row). placed (coordinate_in low lengths p) c ∷ rows) (same_rows change low lengths positions cells a.1)
    ∙ ap (λ (o : Option Cell). put_first (coordinate_in low lengths p) o (cell_wise change (rows_in low lengths positions cells))) (sym (a.0 (coordinate_in low lengths p)))

pub made_of_itself : (change : Coordinate → Cell → Option Cell) (dims : List Dimension) (margins : List ℕ) (chunk : Chunk) → IsPlaced dims margins chunk → AllByRecursion (StaysAnywhere change) chunk.cells → IsMadeBy (cell_wise change) dims margins chunk chunk
made_of_itself change dims margins chunk placed a = record {
  number = refl;
  placed = placed;
  rising = λ r. r;
  rows = same_rows change (frame_low dims margins chunk.at.items) (frame_lengths dims margins) chunk.positions chunk.cells a;
}
