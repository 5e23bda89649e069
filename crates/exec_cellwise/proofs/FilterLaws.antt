-- A chunk that is filtered row by row.
use Rattle.std.proofs.Common.{◌≡◌, ℕ, zero, suc, ◌+◌, ◌<◌, ℤ, List, [], ◌∷◌, length, map, drop, get_or, Option, Some, refl, sym, ap, ◌∙◌, subst, arith}
use Rattle.std.specs.Prelude.{IfOk, IfSome, Result, Ok}
use Rattle.cell_values.specs.declared.datum.Cell.{Cell}
use Rattle.cell_values.specs.declared.datum.Cell.TheVariants.{Full}
use Rattle.cell_values.specs.declared.datum.Datum.{Datum}
use Rattle.cell_values.specs.declared.memory.Memory.{Memory}
use Rattle.array_rows.specs.Rows.{Coordinate}
use Rattle.array_geom.specs.declared.chunk.Chunk.{Chunk}
use Rattle.array_geom.specs.Geometry.{coordinate_in}
use Rattle.array_parts.specs.Made.{with_cell}
use Rattle.array_parts.proofs.Steps.{IsOngoing, next_at}

full_at : (rows : List (List Datum)) (k : ℕ) → k < length rows → get_or (map Full rows) k (Full []) ≡ Full (get_or rows k [])
full_at [] k less = absurd (omega (arith, less))
full_at (r ∷ rows) zero less = refl
full_at (r ∷ rows) (suc k) less = full_at rows k (omega (arith, less))

full_length : (rows : List (List Datum)) → length (map Full rows) ≡ length rows
full_length [] = refl
full_length (r ∷ rows) = ap suc (full_length rows)

-- the next row, which stands at the coordinate of its place
pub next_row : (change : Coordinate → Cell → Option Cell) (low : List ℤ) (lengths : List ℕ) (old made new : Chunk) (places : List ℕ) (rows : List (List Datum)) (cells : List Cell) (k : ℕ) (at : List ℤ) → k < length places
    → map Full rows ≡ cells → length cells ≡ length places → at ≡ coordinate_in low lengths (get_or places k 0) → IsOngoing change low lengths old made (drop k places) (drop k (map Full rows))
    → new ≡ with_cell made (get_or places k 0) (change at (Full (get_or rows k []))) → IsOngoing change low lengths old new (drop (k + 1) places) (drop (k + 1) (map Full rows))
next_row change low lengths old made new places rows cells k at less are each here going is =
    let as_many : length (map Full rows) ≡ length places = ap length are ∙ each in
    let there : k < length rows = omega (arith, less, as_many, full_length rows) in
    next_at change low lengths old made new places (map Full rows) k (Full []) less as_many going
    (is ∙ ap (λ (c : List ℤ). with_cell made (get_or places k 0) (change c (Full (get_or rows k [])))) here
    ∙ ap (λ (x : Cell). with_cell made (get_or places k 0) (change (coordinate_in low lengths (get_or places k 0)) x)) (sym (full_at rows k there)))

-- a chunk that was found
pub found_chunk : (P : Chunk → Type 0) (r : Result (Option Chunk) Memory) (made : Chunk) → r ≡ Ok (Some made) → IfOk r (λ found. IfSome found P) → P made
found_chunk P r made is found = subst (λ (x : Result (Option Chunk) Memory). IfOk x (λ o. IfSome o P)) is found
