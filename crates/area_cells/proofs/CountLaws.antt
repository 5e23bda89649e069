-- How many rows cores have.
use Rattle.std.proofs.Common.{◌≡◌, ℕ, suc, ◌+◌, ◌<◌, ◌≤◌, ◌^◌, ℤ, Bool, true, false, cond, List, [], ◌∷◌, length, ap, arith}
use Rattle.std.specs.Prelude.{nat_lt, filter}
use Rattle.std.proofs.lemmas.Bool.{ltb-true}
use Rattle.std.specs.declared.cmp.Ordering.{Ordering}
use Rattle.std.specs.declared.cmp.Ordering.TheVariants.{Less, Equal, Greater}
use Rattle.cell_values.specs.declared.datum.Cell.{Cell}
use Rattle.cell_values.specs.declared.datum.Row.{Row}
use Rattle.cell_values.specs.declared.schema.Dimension.{Dimension}
use Rattle.array_rows.specs.Boxes.{is_inside, within}
use Rattle.array_rows.specs.Rows.{put_all, put_by, put_row, row_major}
use Rattle.array_geom.specs.declared.chunk.Chunk.{Chunk}
use Rattle.array_geom.specs.Geometry.{core, frame_lengths, frame_low}
use Rattle.array_geom.specs.Link.{chunk_rows, core_rows, rows_in}

one_put : (new : Row) (rows : List Row) → length (put_row new rows) ≤ suc (length rows)
one_put new [] = omega arith
one_put new (row ∷ rows) = cases (row_major new.at.items row.at.items) (one_put new rows)
  where
    cases : (t : Ordering) → length (put_row new rows) ≤ suc (length rows) → length (put_by t new row rows (put_row new rows)) ≤ suc (length (row ∷ rows))
    cases Less l = omega arith
    cases Equal l = omega arith
    cases Greater l = omega (arith, l)

all_put : (a b : List Row) → length (put_all a b) ≤ length a + length b
all_put [] b = omega arith
all_put (row ∷ a) b = let more = one_put row (put_all a b) in let rest = all_put a b in omega (arith, more, rest)

no_longer : (test : Row → Bool) (rows : List Row) → length (filter test rows) ≤ length rows
no_longer test [] = omega arith
no_longer test (row ∷ rows) = cases (test row) (no_longer test rows)
  where
    cases : (b : Bool) → length (filter test rows) ≤ length rows → length (cond b (row ∷ filter test rows) (filter test rows)) ≤ suc (length rows)
    cases true l = omega (arith, l)
    cases false l = omega (arith, l)

as_many : (low : List ℤ) (lengths positions : List ℕ) (cells : List Cell) → length (rows_in low lengths positions cells) ≤ length cells
as_many low lengths [] cells = omega arith
as_many low lengths (p ∷ positions) [] = omega arith
as_many low lengths (p ∷ positions) (cell ∷ cells) = let rest = as_many low lengths positions cells in omega (arith, rest)

-- a chunk's core has no more rows than the chunk has cells
pub one_chunk : (dims : List Dimension) (margins : List ℕ) (chunk : Chunk) (chunks : List Chunk) → length (core_rows dims margins (chunk ∷ chunks)) ≤ length chunk.cells + length (core_rows dims margins chunks)
one_chunk dims margins chunk chunks =
    let own = within (core dims chunk.at.items) (chunk_rows dims margins chunk) in
    let a = all_put own (core_rows dims margins chunks) in
    let b = no_longer (λ row. is_inside (core dims chunk.at.items) row.at.items) (chunk_rows dims margins chunk) in
    let c = as_many (frame_low dims margins chunk.at.items) (frame_lengths dims margins) chunk.positions chunk.cells in
    omega (arith, a, b, c)

-- what is counted and what is left
abbrev pub IsCounted : ℕ → List Chunk → List Chunk → Type 0
IsCounted count rest chunks = (dims : List Dimension) (margins : List ℕ) → length (core_rows dims margins chunks) ≤ count + length (core_rows dims margins rest)

pub counted_more : (count more : ℕ) (chunk : Chunk) (rest further chunks : List Chunk) → rest ≡ chunk ∷ further → more ≡ count + length chunk.cells → IsCounted count rest chunks → IsCounted more further chunks
counted_more count more chunk rest further chunks e m is = λ dims margins.
    let all = is dims margins in
    let one = one_chunk dims margins chunk further in
    let sized : length (core_rows dims margins rest) ≡ length (core_rows dims margins (chunk ∷ further)) = ap (λ (cs : List Chunk). length (core_rows dims margins cs)) e in
    omega (arith, all, one, sized, m)

pub all_counted : (count : ℕ) (rest chunks : List Chunk) → rest ≡ [] → count < 2 ^ 63 → IsCounted count rest chunks → (dims : List Dimension) (margins : List ℕ) → length (core_rows dims margins chunks) < 2 ^ 63
all_counted count rest chunks e few is dims margins =
    let all = is dims margins in
    let none : length (core_rows dims margins rest) ≡ 0 = ap (λ (cs : List Chunk). length (core_rows dims margins cs)) e in
    omega (arith, all, none, few)

-- nothing is left
pub all_few : (count : ℕ) (rest chunks : List Chunk) → (nat_lt count (2 ^ 63)) ≡ true → length rest ≡ 0 → IsCounted count rest chunks
    → (dims : List Dimension) (margins : List ℕ) → length (core_rows dims margins chunks) < 2 ^ 63
all_few count [] chunks small none is dims margins =
    let all : length (core_rows dims margins chunks) ≤ count + 0 = is dims margins in
    let few = ltb-true count (2 ^ 63) small in
    omega (arith, all, few)
all_few count (chunk ∷ rest) chunks small none is dims margins = absurd (omega (arith, none))
