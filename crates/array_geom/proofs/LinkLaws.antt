-- The core cells of an array's chunks, put together, are its rows.
use Rattle.std.proofs.Common.{◌≡◌, ℕ, Bool, true, false, cond, ◌||◌, Option, Some, None, List, [], ◌∷◌, map, length, refl, sym, ap, ◌∙◌}
use Rattle.std.specs.List.{AllByRecursion}
use Rattle.std.specs.Ordering.{is_eq}
use Rattle.std.specs.declared.cmp.Ordering.{Ordering}
use Rattle.std.specs.declared.cmp.Ordering.TheVariants.{Less, Equal, Greater}
use Rattle.array_rows.specs.Cell.{Cell}
use Rattle.array_rows.specs.Row.{Row}
use Rattle.array_rows.specs.Bounds.{Bounds}
use Rattle.array_rows.specs.Dimension.{Dimension}
use Rattle.array_rows.specs.Arrays.{AreRows}
use Rattle.array_rows.specs.Boxes.{is_inside, within, bounds_of}
use Rattle.array_rows.specs.Rows.{Coordinate, row_major, cell_at, put_all}
use Rattle.array_rows.proofs.RowsLemmas.{cond_out, row_major_exact}
use Rattle.array_rows.proofs.RowSets.{gathered, is_covered, gathered_all, cell_at-within}
use Rattle.array_geom.specs.declared.chunk.Chunk.{Chunk}
use Rattle.array_geom.specs.Geometry.{ChunkNumber, chunk_of, core, frame}
use Rattle.array_geom.specs.Laws.{ChunksHaveTheirRows, ChunksHaveOneMeaning}
use Rattle.array_geom.specs.Link.{core_rows, IsPart, number_order, numbers, is_listed, is_not_empty, AreChunksOf}
use Rattle.array_geom.specs.Inner.Ranges.{AreNear}
use Rattle.array_geom.proofs.CoreLaws.{core_has, core_in_frame, length-chunk_of}
use Rattle.array_geom.proofs.NearLemmas.{valid_placed}
use Rattle.array_geom.proofs.NumberLaws.{same_number, is_equal}

-- the rows of a box are those that a larger box has in it
pub within-within : (inner outer : Bounds) (rows : List Row) → ((c : Coordinate) → is_inside inner c ≡ true → is_inside outer c ≡ true) → within inner (within outer rows) ≡ within inner rows
within-within inner outer [] h = refl
within-within inner outer (row ∷ rows) h =
    cond_out (within inner) (is_inside outer row.at.items) (row ∷ within outer rows) (within outer rows)
    ∙ ap (λ (z : List Row). cond (is_inside outer row.at.items) (cond (is_inside inner row.at.items) (row ∷ z) z) z) (within-within inner outer rows h)
    ∙ tests (is_inside inner row.at.items) (is_inside outer row.at.items) (h row.at.items)
  where
    tests : (p q : Bool) → (p ≡ true → q ≡ true) → cond q (cond p (row ∷ within inner rows) (within inner rows)) (within inner rows) ≡ cond p (row ∷ within inner rows) (within inner rows)
    tests p true i = refl
    tests false false i = refl
    tests true false i = let f : false ≡ true = i refl in cc

core_rows-gathered : (dims : List Dimension) (margins : List ℕ) (rows : List Row) (chunks : List Chunk) → length margins ≡ length dims → AllByRecursion (IsPart dims margins rows) chunks → core_rows dims margins chunks ≡ gathered (map (core dims) (numbers chunks)) rows
core_rows-gathered dims margins rows [] n parts = refl
core_rows-gathered dims margins rows (chunk ∷ chunks) n parts =
    ap (λ (z : List Row). put_all (within (core dims chunk.at.items) z) (core_rows dims margins chunks)) parts.0.cells
    ∙ ap (λ (z : List Row). put_all z (core_rows dims margins chunks)) (within-within (core dims chunk.at.items) (frame dims margins chunk.at.items) rows (λ c. core_in_frame dims margins chunk.at.items c n))
    ∙ ap (put_all (within (core dims chunk.at.items) rows)) (core_rows-gathered dims margins rows chunks n parts.1)

listed_covers : (dims : List Dimension) (k : ChunkNumber) (c : Coordinate) (ks : List ChunkNumber) → is_listed k ks ≡ true → is_inside (core dims k) c ≡ true → is_covered (map (core dims) ks) c ≡ true
listed_covers dims k c [] e f = e
listed_covers dims k c (n ∷ ks) e f =
    tests (is_eq (number_order n k)) (is_inside (core dims n) c) (is_listed k ks) (is_covered (map (core dims) ks) c) e
    (λ t. ap (λ (z : ChunkNumber). is_inside (core dims z) c) (same_number n k (is_equal (number_order n k) t)) ∙ f) (λ l. listed_covers dims k c ks l f)
  where
    tests : (t p l q : Bool) → (t || l) ≡ true → (t ≡ true → p ≡ true) → (l ≡ true → q ≡ true) → (p || q) ≡ true
    tests true p l q e g h = let i : p ≡ true = g refl in ap (λ (z : Bool). z || q) i
    tests false true l q e g h = refl
    tests false false l q e g h = h e

cell_in_bounds : (area : Bounds) (rows : List Row) (c : Coordinate) (x : Cell) → AllByRecursion (λ row. is_inside area row.at.items ≡ true) rows → cell_at rows c ≡ Some x → is_inside area c ≡ true
cell_in_bounds area [] c x a e = cc
cell_in_bounds area (row ∷ rows) c x a e = cases (row_major row.at.items c) refl e (cell_in_bounds area rows c x a.1)
  where
    cases : (t : Ordering) → row_major row.at.items c ≡ t → cond (is_eq t) (Some row.cell) (cell_at rows c) ≡ Some x → (cell_at rows c ≡ Some x → is_inside area c ≡ true) → is_inside area c ≡ true
    cases Less t f ih = ih f
    cases Greater t f ih = ih f
    cases Equal t f ih = ap (is_inside area) (sym (row_major_exact row.at.items c t)) ∙ a.0

not_empty_at : (rows : List Row) (c : Coordinate) (x : Cell) → cell_at rows c ≡ Some x → is_not_empty rows ≡ true
not_empty_at [] c x e = cc
not_empty_at (row ∷ rows) c x e = refl

pub core_rows_all : (dims : List Dimension) (margins : List ℕ) (rows : List Row) (chunks : List Chunk) → AreNear dims → length margins ≡ length dims → AreRows dims rows → AreChunksOf dims margins rows chunks → core_rows dims margins chunks ≡ rows
core_rows_all dims margins rows chunks near n are array =
    core_rows-gathered dims margins rows chunks n array.parts
    ∙ gathered_all (map (core dims) (numbers chunks)) rows are.rising (λ c e. empty c e (cell_at rows c) refl)
  where
    empty : (c : Coordinate) → is_covered (map (core dims) (numbers chunks)) c ≡ false → (o : Option Cell) → cell_at rows c ≡ o → cell_at rows c ≡ None
    empty c e None f = f
    empty c e (Some x) f =
        let inside_bounds : is_inside (bounds_of dims) c ≡ true = cell_in_bounds (bounds_of dims) rows c x are.in_bounds f in
        let inside : is_inside (core dims (chunk_of dims c)) c ≡ true = core_has dims c near inside_bounds in
        let held : cell_at (within (core dims (chunk_of dims c)) rows) c ≡ Some x = cell_at-within (core dims (chunk_of dims c)) rows c ∙ ap (λ (b : Bool). cond b (cell_at rows c) None) inside ∙ f in
        let covered : is_covered (map (core dims) (numbers chunks)) c ≡ true = listed_covers dims (chunk_of dims c) c (numbers chunks) (array.listed (chunk_of dims c) (length-chunk_of dims c inside_bounds) ∙ not_empty_at (within (core dims (chunk_of dims c)) rows) c x held) inside in
        cc

pub chunks_have_their_rows : ChunksHaveTheirRows
chunks_have_their_rows schema array rows h = core_rows_all schema.dimensions array.margins.items rows array.chunks (valid_placed schema h.rows_of.valid).near h.each h.rows_of.are_rows h.chunks

pub chunks_have_one_meaning : ChunksHaveOneMeaning
chunks_have_one_meaning schema array a b h k = sym (chunks_have_their_rows schema array a h) ∙ chunks_have_their_rows schema array b k
