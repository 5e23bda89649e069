-- The rows of cores.
use Rattle.std.proofs.Common.{◌≡◌, ℕ, List, [], ◌∷◌, Result, Ok, Err, sym, ap, ◌∙◌, subst}
use Rattle.std.specs.List.{AllByRecursion}
use Rattle.std.proofs.lemmas.Option.{none-some}
use Rattle.std.specs.Prelude.{IsTrue}
use Rattle.std.specs.declared.cmp.Ordering.{Ordering}
use Rattle.std.specs.declared.cmp.Ordering.TheVariants.{Less, Equal, Greater}
use Rattle.cell_values.specs.declared.datum.Broken.{Broken}
use Rattle.cell_values.specs.declared.datum.Row.{Row}
use Rattle.cell_values.specs.declared.schema.Bounds.{Bounds}
use Rattle.cell_values.specs.declared.schema.Dimension.{Dimension}
use Rattle.cell_values.specs.declared.schema.Schema.{Schema}
use Rattle.cell_values.specs.Cells.{IsCellOf}
use Rattle.cell_values.specs.Schemas.{IsValid}
use Rattle.array_geom.specs.Arrays.{AreRowsOf}
use Rattle.array_geom.specs.Boxes.{is_inside, bounds_of, within}
use Rattle.array_geom.specs.Rows.{IsRising, put_all, put_by, put_row, row_major}
use Rattle.array_geom.proofs.RowSets.{IsRising-put_all, IsRising-rows_where}
use Rattle.array_geom.specs.declared.chunk.Chunk.{Chunk}
use Rattle.array_geom.specs.declared.chunk.ChunkedArray.{ChunkedArray}
use Rattle.array_geom.specs.Geometry.{core, frame}
use Rattle.array_geom.specs.Link.{HoldsResult, HoldsRows, IsPart, chunk_rows, core_rows}
use Rattle.array_geom.proofs.LinkLaws.{chunks_have_their_rows}
use Rattle.array_parts.proofs.LawProofs.{held_rows_placed}
use Rattle.array_parts.proofs.PartLemmas.{all_kept}
use Rattle.array_parts.specs.Cores.{HaveCells, cores_of, unless_broken}
use Rattle.array_parts.specs.CoresLaws.{ArraysAreTheirCores, ArraysHaveCells, CoresAreRows}

-- ---- what holds of each row of the cores

all_put_row : (P : Row → Type 0) (new : Row) (rows : List Row) → P new → AllByRecursion P rows → AllByRecursion P (put_row new rows)
all_put_row P new [] p a = (p, tt)
all_put_row P new (row ∷ rows) p a = cases (row_major new.at.items row.at.items) (all_put_row P new rows p a.1)
  where
    cases : (t : Ordering) → AllByRecursion P (put_row new rows) → AllByRecursion P (put_by t new row rows (put_row new rows))
    cases Less r = (p, a)
    cases Equal r = (p, a.1)
    cases Greater r = (a.0, r)

all_put_all : (P : Row → Type 0) (a b : List Row) → AllByRecursion P a → AllByRecursion P b → AllByRecursion P (put_all a b)
all_put_all P [] b p q = q
all_put_all P (row ∷ a) b p q = all_put_row P row (put_all a b) p.0 (all_put_all P a b p.1 q)

all_cores : (P : Row → Type 0) (dims : List Dimension) (margins : List ℕ) (chunks : List Chunk) → AllByRecursion (λ chunk. AllByRecursion P (chunk_rows dims margins chunk)) chunks → AllByRecursion P (core_rows dims margins chunks)
all_cores P dims margins [] a = tt
all_cores P dims margins (chunk ∷ chunks) a =
    all_put_all P (within (core dims chunk.at.items) (chunk_rows dims margins chunk)) (core_rows dims margins chunks)
    (all_kept P (λ row. is_inside (core dims chunk.at.items) row.at.items) (chunk_rows dims margins chunk) a.0) (all_cores P dims margins chunks a.1)

cores_rise : (dims : List Dimension) (margins : List ℕ) (chunks : List Chunk) → IsRising (core_rows dims margins chunks)
cores_rise dims margins [] = tt
cores_rise dims margins (chunk ∷ chunks) = IsRising-put_all (within (core dims chunk.at.items) (chunk_rows dims margins chunk)) (core_rows dims margins chunks) (cores_rise dims margins chunks)

each_follows : (P Q : Chunk → Type 0) (chunks : List Chunk) → ((chunk : Chunk) → P chunk → Q chunk) → AllByRecursion P chunks → AllByRecursion Q chunks
each_follows P Q [] h a = tt
each_follows P Q (chunk ∷ chunks) h a = (h chunk a.0, each_follows P Q chunks h a.1)

-- the same of chunks in whatever order
pub cores_of_any : (schema : Schema) (margins : List ℕ) (chunks : List Chunk) → IsValid schema → AllByRecursion (λ chunk. AreRowsOf schema (chunk_rows schema.dimensions margins chunk)) chunks
    → AreRowsOf schema (core_rows schema.dimensions margins chunks)
cores_of_any schema margins chunks valid rows_of =
    let dims = schema.dimensions in
    let each = λ (Q : Chunk → Type 0) (f : (chunk : Chunk) → AreRowsOf schema (chunk_rows dims margins chunk) → Q chunk). each_follows (λ chunk. AreRowsOf schema (chunk_rows dims margins chunk)) Q chunks f rows_of in
    record {
      valid = valid;
      are_rows = record {
        rising = cores_rise dims margins chunks;
        in_bounds = all_cores (λ row. IsTrue (is_inside (bounds_of dims) row.at.items)) dims margins chunks
            (each (λ chunk. AllByRecursion (λ (row : Row). IsTrue (is_inside (bounds_of dims) row.at.items)) (chunk_rows dims margins chunk)) (λ chunk are. are.are_rows.in_bounds));
      };
      kinds = all_cores (λ row. IsCellOf schema.attributes row.cell) dims margins chunks
          (each (λ chunk. AllByRecursion (λ (row : Row). IsCellOf schema.attributes row.cell) (chunk_rows dims margins chunk)) (λ chunk are. are.kinds));
    }

pub cores_are_rows : CoresAreRows
cores_are_rows schema margins chunks h = cores_of_any schema margins chunks h.placed.valid h.rows_of

-- ---- arrays

boxed_rows : (schema : Schema) (area : Bounds) (rows : List Row) → AreRowsOf schema rows → AreRowsOf schema (within area rows)
boxed_rows schema area rows are = record {
  valid = are.valid;
  are_rows = record {
    rising = IsRising-rows_where (is_inside area) rows are.are_rows.rising;
    in_bounds = all_kept (λ row. IsTrue (is_inside (bounds_of schema.dimensions) row.at.items)) (λ row. is_inside area row.at.items) rows are.are_rows.in_bounds;
  };
  kinds = all_kept (λ row. IsCellOf schema.attributes row.cell) (λ row. is_inside area row.at.items) rows are.kinds;
}

part_rows : (schema : Schema) (margins : List ℕ) (rows : List Row) (chunks : List Chunk) → AreRowsOf schema rows → AllByRecursion (IsPart schema.dimensions margins rows) chunks
    → AllByRecursion (λ chunk. AreRowsOf schema (chunk_rows schema.dimensions margins chunk)) chunks
part_rows schema margins rows [] are parts = tt
part_rows schema margins rows (chunk ∷ chunks) are parts = (
  subst (AreRowsOf schema) (sym parts.0.cells) (boxed_rows schema (frame schema.dimensions margins chunk.at.items) rows are),
  part_rows schema margins rows chunks are parts.1,
)

held_cells : (schema : Schema) (array : ChunkedArray) (rows : List Row) → HoldsRows schema array rows → HaveCells schema array.margins.items array.chunks
held_cells schema array rows h = record { placed = held_rows_placed schema array rows h; rows_of = part_rows schema array.margins.items rows array.chunks h.rows_of h.chunks.parts }

pub arrays_have_cells : ArraysHaveCells
arrays_have_cells array meant is whole = subst (λ (s : Schema). HaveCells s array.margins.items array.chunks) (sym is.schema) (cases meant.rows is.cells)
  where
    cases : (r : Result (List Row) Broken) → HoldsResult meant.schema array r → HaveCells meant.schema array.margins.items array.chunks
    cases (Ok rows) h = held_cells meant.schema array rows h
    cases (Err broken) h = absurd (none-some broken (sym whole ∙ h))

its_rows : (schema : Schema) (array : ChunkedArray) (found : Result (List Row) Broken) → HoldsResult schema array found → unless_broken array.broken (core_rows schema.dimensions array.margins.items array.chunks) ≡ found
its_rows schema array (Ok rows) h =
    ap (λ b. unless_broken b (core_rows schema.dimensions array.margins.items array.chunks)) h.whole ∙ ap (λ (z : List Row). Ok z) (chunks_have_their_rows schema array rows h)
its_rows schema array (Err broken) h = ap (λ b. unless_broken b (core_rows schema.dimensions array.margins.items array.chunks)) h

pub arrays_are_their_cores : ArraysAreTheirCores
arrays_are_their_cores array meant is =
    let rows : unless_broken array.broken (cores_of array) ≡ meant.rows =
    ap (λ (s : Schema). unless_broken array.broken (core_rows s.dimensions array.margins.items array.chunks)) is.schema ∙ its_rows meant.schema array meant.rows is.cells in
    λ i. record { schema = is.schema i; rows = rows i }
