-- The rows of chunks in order are what they tell.
use Rattle.std.proofs.Common.{◌≡◌, ℕ, Bool, true, false, cond, ◌||◌, List, [], ◌∷◌, ◌++◌, length, Option, Some, None, Result, Ok, Err, refl, sym, ap, ◌∙◌, subst}
use Rattle.std.specs.List.{AllByRecursion, AllZip, flat_map}
use Rattle.std.specs.Option.{option_or}
use Rattle.std.specs.Prelude.{IfOk}
use Rattle.std.specs.Ordering.{is_eq}
use Rattle.std.specs.declared.cmp.Ordering.{Ordering}
use Rattle.std.specs.declared.cmp.Ordering.TheVariants.{Less, Equal, Greater}
use Rattle.arrayvec.specs.ArrayVec.{ArrayVec}
use Rattle.cell_values.specs.declared.datum.Cell.{Cell}
use Rattle.cell_values.specs.declared.datum.Row.{Row}
use Rattle.cell_values.specs.declared.memory.Memory.{Memory}
use Rattle.cell_values.specs.declared.schema.Bounds.{Bounds}
use Rattle.cell_values.specs.declared.schema.Dimension.{Dimension}
use Rattle.cell_values.specs.declared.schema.Schema.{Schema}
use Rattle.cell_values.specs.Cells.{IsCellOf}
use Rattle.cell_values.specs.Schemas.{IsValid}
use Rattle.array_rows.specs.Arrays.{AreRowsOf}
use Rattle.array_rows.specs.Boxes.{bounds_of, is_inside}
use Rattle.array_rows.specs.Rows.{Coordinate, IsRising, cell_at, in_order, put_by, put_row, row_major}
use Rattle.array_rows.proofs.RowsLemmas.{cond_out, same_rows}
use Rattle.array_rows.proofs.RowSets.{cell_at-in_order, cell_at-rows_where, cell_at-within, IsRising-in_order, IsRising-rows_where}
use Rattle.array_geom.specs.declared.chunk.Chunk.{Chunk}
use Rattle.array_geom.specs.declared.chunk.ChunkedArray.{ChunkedArray}
use Rattle.array_geom.specs.Chunks.{IsChunk}
use Rattle.array_geom.specs.Geometry.{core_meets, frame, overlaps}
use Rattle.array_geom.specs.Link.{Is, IsPart, NumbersRise, chunk_rows, numbers}
use Rattle.array_geom.proofs.MarginLaws.{overlap_each, overlap_places}
use Rattle.array_parts.specs.Placed.{HasPlaces, HavePlaces}
use Rattle.array_parts.proofs.LawProofs.{held_rows_placed}
use Rattle.array_parts.proofs.PlaceRows.{all_valid}
use Rattle.logical_plan.specs.Meaning.{Database, version_rows, whole}
use Rattle.logical_plan.specs.declared.parts.Leaf.{Leaf}
use Rattle.plan_needs.specs.Wanted.{wanted_of}
use Rattle.chunk_source.specs.Source.{AreNumbersIn, IsChunkIn, IsStored, numbers_of}
use Rattle.chunk_source.proofs.ValidLaws.{valid_chunks}
use Rattle.chunk_source.specs.Inner.Alone.{stand_alone}
use Rattle.chunk_source.specs.Known.{IsPartIn, is_framed, known, known_for}
use Rattle.chunk_source.specs.Read.{IsRead}
use Rattle.chunk_source.proofs.AloneLaws.{alone_is_known, rise_kept}
use Rattle.chunk_source.proofs.ReadingLeafLaws.{core_sized, stored_numbers}

-- ---- cells

cell_at-append : (a b : List Row) (c : Coordinate) → cell_at (a ++ b) c ≡ option_or (cell_at a c) (cell_at b c)
cell_at-append [] b c = refl
cell_at-append (row ∷ a) b c =
    ap (cond (is_eq (row_major row.at.items c)) (Some row.cell)) (cell_at-append a b c)
    ∙ sym (cond_out (λ (o : Option Cell). option_or o (cell_at b c)) (is_eq (row_major row.at.items c)) (Some row.cell) (cell_at a c))

either_cell : (p q : Bool) (o : Option Cell) → option_or (cond p o None) (cond q o None) ≡ cond (p || q) o None
either_cell true true None = refl
either_cell true true (Some x) = refl
either_cell true false None = refl
either_cell true false (Some x) = refl
either_cell false q o = refl

module _ (schema : Schema) (rows : List Row) where
  abbrev dims : List Dimension
  dims = schema.dimensions

  abbrev of_chunk : Chunk → List Row
  of_chunk = chunk_rows schema.dimensions (overlaps schema.dimensions)

  told_cells : (at : List (ArrayVec ℕ)) (chunks : List Chunk) (c : Coordinate) → AllZip (IsStored schema) at chunks → AllByRecursion (IsPart dims (overlaps dims) rows) chunks
      → cell_at (flat_map of_chunk chunks) c ≡ cond (is_framed dims at c) (cell_at rows c) None
  told_cells [] [] c z parts = refl
  told_cells [] (chunk ∷ chunks) c z parts = absurd z
  told_cells (n ∷ at) [] c z parts = absurd z
  told_cells (n ∷ at) (chunk ∷ chunks) c z parts =
      cell_at-append (of_chunk chunk) (flat_map of_chunk chunks) c
      ∙ ap (λ (o : Option Cell). option_or o (cell_at (flat_map of_chunk chunks) c))
      (ap (λ (rs : List Row). cell_at rs c) parts.0.cells
      ∙ cell_at-within (frame dims (overlaps dims) chunk.at.items) rows c
      ∙ ap (λ (v : ArrayVec ℕ). cond (is_inside (frame dims (overlaps dims) v.items) c) (cell_at rows c) None) z.0.number)
      ∙ ap (λ (o : Option Cell). option_or (cond (is_inside (frame dims (overlaps dims) n.items) c) (cell_at rows c) None) o) (told_cells at chunks c z.1 parts.1)
      ∙ either_cell (is_inside (frame dims (overlaps dims) n.items) c) (is_framed dims at c) (cell_at rows c)

  pub told_rows : (at : List (ArrayVec ℕ)) (chunks : List Chunk) → IsRising rows → AllZip (IsStored schema) at chunks → AllByRecursion (IsPart dims (overlaps dims) rows) chunks
      → in_order (flat_map of_chunk chunks) ≡ known dims at rows
  told_rows at chunks r z parts =
      same_rows (in_order (flat_map of_chunk chunks)) (known dims at rows) (IsRising-in_order (flat_map of_chunk chunks)) (IsRising-rows_where (is_framed dims at) rows r)
      (λ c. cell_at-in_order (flat_map of_chunk chunks) c ∙ told_cells at chunks c z parts ∙ sym (cell_at-rows_where (is_framed dims at) rows c))

-- ---- rows of a schema

module _ (P : Row → Type 0) where
  all_put : (new : Row) (rows : List Row) → P new → AllByRecursion P rows → AllByRecursion P (put_row new rows)
  all_put new [] p a = (p, tt)
  all_put new (row ∷ rows) p a = cases (row_major new.at.items row.at.items) (all_put new rows p a.1)
    where
      cases : (t : Ordering) → AllByRecursion P (put_row new rows) → AllByRecursion P (put_by t new row rows (put_row new rows))
      cases Less ih = (p, a)
      cases Equal ih = (p, a.1)
      cases Greater ih = (a.0, ih)

  all_in_order : (rows : List Row) → AllByRecursion P rows → AllByRecursion P (in_order rows)
  all_in_order [] a = tt
  all_in_order (row ∷ rows) a = all_put row (in_order rows) a.0 (all_in_order rows a.1)

  all_appended : (a b : List Row) → AllByRecursion P a → AllByRecursion P b → AllByRecursion P (a ++ b)
  all_appended [] b h k = k
  all_appended (row ∷ a) b h k = (h.0, all_appended a b h.1 k)

  all_of_chunks : (f : Chunk → List Row) (Q : List Row → Type 0) (chunks : List Chunk) → ((rows : List Row) → Q rows → AllByRecursion P rows) → AllByRecursion (λ chunk. Q (f chunk)) chunks → AllByRecursion P (flat_map f chunks)
  all_of_chunks f Q [] g a = tt
  all_of_chunks f Q (chunk ∷ chunks) g a = all_appended (f chunk) (flat_map f chunks) (g (f chunk) a.0) (all_of_chunks f Q chunks g a.1)

rows_in_chunks : (schema : Schema) (margins : List ℕ) (chunks : List Chunk) → IsValid schema → AllByRecursion (λ chunk. AreRowsOf schema (chunk_rows schema.dimensions margins chunk)) chunks
    → AreRowsOf schema (in_order (flat_map (chunk_rows schema.dimensions margins) chunks))
rows_in_chunks schema margins chunks valid a =
    let all = flat_map (chunk_rows schema.dimensions margins) chunks in
    record {
      valid = valid;
      are_rows = record {
        rising = IsRising-in_order all;
        in_bounds = all_in_order (λ row. is_inside (bounds_of schema.dimensions) row.at.items ≡ true) all
            (all_of_chunks (λ row. is_inside (bounds_of schema.dimensions) row.at.items ≡ true) (chunk_rows schema.dimensions margins) (AreRowsOf schema) chunks (λ rows are. are.are_rows.in_bounds) a);
      };
      kinds = all_in_order (λ row. IsCellOf schema.attributes row.cell) all
          (all_of_chunks (λ row. IsCellOf schema.attributes row.cell) (chunk_rows schema.dimensions margins) (AreRowsOf schema) chunks (λ rows are. are.kinds) a);
    }

-- ---- chunks and arrays

each_placed : (schema : Schema) (margins : List ℕ) (chunks : List Chunk) → AllByRecursion (IsChunk schema margins) chunks → AllByRecursion (HasPlaces schema margins) chunks
each_placed schema margins [] a = tt
each_placed schema margins (chunk ∷ chunks) a = (record { framed = a.0.framed; placed = record { each = a.0.each; in_frame = a.0.in_frame } }, each_placed schema margins chunks a.1)

numbers_sized : (schema : Schema) (margins : List ℕ) (chunks : List Chunk) → AllByRecursion (IsChunk schema margins) chunks → AllByRecursion (λ k. length k ≡ length schema.dimensions) (numbers chunks)
numbers_sized schema margins [] a = tt
numbers_sized schema margins (chunk ∷ chunks) a = (core_sized schema.dimensions chunk.at.items a.0.framed.core, numbers_sized schema margins chunks a.1)

-- chunks of a schema, with its overlaps as margins
module _ (schema : Schema) (margins : List ℕ) (chunks : List Chunk) (are : margins ≡ overlaps schema.dimensions) (valid : IsValid schema) (good : AllByRecursion (IsChunk schema (overlaps schema.dimensions)) chunks) where
  their_margins : AllByRecursion (IsChunk schema margins) chunks
  their_margins = subst (λ (ms : List ℕ). AllByRecursion (IsChunk schema ms) chunks) (sym are) good

  pub their_places : AllByRecursion (HasPlaces schema margins) chunks
  their_places = each_placed schema margins chunks their_margins

  have_places : NumbersRise (numbers chunks) → HavePlaces schema margins chunks
  have_places rise = record {
    valid = valid;
    each = overlap_each schema margins are;
    places = overlap_places schema margins are valid;
    rising = rise;
    sized = numbers_sized schema margins chunks their_margins;
    all = their_places;
  }

  pub are_rows : (rows : List Row) → rows ≡ in_order (flat_map (chunk_rows schema.dimensions margins) chunks) → AreRowsOf schema rows
  are_rows rows e = subst (AreRowsOf schema) (sym e) (rows_in_chunks schema margins chunks valid (all_valid schema margins chunks their_margins))

  pub standing_is_read : NumbersRise (numbers chunks) → (array : ChunkedArray) → array.schema ≡ schema → array.margins.items ≡ margins → array.broken ≡ None → array.chunks ≡ chunks → IsRead schema array
  standing_is_read rise array e m b c = record {
    schema_is = e;
    margins = m ∙ are;
    whole = b;
    placed = rw (e, m, c) (have_places rise);
    valid = rw (e, m, c) their_margins;
  }

pub held_is_read : (schema : Schema) (rows : List Row) (array : ChunkedArray) → Is array (whole schema rows) → array.margins.items ≡ overlaps schema.dimensions → IsRead schema array
held_is_read schema rows array is m = record {
  schema_is = is.schema;
  margins = m;
  whole = is.cells.whole;
  placed = subst (λ (s : Schema). HavePlaces s array.margins.items array.chunks) (sym is.schema) (held_rows_placed schema array rows is.cells);
  valid = subst (λ (s : Schema). AllByRecursion (IsChunk s array.margins.items) array.chunks) (sym is.schema) (valid_chunks schema array rows is.cells);
}

-- the same of what a call answers
pub all_standing_are_read : (schema : Schema) (chunks : List Chunk) → IsValid schema → AllByRecursion (IsChunk schema (overlaps schema.dimensions)) chunks → NumbersRise (numbers chunks) → (answer : Result ChunkedArray Memory)
    → IfOk answer (λ array. array.schema ≡ schema) → IfOk answer (λ array. array.margins.items ≡ overlaps schema.dimensions) → IfOk answer (λ array. array.broken ≡ None) → IfOk answer (λ array. array.chunks ≡ chunks)
    → IfOk answer (IsRead schema)
all_standing_are_read schema chunks valid good rise (Ok array) e m b c = standing_is_read schema (overlaps schema.dimensions) chunks refl valid good rise array e m b c
all_standing_are_read schema chunks valid good rise (Err memory) e m b c = tt

pub all_held_are_read : (schema : Schema) (rows : List Row) (answer : Result ChunkedArray Memory) → IfOk answer (λ array. Is array (whole schema rows)) → IfOk answer (λ array. array.margins.items ≡ overlaps schema.dimensions)
    → IfOk answer (IsRead schema)
all_held_are_read schema rows (Ok array) is m = held_is_read schema rows array is m
all_held_are_read schema rows (Err memory) is m = tt

-- ---- what was read of a leaf

pub valid_stored : (schema : Schema) (at : List (ArrayVec ℕ)) (chunks : List Chunk) → AllZip (IsStored schema) at chunks → AllByRecursion (IsChunk schema (overlaps schema.dimensions)) chunks
valid_stored schema [] [] z = tt
valid_stored schema [] (c ∷ chunks) z = absurd z
valid_stored schema (n ∷ at) [] z = absurd z
valid_stored schema (n ∷ at) (c ∷ chunks) z = (z.0.valid, valid_stored schema at chunks z.1)

-- what was read of the wanted chunks stands by rising numbers
pub wanted_rise : (leaf : Leaf) (area : Bounds) (stored wanted : List (ArrayVec ℕ)) (chunks : List Chunk) → NumbersRise (numbers_of stored) → wanted ≡ wanted_of leaf.schema.dimensions area stored
    → AllZip (IsStored leaf.schema) wanted chunks → NumbersRise (numbers chunks)
wanted_rise leaf area stored wanted chunks rising is zip =
    subst NumbersRise (sym (stored_numbers leaf.schema wanted chunks zip))
    (subst (λ (ks : List (ArrayVec ℕ)). NumbersRise (numbers_of ks)) (sym is) (rise_kept (λ chunk. core_meets leaf.schema.dimensions area chunk.items) stored rising))

pub part_is_told : (db : Database) (leaf : Leaf) (area : Bounds) (stored : List (ArrayVec ℕ)) (chunks : List Chunk) (alone : Bool) (array : ChunkedArray)
    → alone ≡ stand_alone leaf.schema.dimensions stored (wanted_of leaf.schema.dimensions area stored) → IsValid leaf.schema → NumbersRise (numbers_of stored)
    → AllZip (IsStored leaf.schema) (wanted_of leaf.schema.dimensions area stored) chunks → AreNumbersIn db leaf stored → AllByRecursion (IsChunkIn db leaf) chunks → IsRead leaf.schema array
    → (alone ≡ true → array.chunks ≡ chunks)
    → (alone ≡ false → Is array (whole leaf.schema (in_order (flat_map (chunk_rows leaf.schema.dimensions (overlaps leaf.schema.dimensions)) chunks))))
    → IsPartIn db leaf area stored array
part_is_told db leaf area stored chunks alone array is valid rising zip has parts read standing together = record { stored_is = has valid; known_is = cases alone is standing together }
  where
    cases : (t : Bool) → t ≡ stand_alone leaf.schema.dimensions stored (wanted_of leaf.schema.dimensions area stored) → (t ≡ true → array.chunks ≡ chunks)
        → (t ≡ false → Is array (whole leaf.schema (in_order (flat_map (chunk_rows leaf.schema.dimensions (overlaps leaf.schema.dimensions)) chunks))))
        → Is array (whole leaf.schema (known_for leaf area stored (version_rows db leaf.name leaf.version)))
    cases true e s g =
        let same : chunks ≡ array.chunks = sym (s refl) in
        alone_is_known leaf area (version_rows db leaf.name leaf.version) stored array read valid rising (has valid)
        (subst (λ (cs : List Chunk). AllZip (IsStored leaf.schema) (wanted_of leaf.schema.dimensions area stored) cs) same zip)
        (subst (λ (cs : List Chunk). AllByRecursion (IsChunkIn db leaf) cs) same parts) (sym e)
    cases false e s g =
        subst (λ (rs : List Row). Is array (whole leaf.schema rs))
        (told_rows leaf.schema (version_rows db leaf.name leaf.version) (wanted_of leaf.schema.dimensions area stored) chunks (has valid).rows_of.are_rows.rising zip parts) (g refl)
