-- The rows of the cores of stored chunks: an array's sound rows, and a cell in just the cores that there are.
use Rattle.std.proofs.Common.{◌≡◌, ◌∙◌, ℕ, ℤ, Bool, true, false, cond, List, [], ◌∷◌, length, refl, sym, ap, subst, arith}
use Rattle.std.specs.Prelude.{◌||◌}
use Rattle.std.specs.List.{AllByRecursion, AllZip, list_any}
use Rattle.std.specs.declared.cmp.Ordering.{Ordering}
use Rattle.std.specs.declared.cmp.Ordering.TheVariants.{Less, Equal, Greater}
use Rattle.std.proofs.lemmas.Bool.{and_from}
use Rattle.cell_values.specs.declared.datum.Cell.{Cell}
use Rattle.cell_values.specs.declared.datum.Cell.TheVariants.{Full, Doubt}
use Rattle.cell_values.specs.declared.datum.Datum.{Datum}
use Rattle.cell_values.specs.declared.datum.Datum.TheVariants.{Null, Missing, Int, Text, Truth, Bad}
use Rattle.cell_values.specs.declared.datum.Row.{Row}
use Rattle.cell_values.specs.declared.schema.Attribute.{Attribute}
use Rattle.cell_values.specs.declared.schema.Bounds.{Bounds}
use Rattle.cell_values.specs.declared.schema.Dimension.{Dimension}
use Rattle.cell_values.specs.declared.schema.Schema.{Schema}
use Rattle.cell_values.specs.Schemas.{IsValid}
use Rattle.array_geom.specs.Arrays.{AreRowsOf}
use Rattle.array_geom.specs.Boxes.{is_inside, within}
use Rattle.array_geom.specs.Rows.{IsRising, placed, put_all, put_by, put_row, row_major}
use Rattle.array_geom.proofs.RowSets.{IsRising-put_all, rows_where-put_all}
use Rattle.array_geom.specs.declared.chunk.Chunk.{Chunk}
use Rattle.array_geom.specs.Chunks.{IsChunk}
use Rattle.array_geom.specs.Geometry.{ChunkNumber, core, coordinate_in, frame_low, frame_lengths, overlaps}
use Rattle.array_geom.specs.Inner.Ranges.{AreNear}
use Rattle.array_geom.specs.Link.{chunk_rows, core_rows, has_cell, is_listed, is_not_empty, numbers, rows_in, NumbersRise}
use Rattle.array_geom.proofs.CoreLaws.{core_of}
use Rattle.array_geom.proofs.LinkLaws.{within-within}
use Rattle.array_geom.proofs.NearLemmas.{valid_placed}
use Rattle.array_parts.proofs.CoreLaws.{cores_are_rows}
use Rattle.array_parts.proofs.PartLemmas.{all_kept}
use Rattle.array_parts.proofs.PlaceRows.{valid_chunks_have_cells}
use Rattle.logical_plan.specs.Typing.{AreSound, is_sound, may_stand, may_all_stand}
use Rattle.chunk_rle.specs.Stored.{IsStored, IsStoredCell, is_stored}
use Rattle.backup_format.proofs.CoreChunks.{core_long, have_places}
use Rattle.backup_format.proofs.RisingNumbers.{same, same_itself, are_same}

-- ---- what holds of each row of the cores

all_put_row : (P : Row → Type 0) (new : Row) (rows : List Row) → P new → AllByRecursion P rows → AllByRecursion P (put_row new rows)
all_put_row P new [] p a = (p, tt)
all_put_row P new (row ∷ rows) p a = cases (row_major new.at.items row.at.items) (all_put_row P new rows p a.1)
  where
    cases : (t : Ordering) → AllByRecursion P (put_row new rows) → AllByRecursion P (put_by t new row rows (put_row new rows))
    cases Less r = (p, a)
    cases Equal r = (p, a.1)
    cases Greater r = (a.0, r)

all_put_all : (P : Row → Type 0) (a b : List Row) → AllByRecursion P a → AllByRecursion P b → AllByRecursion P (put_all a b)
all_put_all P [] b p q = q
all_put_all P (row ∷ a) b p q = all_put_row P row (put_all a b) p.0 (all_put_all P a b p.1 q)

all_cores : (P : Row → Type 0) (dims : List Dimension) (margins : List ℕ) (chunks : List Chunk) → AllByRecursion (λ chunk. AllByRecursion P (chunk_rows dims margins chunk)) chunks → AllByRecursion P (core_rows dims margins chunks)
all_cores P dims margins [] a = tt
all_cores P dims margins (chunk ∷ chunks) a =
    all_put_all P (within (core dims chunk.at.items) (chunk_rows dims margins chunk)) (core_rows dims margins chunks)
    (all_kept P (λ row. is_inside (core dims chunk.at.items) row.at.items) (chunk_rows dims margins chunk) a.0) (all_cores P dims margins chunks a.1)

cores_rise : (dims : List Dimension) (margins : List ℕ) (chunks : List Chunk) → IsRising (core_rows dims margins chunks)
cores_rise dims margins [] = tt
cores_rise dims margins (chunk ∷ chunks) = IsRising-put_all (within (core dims chunk.at.items) (chunk_rows dims margins chunk)) (core_rows dims margins chunks) (cores_rise dims margins chunks)

-- ---- which cores hold a cell

not_empty_row : (row : Row) (rows : List Row) → is_not_empty (put_row row rows) ≡ true
not_empty_row row [] = refl
not_empty_row row (r ∷ rows) = by_order (row_major row.at.items r.at.items)
  where
    by_order : (o : Ordering) → is_not_empty (put_by o row r rows (put_row row rows)) ≡ true
    by_order Less = refl
    by_order Equal = refl
    by_order Greater = refl

not_empty_all : (a b : List Row) → is_not_empty (put_all a b) ≡ (is_not_empty a || is_not_empty b)
not_empty_all [] b = refl
not_empty_all (row ∷ a) b = not_empty_row row (put_all a b)

not_empty_by : (t : Bool) (row : Row) (part : List Row) → is_not_empty (cond t (row ∷ part) part) ≡ (t || is_not_empty part)
not_empty_by true row part = refl
not_empty_by false row part = refl

cell_in : (area : Bounds) (low : List ℤ) (lens positions : List ℕ) (cells : List Cell) → length cells ≡ length positions → is_not_empty (within area (rows_in low lens positions cells)) ≡ list_any (λ p. is_inside area (coordinate_in low lens p)) positions
cell_in area low lens [] [] each = refl
cell_in area low lens [] (c ∷ cells) each = absurd (omega (arith, each))
cell_in area low lens (p ∷ positions) [] each = absurd (omega (arith, each))
cell_in area low lens (p ∷ positions) (c ∷ cells) each =
    not_empty_by (is_inside area (coordinate_in low lens p)) (placed (coordinate_in low lens p) c) (within area (rows_in low lens positions cells))
    ∙ ap (λ (b : Bool). is_inside area (coordinate_in low lens p) || b) (cell_in area low lens positions cells (omega (arith, each)))

never : true ≡ false → ⊥
never e = cc

-- no row lies in the cores of two chunks
apart : (dims : List Dimension) (j k : ChunkNumber) → AreNear dims → length j ≡ length dims → length k ≡ length dims → same j k ≡ false → (rows : List Row) → is_not_empty (within (core dims k) (within (core dims j) rows)) ≡ false
apart dims j k near long long' differ [] = refl
apart dims j k near long long' differ (row ∷ rows) = by_tests (is_inside (core dims j) row.at.items) (is_inside (core dims k) row.at.items) refl refl (apart dims j k near long long' differ rows)
  where
    part : List Row
    part = within (core dims j) rows

    by_tests : (t u : Bool) → is_inside (core dims j) row.at.items ≡ t → is_inside (core dims k) row.at.items ≡ u → is_not_empty (within (core dims k) part) ≡ false → is_not_empty (within (core dims k) (cond t (row ∷ part) part)) ≡ false
    by_tests false u e f later = later
    by_tests true false e f later = ap (λ (b : Bool). is_not_empty (cond b (row ∷ within (core dims k) part) (within (core dims k) part))) f ∙ later
    by_tests true true e f later =
        let one : j ≡ k = core_of dims j row.at.items near long e ∙ sym (core_of dims k row.at.items near long' f) in
        absurd (never (sym (subst (λ (m : ChunkNumber). same j m ≡ true) one (same_itself j)) ∙ differ))

its_core : (schema : Schema) (k : ChunkNumber) (chunk : Chunk) → length k ≡ length schema.dimensions → IsStored schema chunk
    → is_not_empty (within (core schema.dimensions k) (within (core schema.dimensions chunk.at.items) (chunk_rows schema.dimensions (overlaps schema.dimensions) chunk))) ≡ same chunk.at.items k
its_core schema k chunk long s = by_test (same chunk.at.items k) refl
  where
    dims : List Dimension
    dims = schema.dimensions

    rows : List Row
    rows = chunk_rows dims (overlaps dims) chunk

    by_test : (t : Bool) → same chunk.at.items k ≡ t → is_not_empty (within (core dims k) (within (core dims chunk.at.items) rows)) ≡ t
    by_test true e =
        let one : chunk.at.items ≡ k = are_same chunk.at.items k e in
        subst (λ (m : ChunkNumber). is_not_empty (within (core dims m) (within (core dims chunk.at.items) rows)) ≡ true) one
        (ap is_not_empty (within-within (core dims chunk.at.items) (core dims chunk.at.items) rows (λ c inside. inside))
        ∙ cell_in (core dims chunk.at.items) (frame_low dims (overlaps dims) chunk.at.items) (frame_lengths dims (overlaps dims)) chunk.positions chunk.cells s.valid.each ∙ s.valid.in_core)
    by_test false e = apart dims chunk.at.items k (valid_placed schema s.valid.framed.valid).near (core_long dims chunk.at.items s.valid.framed.core) long e rows

pub cores_listed : (schema : Schema) (k : ChunkNumber) (chunks : List Chunk) → length k ≡ length schema.dimensions → AllByRecursion (IsStored schema) chunks → has_cell schema.dimensions (core_rows schema.dimensions (overlaps schema.dimensions) chunks) k ≡ is_listed k (numbers chunks)
cores_listed schema k [] long all = refl
cores_listed schema k (chunk ∷ chunks) long all =
    let dims = schema.dimensions in
    let own = within (core dims chunk.at.items) (chunk_rows dims (overlaps dims) chunk) in
    let others = core_rows dims (overlaps dims) chunks in
    ap is_not_empty (rows_where-put_all (is_inside (core dims k)) own others (cores_rise dims (overlaps dims) chunks))
    ∙ not_empty_all (within (core dims k) own) (within (core dims k) others)
    ∙ ap (λ (b : Bool). b || is_not_empty (within (core dims k) others)) (its_core schema k chunk long all.0)
    ∙ ap (λ (b : Bool). same chunk.at.items k || b) (cores_listed schema k chunks long all.1)

-- ---- sound rows

value_given : (a : Attribute) (v : Datum) → is_stored a v ≡ true → may_stand a v ≡ true
value_given a Null is = is
value_given a (Missing code) is = is
value_given a (Int n) is = refl
value_given a (Text s) is = refl
value_given a (Truth b) is = refl
value_given a (Bad kind) is = absurd cc

values_given : (attributes : List Attribute) (values : List Datum) → AllZip (λ a v. is_stored a v ≡ true) attributes values → may_all_stand attributes values ≡ true
values_given [] [] all = refl
values_given [] (v ∷ values) all = absurd all
values_given (a ∷ attributes) [] all = absurd all
values_given (a ∷ attributes) (v ∷ values) all = and_from (may_stand a v) (may_all_stand attributes values) (value_given a v all.0) (values_given attributes values all.1)

cells_given : (attributes : List Attribute) (cells : List Cell) → AllByRecursion (IsStoredCell attributes) cells → AllByRecursion (λ cell. is_sound attributes cell ≡ true) cells
cells_given attributes [] all = tt
cells_given attributes (Full values ∷ cells) all = (values_given attributes values all.0, cells_given attributes cells all.1)
cells_given attributes (Doubt kind ∷ cells) all = absurd all.0

sound_rows : (attributes : List Attribute) (low : List ℤ) (lens positions : List ℕ) (cells : List Cell) → AllByRecursion (λ cell. is_sound attributes cell ≡ true) cells → AllByRecursion (λ (row : Row). is_sound attributes row.cell ≡ true) (rows_in low lens positions cells)
sound_rows attributes low lens [] [] all = tt
sound_rows attributes low lens [] (c ∷ cells) all = tt
sound_rows attributes low lens (p ∷ positions) [] all = tt
sound_rows attributes low lens (p ∷ positions) (c ∷ cells) all = (all.0, sound_rows attributes low lens positions cells all.1)

sound_chunks : (schema : Schema) (chunks : List Chunk) → AllByRecursion (IsStored schema) chunks → AllByRecursion (λ chunk. AllByRecursion (λ (row : Row). is_sound schema.attributes row.cell ≡ true) (chunk_rows schema.dimensions (overlaps schema.dimensions) chunk)) chunks
sound_chunks schema [] all = tt
sound_chunks schema (chunk ∷ chunks) all = (
  sound_rows schema.attributes (frame_low schema.dimensions (overlaps schema.dimensions) chunk.at.items) (frame_lengths schema.dimensions (overlaps schema.dimensions)) chunk.positions chunk.cells (cells_given schema.attributes chunk.cells all.0.cells),
  sound_chunks schema chunks all.1,
)

pub cores_sound : (schema : Schema) (chunks : List Chunk) → AllByRecursion (IsStored schema) chunks → AreSound schema (core_rows schema.dimensions (overlaps schema.dimensions) chunks)
cores_sound schema chunks all = all_cores (λ (row : Row). is_sound schema.attributes row.cell ≡ true) schema.dimensions (overlaps schema.dimensions) chunks (sound_chunks schema chunks all)

valid_chunks : (schema : Schema) (chunks : List Chunk) → AllByRecursion (IsStored schema) chunks → AllByRecursion (IsChunk schema (overlaps schema.dimensions)) chunks
valid_chunks schema [] all = tt
valid_chunks schema (chunk ∷ chunks) all = (all.0.valid, valid_chunks schema chunks all.1)

pub cores_rows : (schema : Schema) (chunks : List Chunk) → IsValid schema → NumbersRise (numbers chunks) → AllByRecursion (IsStored schema) chunks → AreRowsOf schema (core_rows schema.dimensions (overlaps schema.dimensions) chunks)
cores_rows schema [] valid rise all = record { valid = valid; are_rows = record { rising = tt; in_bounds = tt }; kinds = tt }
cores_rows schema (chunk ∷ chunks) valid rise all =
    let ms = overlaps schema.dimensions in
    cores_are_rows schema ms (chunk ∷ chunks) (valid_chunks_have_cells schema ms (chunk ∷ chunks) (have_places schema ms chunk.at.items (chunk ∷ chunks) refl valid all.0.valid.framed.core rise all) (valid_chunks schema (chunk ∷ chunks) all))
