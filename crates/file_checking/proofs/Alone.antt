-- Without overlaps no overlap is wrong: each payload is that of its own core.
use Rattle.std.proofs.Common.{◌≡◌, ◌<◌, ℕ, Bool, true, false, cond, List, [], ◌∷◌, length, map, refl, sym, ◌∙◌, ap, subst, arith}
use Rattle.std.specs.Prelude.{nat_lt, ◌||◌}
use Rattle.std.specs.List.{AllByRecursion, list_all}
use Rattle.std.specs.Ordering.{is_eq}
use Rattle.std.specs.declared.cmp.Ordering.{Ordering}
use Rattle.std.specs.declared.cmp.Ordering.TheVariants.{Less}
use Rattle.std.proofs.lemmas.Bool.{and_from}
use Rattle.std.proofs.lemmas.Slice.Eq.{bytes_eq-Decides}
use Rattle.cell_values.specs.declared.datum.Cell.{Cell}
use Rattle.cell_values.specs.declared.datum.Row.{Row}
use Rattle.cell_values.specs.declared.schema.Bounds.{Bounds}
use Rattle.cell_values.specs.declared.schema.Dimension.{Dimension}
use Rattle.cell_values.specs.declared.schema.Schema.{Schema}
use Rattle.cell_values.specs.Schemas.{IsValid}
use Rattle.array_rows.specs.Arrays.{AreRowsOf}
use Rattle.array_rows.specs.Boxes.{bounds_of, is_inside, within}
use Rattle.array_rows.specs.Rows.{IsRising, put_all, put_by, put_row}
use Rattle.array_rows.proofs.RowSets.{IsRising-put_all, rows_where-put_all}
use Rattle.array_geom.specs.declared.chunk.Chunk.{Chunk}
use Rattle.array_geom.specs.Chunks.{IsChunk}
use Rattle.array_geom.specs.Geometry.{ChunkNumber, HasFrame, coordinate_in, core, frame, frame_low, frame_lengths, overlaps, volume}
use Rattle.array_geom.specs.Inner.Ranges.{AreNear}
use Rattle.array_geom.specs.Link.{IsPart, NumbersRise, chunk_rows, core_rows, number_order, numbers, rows_in}
use Rattle.array_geom.proofs.CoreLaws.{core_in_frame, core_of}
use Rattle.array_geom.proofs.LawProofs.{coordinate_at_place}
use Rattle.array_geom.proofs.NearLemmas.{valid_placed}
use Rattle.array_parts.proofs.PlaceRows.{all_valid}
use Rattle.area_cells.specs.Margins.{no_margins}
use Rattle.area_cells.proofs.FrameLaws.{frame_in_core}
use Rattle.chunk_rle.specs.Chunks.{spelling}
use Rattle.chunk_rle.specs.Stored.{IsStored}
use Rattle.chunk_rle.proofs.StoredLaws.{taken_spelled}
use Rattle.backup_format.specs.Pieces.{Piece, stored_chunk, stored_payload}
use Rattle.backup_format.specs.Table.{chunk_of_piece, fit_together, is_its_payload, rows_of}
use Rattle.backup_format.proofs.CoreChunks.{core_long, part_stored}
use Rattle.backup_format.proofs.RisingNumbers.{same_itself}
use Rattle.backup_meaning.proofs.Cores.{cores_rows}
use Rattle.file_checking.specs.Checking.{AreOfBytes, IsRead}
use Rattle.file_checking.specs.Inner.Steps.{has_overlaps}
use Rattle.backup_meaning.proofs.PieceRows.{own_numbers}
use Rattle.file_checking.proofs.Checked.{chunk_numbers, chunks_stored, its_chunk}

-- ---- frames without an overlap

none_or : (a b : Bool) → (a || b) ≡ false → (a ≡ false) × (b ≡ false)
none_or true b is = absurd cc
none_or false b is = (refl, is)

zero_of : (n : ℕ) → nat_lt 0 n ≡ false → n ≡ 0
zero_of n is = grind (arith, is)

pub no_overlaps : (dims : List Dimension) → has_overlaps dims ≡ false → overlaps dims ≡ no_margins dims
no_overlaps [] none = refl
no_overlaps (d ∷ dims) none =
    let both = none_or (nat_lt 0 d.overlap) (has_overlaps dims) none in
    ap (λ (n : ℕ). n ∷ overlaps dims) (zero_of d.overlap both.0) ∙ ap (λ (ns : List ℕ). 0 ∷ ns) (no_overlaps dims both.1)

-- ---- rows of boxes

within_all : (area : Bounds) (rows : List Row) → AllByRecursion (λ (row : Row). is_inside area row.at.items ≡ true) rows → within area rows ≡ rows
within_all area [] all = refl
within_all area (row ∷ rows) all =
    ap (λ (b : Bool). cond b (row ∷ within area rows) (within area rows)) all.0 ∙ ap (λ (rs : List Row). row ∷ rs) (within_all area rows all.1)

within_same : (area other : Bounds) (rows : List Row) → AllByRecursion (λ (row : Row). is_inside area row.at.items ≡ is_inside other row.at.items) rows → within area rows ≡ within other rows
within_same area other [] all = refl
within_same area other (row ∷ rows) all =
    ap (λ (b : Bool). cond b (row ∷ within area rows) (within area rows)) all.0
    ∙ ap (λ (rs : List Row). cond (is_inside other row.at.items) (row ∷ rs) rs) (within_same area other rows all.1)

both_or_none : (a b : Bool) → (a ≡ true → b ≡ true) → (b ≡ true → a ≡ true) → a ≡ b
both_or_none true b to from = sym (to refl)
both_or_none false true to from = from refl
both_or_none false false to from = refl

-- no row lies in the cores of two chunks
apart : (dims : List Dimension) (j k : ChunkNumber) → AreNear dims → length j ≡ length dims → length k ≡ length dims → (j ≡ k → ⊥) → (rows : List Row) → within (core dims k) (within (core dims j) rows) ≡ []
apart dims j k near long long' differ [] = refl
apart dims j k near long long' differ (row ∷ rows) = by_tests (is_inside (core dims j) row.at.items) (is_inside (core dims k) row.at.items) refl refl (apart dims j k near long long' differ rows)
  where
    part : List Row
    part = within (core dims j) rows

    by_tests : (t u : Bool) → is_inside (core dims j) row.at.items ≡ t → is_inside (core dims k) row.at.items ≡ u → within (core dims k) part ≡ [] → within (core dims k) (cond t (row ∷ part) part) ≡ []
    by_tests false u e f later = later
    by_tests true false e f later = ap (λ (b : Bool). cond b (row ∷ within (core dims k) part) (within (core dims k) part)) f ∙ later
    by_tests true true e f later = absurd (differ (core_of dims j row.at.items near long e ∙ sym (core_of dims k row.at.items near long' f)))

put_before : (row : Row) (rows : List Row) → IsRising (row ∷ rows) → put_row row rows ≡ row ∷ rows
put_before row [] rise = refl
put_before row (next ∷ rows) rise = ap (λ (o : Ordering). put_by o row next rows (put_row row rows)) rise.0.0

put_nothing : (rows : List Row) → IsRising rows → put_all rows [] ≡ rows
put_nothing [] rise = refl
put_nothing (row ∷ rows) rise = ap (put_row row) (put_nothing rows rise.1) ∙ put_before row rows rise

-- ---- cores

all_rise : (dims : List Dimension) (margins : List ℕ) (chunks : List Chunk) → IsRising (core_rows dims margins chunks)
all_rise dims margins [] = tt
all_rise dims margins (chunk ∷ chunks) = IsRising-put_all (within (core dims chunk.at.items) (chunk_rows dims margins chunk)) (core_rows dims margins chunks) (all_rise dims margins chunks)

-- the core of a chunk among the cores of chunks
abbrev core_among : Schema → List Chunk → Chunk → List Row
core_among schema chunks chunk = within (core schema.dimensions chunk.at.items) (core_rows schema.dimensions (overlaps schema.dimensions) chunks)

abbrev own_rows : Schema → Chunk → List Row
own_rows schema chunk = chunk_rows schema.dimensions (overlaps schema.dimensions) chunk

abbrev own_core : Schema → Chunk → List Row
own_core schema chunk = within (core schema.dimensions chunk.at.items) (own_rows schema chunk)

differs : (j k : ChunkNumber) → number_order j k ≡ Less → j ≡ k → ⊥
differs j k less same = never (ap is_eq (sym less) ∙ ap (λ (m : ChunkNumber). is_eq (number_order j m)) (sym same) ∙ same_itself j)
  where
    never : false ≡ true → ⊥
    never e = cc

long_of : (schema : Schema) (chunk : Chunk) → IsStored schema chunk → length chunk.at.items ≡ length schema.dimensions
long_of schema chunk stored = core_long schema.dimensions chunk.at.items stored.valid.framed.core

near_of : (schema : Schema) (chunk : Chunk) → IsStored schema chunk → AreNear schema.dimensions
near_of schema chunk stored = (valid_placed schema stored.valid.framed.valid).near

one_more : (schema : Schema) (k : ChunkNumber) (chunk : Chunk) (chunks : List Chunk)
    → within (core schema.dimensions k) (core_rows schema.dimensions (overlaps schema.dimensions) (chunk ∷ chunks))
    ≡ put_all (within (core schema.dimensions k) (own_core schema chunk)) (within (core schema.dimensions k) (core_rows schema.dimensions (overlaps schema.dimensions) chunks))
one_more schema k chunk chunks =
    rows_where-put_all (is_inside (core schema.dimensions k)) (own_core schema chunk) (core_rows schema.dimensions (overlaps schema.dimensions) chunks) (all_rise schema.dimensions (overlaps schema.dimensions) chunks)

-- later chunks have nothing in the core of one before them
none_later : (schema : Schema) (chunk : Chunk) (chunks : List Chunk) → IsStored schema chunk → AllByRecursion (IsStored schema) chunks → AllByRecursion (λ (later : ChunkNumber). number_order chunk.at.items later ≡ Less) (numbers chunks)
    → core_among schema chunks chunk ≡ []
none_later schema chunk [] stored all less = refl
none_later schema chunk (c ∷ chunks) stored all less =
    one_more schema chunk.at.items c chunks
    ∙ ap (λ (rows : List Row). put_all rows (core_among schema chunks chunk))
    (apart schema.dimensions c.at.items chunk.at.items (near_of schema chunk stored) (long_of schema c all.0) (long_of schema chunk stored) (λ same. differs chunk.at.items c.at.items less.0 (sym same)) (own_rows schema c))
    ∙ none_later schema chunk chunks stored all.1 less.1

abbrev HasOwn : Schema → List Chunk → Chunk → Type 0
HasOwn schema chunks chunk = core_among schema chunks chunk ≡ own_core schema chunk

own_twice : (schema : Schema) (chunk : Chunk) → AllByRecursion (λ (row : Row). is_inside (core schema.dimensions chunk.at.items) row.at.items ≡ true) (own_rows schema chunk) → within (core schema.dimensions chunk.at.items) (own_core schema chunk) ≡ own_rows schema chunk
own_twice schema chunk inside =
    ap (within (core schema.dimensions chunk.at.items)) (within_all (core schema.dimensions chunk.at.items) (own_rows schema chunk) inside) ∙ within_all (core schema.dimensions chunk.at.items) (own_rows schema chunk) inside

abbrev LiesInCore : Schema → Chunk → Type 0
LiesInCore schema chunk = AllByRecursion (λ (row : Row). is_inside (core schema.dimensions chunk.at.items) row.at.items ≡ true) (own_rows schema chunk)

abbrev HasAll : Schema → List Chunk → Chunk → Type 0
HasAll schema chunks chunk = core_among schema chunks chunk ≡ own_rows schema chunk

later_have : (schema : Schema) (first : Chunk) (among chunks : List Chunk) → IsStored schema first → AllByRecursion (IsStored schema) chunks → AllByRecursion (λ (later : ChunkNumber). number_order first.at.items later ≡ Less) (numbers chunks)
    → AllByRecursion (HasAll schema among) chunks → AllByRecursion (HasAll schema (first ∷ among)) chunks
later_have schema first among [] stored all less have = tt
later_have schema first among (c ∷ chunks) stored all less have = (
  one_more schema c.at.items first among
      ∙ ap (λ (rows : List Row). put_all rows (core_among schema among c))
      (apart schema.dimensions first.at.items c.at.items (near_of schema first stored) (long_of schema first stored) (long_of schema c all.0) (differs first.at.items c.at.items less.0) (own_rows schema first))
      ∙ have.0,
  later_have schema first among chunks stored all.1 less.1 have.1,
)

each_has : (schema : Schema) (chunks : List Chunk) → AllByRecursion (IsStored schema) chunks → NumbersRise (numbers chunks) → AllByRecursion (LiesInCore schema) chunks → AllByRecursion (λ (chunk : Chunk). AreRowsOf schema (own_rows schema chunk)) chunks
    → AllByRecursion (HasAll schema chunks) chunks
each_has schema [] all rise inside rows = tt
each_has schema (c ∷ chunks) all rise inside rows = (
  one_more schema c.at.items c chunks
      ∙ ap (put_all (within (core schema.dimensions c.at.items) (own_core schema c))) (none_later schema c chunks all.0 all.1 rise.0)
      ∙ ap (λ (rs : List Row). put_all rs []) (own_twice schema c inside.0)
      ∙ put_nothing (own_rows schema c) rows.0.are_rows.rising,
  later_have schema c chunks chunks all.0 all.1 rise.0 (each_has schema chunks all.1 rise.1 inside.1 rows.1),
)

-- ---- a chunk without an overlap lies in its core

place_in_core : (schema : Schema) (chunk : Chunk) (p : ℕ) → overlaps schema.dimensions ≡ no_margins schema.dimensions → HasFrame schema (overlaps schema.dimensions) chunk.at.items → p < volume (frame_lengths schema.dimensions (overlaps schema.dimensions))
    → is_inside (bounds_of schema.dimensions) (coordinate_in (frame_low schema.dimensions (overlaps schema.dimensions) chunk.at.items) (frame_lengths schema.dimensions (overlaps schema.dimensions)) p) ≡ true
    → is_inside (core schema.dimensions chunk.at.items) (coordinate_in (frame_low schema.dimensions (overlaps schema.dimensions) chunk.at.items) (frame_lengths schema.dimensions (overlaps schema.dimensions)) p) ≡ true
place_in_core schema chunk p none framed low bounds =
    let dims = schema.dimensions in
    let c = coordinate_in (frame_low dims (overlaps dims) chunk.at.items) (frame_lengths dims (overlaps dims)) p in
    let inside : is_inside (frame dims (overlaps dims) chunk.at.items) c ≡ true = (coordinate_at_place schema (overlaps dims) chunk.at.items p framed low).0 in
    frame_in_core dims chunk.at.items c bounds (subst (λ (ms : List ℕ). is_inside (frame dims ms chunk.at.items) c ≡ true) none inside)

rows_in_core : (schema : Schema) (chunk : Chunk) (positions : List ℕ) (cells : List Cell) → overlaps schema.dimensions ≡ no_margins schema.dimensions → HasFrame schema (overlaps schema.dimensions) chunk.at.items
    → AllByRecursion (λ (p : ℕ). p < volume (frame_lengths schema.dimensions (overlaps schema.dimensions))) positions
    → AllByRecursion (λ (p : ℕ). is_inside (bounds_of schema.dimensions) (coordinate_in (frame_low schema.dimensions (overlaps schema.dimensions) chunk.at.items) (frame_lengths schema.dimensions (overlaps schema.dimensions)) p) ≡ true) positions
    → AllByRecursion (λ (row : Row). is_inside (core schema.dimensions chunk.at.items) row.at.items ≡ true) (rows_in (frame_low schema.dimensions (overlaps schema.dimensions) chunk.at.items) (frame_lengths schema.dimensions (overlaps schema.dimensions)) positions cells)
rows_in_core schema chunk [] cells none framed low bounds = tt
rows_in_core schema chunk (p ∷ positions) [] none framed low bounds = tt
rows_in_core schema chunk (p ∷ positions) (cell ∷ cells) none framed low bounds = (place_in_core schema chunk p none framed low.0 bounds.0, rows_in_core schema chunk positions cells none framed low.1 bounds.1)

all_in_core : (schema : Schema) (chunks : List Chunk) → overlaps schema.dimensions ≡ no_margins schema.dimensions → AllByRecursion (IsStored schema) chunks → AllByRecursion (LiesInCore schema) chunks
all_in_core schema [] none all = tt
all_in_core schema (c ∷ chunks) none all = (rows_in_core schema c c.positions c.cells none all.0.valid.framed all.0.valid.in_frame all.0.valid.in_bounds, all_in_core schema chunks none all.1)

-- ---- each is its part of the rows

core_or_frame : (schema : Schema) (k : ChunkNumber) (rows : List Row) → overlaps schema.dimensions ≡ no_margins schema.dimensions → length (overlaps schema.dimensions) ≡ length schema.dimensions
    → AllByRecursion (λ (row : Row). is_inside (bounds_of schema.dimensions) row.at.items ≡ true) rows
    → AllByRecursion (λ (row : Row). is_inside (frame schema.dimensions (overlaps schema.dimensions) k) row.at.items ≡ is_inside (core schema.dimensions k) row.at.items) rows
core_or_frame schema k [] none each bounds = tt
core_or_frame schema k (row ∷ rows) none each bounds =
    let dims = schema.dimensions in
    let to : is_inside (frame dims (overlaps dims) k) row.at.items ≡ true → is_inside (core dims k) row.at.items ≡ true
    = λ inside. frame_in_core dims k row.at.items bounds.0 (subst (λ (ms : List ℕ). is_inside (frame dims ms k) row.at.items ≡ true) none inside) in
    (both_or_none (is_inside (frame dims (overlaps dims) k) row.at.items) (is_inside (core dims k) row.at.items) to (core_in_frame dims (overlaps dims) k row.at.items each), core_or_frame schema k rows none each bounds.1)

is_part : (schema : Schema) (rows : List Row) (chunk : Chunk) → overlaps schema.dimensions ≡ no_margins schema.dimensions → AreRowsOf schema rows → IsStored schema chunk → within (core schema.dimensions chunk.at.items) rows ≡ own_rows schema chunk
    → IsPart schema.dimensions (overlaps schema.dimensions) rows chunk
is_part schema rows chunk none are stored own = record {
  each = stored.valid.each;
  in_frame = stored.valid.in_frame;
  cells = sym (within_same (frame schema.dimensions (overlaps schema.dimensions) chunk.at.items) (core schema.dimensions chunk.at.items) rows
      (core_or_frame schema chunk.at.items rows none stored.valid.framed.each are.are_rows.in_bounds) ∙ own);
}

-- ---- pieces

its_own : (schema : Schema) (rows : List Row) (piece : Piece) → IsValid schema → overlaps schema.dimensions ≡ no_margins schema.dimensions → AreRowsOf schema rows → IsRead schema piece → AreOfBytes (piece ∷ [])
    → within (core schema.dimensions (chunk_of_piece schema piece).at.items) rows ≡ own_rows schema (chunk_of_piece schema piece) → is_its_payload schema rows piece ≡ true
its_own schema rows piece valid none are read small own =
    let chunk = chunk_of_piece schema piece in
    let its = its_chunk schema piece valid small.0 read in
    let is : chunk ≡ stored_chunk schema rows chunk.at.items = part_stored schema rows chunk its.stored.valid.framed (is_part schema rows chunk none are its.stored own) in
    let spelled : piece.payload ≡ spelling schema.attributes chunk = taken_spelled schema (record { items = piece.at }) piece.payload chunk small.0 its.read in
    let same : piece.payload ≡ stored_payload schema rows piece.at = spelled ∙ ap (spelling schema.attributes) is ∙ ap (λ (k : ChunkNumber). stored_payload schema rows k) its.number in
    (bytes_eq-Decides piece.payload (stored_payload schema rows piece.at)).1 same

each_own : (schema : Schema) (rows : List Row) (pieces : List Piece) → IsValid schema → overlaps schema.dimensions ≡ no_margins schema.dimensions → AreRowsOf schema rows → AllByRecursion (IsRead schema) pieces → AreOfBytes pieces
    → AllByRecursion (λ (chunk : Chunk). within (core schema.dimensions chunk.at.items) rows ≡ own_rows schema chunk) (map (chunk_of_piece schema) pieces) → list_all (is_its_payload schema rows) pieces ≡ true
each_own schema rows [] valid none are read small own = refl
each_own schema rows (p ∷ pieces) valid none are read small own =
    and_from (is_its_payload schema rows p) (list_all (is_its_payload schema rows) pieces) (its_own schema rows p valid none are read.0 (small.0, tt) own.0) (each_own schema rows pieces valid none are read.1 small.1 own.1)

-- pieces without overlaps fit together
pub alone_fit : (schema : Schema) (pieces : List Piece) → IsValid schema → has_overlaps schema.dimensions ≡ false → NumbersRise (own_numbers pieces) → AreOfBytes pieces → AllByRecursion (IsRead schema) pieces → fit_together schema pieces ≡ true
unfolding rows_of
alone_fit schema pieces valid without rise small read =
    let none = no_overlaps schema.dimensions without in
    let chunks = map (chunk_of_piece schema) pieces in
    let stored : AllByRecursion (IsStored schema) chunks = chunks_stored schema pieces valid small read in
    let rising : NumbersRise (numbers chunks) = subst NumbersRise (sym (chunk_numbers schema pieces valid small read)) rise in
    let rows : AllByRecursion (λ (chunk : Chunk). AreRowsOf schema (own_rows schema chunk)) chunks = all_valid schema (overlaps schema.dimensions) chunks (valid_chunks schema chunks stored) in
    each_own schema (core_rows schema.dimensions (overlaps schema.dimensions) chunks) pieces valid none (cores_rows schema chunks valid rising stored) read small (each_has schema chunks stored rising (all_in_core schema chunks none stored) rows)
  where
    valid_chunks : (schema : Schema) (chunks : List Chunk) → AllByRecursion (IsStored schema) chunks → AllByRecursion (IsChunk schema (overlaps schema.dimensions)) chunks
    valid_chunks schema [] all = tt
    valid_chunks schema (c ∷ chunks) all = (all.0.valid, valid_chunks schema chunks all.1)
