-- The pieces of rows are read, and fit together to these rows.
use Rattle.std.proofs.Common.{◌≡◌, ◌∙◌, ◌<◌, ◌^◌, ℕ, suc, Bool, true, false, List, [], ◌∷◌, map, length, Result, Ok, refl, sym, ap, subst, arith}
use Rattle.std.specs.Prelude.{◌||◌}
use Rattle.std.specs.List.{AllByRecursion, list_all}
use Rattle.std.specs.declared.cmp.Ordering.{Ordering}
use Rattle.std.specs.declared.cmp.Ordering.TheVariants.{Less, Equal, Greater}
use Rattle.std.specs.Str.{bytes_eq}
use Rattle.std.proofs.lemmas.Bool.{and_from}
use Rattle.std.proofs.lemmas.Slice.Eq.{bytes_eq-Decides}
use Rattle.cell_values.specs.declared.datum.Row.{Row}
use Rattle.cell_values.specs.declared.schema.Dimension.{Dimension}
use Rattle.cell_values.specs.declared.schema.Schema.{Schema}
use Rattle.cell_values.specs.Schemas.{IsValid}
use Rattle.array_rows.specs.Arrays.{AreRowsOf}
use Rattle.array_geom.specs.declared.chunk.Chunk.{Chunk}
use Rattle.array_geom.specs.Geometry.{ChunkNumber, chunk_of, frame_lengths, has_core, overlaps, volume}
use Rattle.array_geom.specs.Inner.Ranges.{AreNear}
use Rattle.array_geom.specs.Link.{number_order, numbers, core_rows, is_listed, has_cell, IsPart, NumbersRise, AreChunksOf}
use Rattle.array_geom.proofs.CoreLaws.{chunk_has_core}
use Rattle.array_geom.proofs.LinkLaws.{core_rows_all}
use Rattle.array_geom.proofs.NearLemmas.{valid_placed, stored_frame}
use Rattle.logical_plan.specs.Typing.{AreSound}
use Rattle.chunk_rle.specs.Frames.{frame_of}
use Rattle.chunk_rle.specs.Stored.{IsStored}
use Rattle.chunk_rle.proofs.ChunkLaws.{chunk_again}
use Rattle.chunk_rle.proofs.StoredLaws.{stored_to}
use Rattle.backup_format.specs.Pieces.{with_number_by, with_number, rising_numbers, stored_chunk, stored_payload, piece_of}
use Rattle.backup_format.specs.Table.{chunk_in, chunk_or_none, chunk_of_piece, is_its_payload, rows_of}
use Rattle.backup_format.proofs.RisingNumbers.{same, same_itself, AreSized, InBounds, numbers_rise, numbers_sized, numbers_listed}
use Rattle.backup_meaning.specs.Meaning.{AreReadAsStored, VersionsFit}
use Rattle.backup_meaning.proofs.StoredParts.{stored_part, is_stored_chunk}

-- ---- each number has a core, which holds a cell

all_with : (P : ChunkNumber → Type 0) (k : ChunkNumber) (ks : List ChunkNumber) → P k → AllByRecursion P ks → AllByRecursion P (with_number k ks)
all_with P k [] its all = (its, tt)
all_with P k (m ∷ ms) its all = by_order (number_order k m) (all_with P k ms its all.1)
  where
    by_order : (o : Ordering) → AllByRecursion P (with_number k ms) → AllByRecursion P (with_number_by o k m ms (with_number k ms))
    by_order Less later = (its, all)
    by_order Equal later = all
    by_order Greater later = (all.0, later)

abbrev HasCore : List Dimension → ChunkNumber → Type 0
HasCore dims k = has_core dims k ≡ true

numbers_core : (dims : List Dimension) (rows : List Row) → InBounds dims rows → AllByRecursion (HasCore dims) (rising_numbers dims rows)
numbers_core dims [] all = tt
numbers_core dims (row ∷ rows) all = all_with (HasCore dims) (chunk_of dims row.at.items) (rising_numbers dims rows) (chunk_has_core dims row.at.items all.0) (numbers_core dims rows all.1)

or_later : (a b : Bool) → b ≡ true → (a || b) ≡ true
or_later true b is = refl
or_later false b is = is

listed_more : (c : ChunkNumber) (cs ks : List ChunkNumber) → AllByRecursion (λ k. is_listed k cs ≡ true) ks → AllByRecursion (λ k. is_listed k (c ∷ cs) ≡ true) ks
listed_more c cs [] all = tt
listed_more c cs (k ∷ ks) all = (or_later (same c k) (is_listed k cs) all.0, listed_more c cs ks all.1)

all_listed : (ks : List ChunkNumber) → AllByRecursion (λ k. is_listed k ks ≡ true) ks
all_listed [] = tt
all_listed (k ∷ ks) = (ap (λ (b : Bool). b || is_listed k ks) (same_itself k), listed_more k ks ks (all_listed ks))

pub record IsNumberOf (dims : List Dimension) (rows : List Row) (k : ChunkNumber) : Type 0 where
  pub core : has_core dims k ≡ true
  pub long : length k ≡ length dims
  pub held : has_cell dims rows k ≡ true

each_number : (dims : List Dimension) (rows : List Row) → AreNear dims → InBounds dims rows → (ks : List ChunkNumber) → AllByRecursion (HasCore dims) ks → AreSized (length dims) ks → AllByRecursion (λ k. is_listed k (rising_numbers dims rows) ≡ true) ks
    → AllByRecursion (IsNumberOf dims rows) ks
each_number dims rows near bounds [] cores sized listed = tt
each_number dims rows near bounds (k ∷ ks) cores sized listed =
    (record { core = cores.0; long = sized.0; held = sym (numbers_listed dims k near sized.0 rows bounds) ∙ listed.0 }, each_number dims rows near bounds ks cores.1 sized.1 listed.1)

pub numbers_are : (schema : Schema) (rows : List Row) → AreRowsOf schema rows → AllByRecursion (IsNumberOf schema.dimensions rows) (rising_numbers schema.dimensions rows)
numbers_are schema rows are =
    let dims = schema.dimensions in
    let ks = rising_numbers dims rows in
    let bounds = are.are_rows.in_bounds in
    each_number dims rows (valid_placed schema are.valid).near bounds ks (numbers_core dims rows bounds) (numbers_sized dims rows bounds) (all_listed ks)

-- ---- each payload is read

read_stored : (schema : Schema) (rows : List Row) (k : ChunkNumber) → IsStored schema (stored_chunk schema rows k) → chunk_in schema k (stored_payload schema rows k) ≡ Ok (stored_chunk schema rows k)
read_stored schema rows k s =
    let p = s.valid.framed.places in
    let small : volume (frame_lengths schema.dimensions (overlaps schema.dimensions)) < 2 ^ 64 = omega arith in
    chunk_again (frame_of schema k) schema.attributes (stored_chunk schema rows k) small (stored_to schema (stored_chunk schema rows k) s)

pub read_all : (schema : Schema) (rows : List Row) → AreRowsOf schema rows → AreSound schema rows → (ks : List ChunkNumber) → AllByRecursion (IsNumberOf schema.dimensions rows) ks → AreReadAsStored schema rows ks
read_all schema rows are sound [] all = tt
read_all schema rows are sound (k ∷ ks) all = (read_stored schema rows k (is_stored_chunk schema rows k are sound all.0.core all.0.held), read_all schema rows are sound ks all.1)

-- ---- the rows of their cores

same_chunks : (schema : Schema) (rows : List Row) (ks : List ChunkNumber) → AreReadAsStored schema rows ks → map (chunk_of_piece schema) (map (piece_of schema rows) ks) ≡ map (stored_chunk schema rows) ks
same_chunks schema rows [] all = refl
same_chunks schema rows (k ∷ ks) all =
    ap (λ (read : Result Chunk ℕ). chunk_or_none k read ∷ map (chunk_of_piece schema) (map (piece_of schema rows) ks)) all.0
    ∙ ap (λ (chunks : List Chunk). stored_chunk schema rows k ∷ chunks) (same_chunks schema rows ks all.1)

their_numbers : (schema : Schema) (rows : List Row) (ks : List ChunkNumber) → numbers (map (stored_chunk schema rows) ks) ≡ ks
their_numbers schema rows [] = refl
their_numbers schema rows (k ∷ ks) = ap (λ (js : List ChunkNumber). k ∷ js) (their_numbers schema rows ks)

parts : (schema : Schema) (rows : List Row) (ks : List ChunkNumber) → IsValid schema → AllByRecursion (IsNumberOf schema.dimensions rows) ks → AllByRecursion (IsPart schema.dimensions (overlaps schema.dimensions) rows) (map (stored_chunk schema rows) ks)
parts schema rows [] valid all = tt
parts schema rows (k ∷ ks) valid all = (stored_part schema rows k (stored_frame schema k valid all.0.core), parts schema rows ks valid all.1)

each_overlap : (dims : List Dimension) → length (overlaps dims) ≡ length dims
each_overlap [] = refl
each_overlap (d ∷ dims) = ap suc (each_overlap dims)

abbrev numbers_of_rows : Schema → List Row → List ChunkNumber
numbers_of_rows schema rows = rising_numbers schema.dimensions rows

chunks_of : (schema : Schema) (rows : List Row) → AreRowsOf schema rows → AreChunksOf schema.dimensions (overlaps schema.dimensions) rows (map (stored_chunk schema rows) (numbers_of_rows schema rows))
chunks_of schema rows are =
    let dims = schema.dimensions in
    let ks : List ChunkNumber = rising_numbers dims rows in
    let bounds = are.are_rows.in_bounds in
    let back : ks ≡ numbers (map (stored_chunk schema rows) ks) = sym (their_numbers schema rows ks) in
    record {
      in_order = subst NumbersRise back (numbers_rise dims rows);
      sized = subst (AreSized (length dims)) back (numbers_sized dims rows bounds);
      listed = λ k len. ap (is_listed k) (sym back) ∙ numbers_listed dims k (valid_placed schema are.valid).near len rows bounds;
      parts = parts schema rows ks are.valid (numbers_are schema rows are);
    }

rows_again : (schema : Schema) (rows : List Row) → AreRowsOf schema rows → AreReadAsStored schema rows (numbers_of_rows schema rows) → rows_of schema (map (piece_of schema rows) (numbers_of_rows schema rows)) ≡ rows
unfolding rows_of
rows_again schema rows are read =
    let dims = schema.dimensions in
    ap (core_rows dims (overlaps dims)) (same_chunks schema rows (rising_numbers dims rows) read)
    ∙ core_rows_all dims (overlaps dims) rows (map (stored_chunk schema rows) (rising_numbers dims rows)) (valid_placed schema are.valid).near (each_overlap dims) are.are_rows (chunks_of schema rows are)

-- ---- no overlap is wrong

own_payloads : (schema : Schema) (rows : List Row) (ks : List ChunkNumber) → list_all (is_its_payload schema rows) (map (piece_of schema rows) ks) ≡ true
own_payloads schema rows [] = refl
own_payloads schema rows (k ∷ ks) =
    and_from (bytes_eq (stored_payload schema rows k) (stored_payload schema rows k)) (list_all (is_its_payload schema rows) (map (piece_of schema rows) ks))
    ((bytes_eq-Decides (stored_payload schema rows k) (stored_payload schema rows k)).1 refl) (own_payloads schema rows ks)

pub versions_fit : VersionsFit
versions_fit schema version are sound =
    let rows : List Row = version.rows in
    let ks : List ChunkNumber = rising_numbers schema.dimensions rows in
    let read : AreReadAsStored schema rows ks = read_all schema rows are sound ks (numbers_are schema rows are) in
    let again : rows_of schema (map (piece_of schema rows) ks) ≡ rows = rows_again schema rows are read in
    record {
      read = read;
      rows = again;
      fit = ap (λ (rs : List Row). list_all (is_its_payload schema rs) (map (piece_of schema rows) ks)) again ∙ own_payloads schema rows ks;
    }
