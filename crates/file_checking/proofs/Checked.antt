-- Versions whose payloads pass hold the rows of their cores, and the other way round.
use Rattle.std.proofs.Common.{◌≡◌, ◌∙◌, ℕ, true, List, [], ◌∷◌, map, length, Ok, refl, sym, ap, subst}
use Rattle.std.specs.List.{AllByRecursion, list_all}
use Rattle.std.specs.Str.{bytes_eq}
use Rattle.std.proofs.lemmas.Bool.{and_parts}
use Rattle.std.proofs.lemmas.Slice.Eq.{bytes_eq-Decides}
use Rattle.arrayvec.specs.ArrayVec.{ArrayVec}
use Rattle.cell_values.specs.declared.datum.Row.{Row}
use Rattle.cell_values.specs.declared.schema.Schema.{Schema}
use Rattle.cell_values.specs.Schemas.{IsValid}
use Rattle.array_rows.specs.Arrays.{AreRowsOf}
use Rattle.array_geom.specs.declared.chunk.Chunk.{Chunk}
use Rattle.array_geom.specs.Geometry.{ChunkNumber}
use Rattle.array_geom.specs.Link.{is_listed, has_cell, NumbersRise}
use Rattle.logical_plan.specs.Typing.{AreSound}
use Rattle.page_chain.specs.Pages.{page_size, blob}
use Rattle.chunk_map.specs.declared.directory.DirEntry.{DirEntry}
use Rattle.chunk_map.specs.Entries.{numbers}
use Rattle.chunk_rle.specs.Stored.{IsStored}
use Rattle.chunk_rle.proofs.StoredLaws.{taken, taken_number, taken_spelled}
use Rattle.backup_format.specs.Laws.{AreBytes}
use Rattle.backup_format.specs.Pieces.{Piece, rising_numbers, stored_chunk, stored_payload, piece_of}
use Rattle.backup_format.specs.Table.{chunk_in, chunk_or_none, chunk_of_piece, is_its_payload, fit_together, rows_of}
use Rattle.backup_format.proofs.RisingNumbers.{AreSized, the_only}
use Rattle.backup_meaning.proofs.PieceRows.{AreOfRows, are_of_rows, own_numbers}
use Rattle.backup_format.proofs.CoreChunks.{core_long}
use Rattle.backup_meaning.proofs.Fitting.{IsNumberOf, numbers_are, read_all, versions_fit}
use Rattle.file_meaning.specs.Standing.{HoldsPart}
use Rattle.file_checking.specs.Checking.{piece_in, pieces_in, IsRead, AreOfBytes, CheckedVersionsHold, HeldVersionsCheck}
use Rattle.array_geom.specs.Link as link

-- ---- what passes

pub record IsItsChunk (schema : Schema) (piece : Piece) : Type 0 where
  pub read : chunk_in schema piece.at piece.payload ≡ Ok (chunk_of_piece schema piece)
  pub stored : IsStored schema (chunk_of_piece schema piece)
  pub number : (chunk_of_piece schema piece).at.items ≡ piece.at

pub its_chunk : (schema : Schema) (piece : Piece) → IsValid schema → AreBytes piece.payload → IsRead schema piece → IsItsChunk schema piece
its_chunk schema piece valid small r =
    let is : chunk_of_piece schema piece ≡ r.chunk = ap (chunk_or_none piece.at) r.read in
    record {
      read = r.read ∙ ap Ok (sym is);
      stored = subst (IsStored schema) (sym is) (taken schema (record { items = piece.at }) piece.payload r.chunk valid r.core small r.read);
      number = ap (λ (c : Chunk). c.at.items) is ∙ ap (λ (at : ArrayVec ℕ). at.items) (taken_number schema (record { items = piece.at }) piece.payload r.chunk small r.read);
    }

pub chunks_stored : (schema : Schema) (pieces : List Piece) → IsValid schema → AreOfBytes pieces → AllByRecursion (IsRead schema) pieces → AllByRecursion (IsStored schema) (map (chunk_of_piece schema) pieces)
chunks_stored schema [] valid small read = tt
chunks_stored schema (p ∷ pieces) valid small read = ((its_chunk schema p valid small.0 read.0).stored, chunks_stored schema pieces valid small.1 read.1)

pub chunk_numbers : (schema : Schema) (pieces : List Piece) → IsValid schema → AreOfBytes pieces → AllByRecursion (IsRead schema) pieces → link.numbers (map (chunk_of_piece schema) pieces) ≡ own_numbers pieces
chunk_numbers schema [] valid small read = refl
chunk_numbers schema (p ∷ pieces) valid small read =
    ap (λ (k : ChunkNumber). k ∷ link.numbers (map (chunk_of_piece schema) pieces)) (its_chunk schema p valid small.0 read.0).number
    ∙ ap (λ (ks : List ChunkNumber). p.at ∷ ks) (chunk_numbers schema pieces valid small.1 read.1)

pub entry_numbers : (file : List ℕ) (entries : List DirEntry) → own_numbers (map (piece_in file) entries) ≡ numbers entries
entry_numbers file [] = refl
entry_numbers file (e ∷ entries) = ap (λ (ks : List ChunkNumber). e.at.items ∷ ks) (entry_numbers file entries)

long_numbers : (schema : Schema) (pieces : List Piece) → AllByRecursion (IsRead schema) pieces → AreSized (length schema.dimensions) (own_numbers pieces)
long_numbers schema [] read = tt
long_numbers schema (p ∷ pieces) read = (core_long schema.dimensions p.at read.0.core, long_numbers schema pieces read.1)

-- the payload of a number of rows is read as the chunk that is stored
parts_held : (file : List ℕ) (schema : Schema) (rows : List Row) (entries : List DirEntry) → AreRowsOf schema rows → AreSound schema rows → AllByRecursion (IsNumberOf schema.dimensions rows) (numbers entries)
    → list_all (is_its_payload schema rows) (map (piece_in file) entries) ≡ true → AllByRecursion (HoldsPart file schema rows) entries
parts_held file schema rows [] are sound their fit = tt
parts_held file schema rows (e ∷ entries) are sound their fit =
    let k = e.at.items in
    let payload = blob page_size file e.pages e.length in
    let both = and_parts (bytes_eq payload (stored_payload schema rows k)) (list_all (is_its_payload schema rows) (map (piece_in file) entries)) fit in
    let same : payload ≡ stored_payload schema rows k = (bytes_eq-Decides payload (stored_payload schema rows k)).0 both.0 in
    let read : chunk_in schema k (stored_payload schema rows k) ≡ Ok (stored_chunk schema rows k) = (read_all schema rows are sound (k ∷ []) (their.0, tt)).0 in
    (ap (chunk_in schema k) same ∙ read, parts_held file schema rows entries are sound their.1 both.1)

pub checked_versions_hold : CheckedVersionsHold
checked_versions_hold file schema directory valid rise small passes =
    let dims = schema.dimensions in
    let pieces : List Piece = pieces_in file directory in
    let ks : List ChunkNumber = numbers directory.entries in
    let rows : List Row = rows_of schema pieces in
    let own : own_numbers pieces ≡ ks = entry_numbers file directory.entries in
    let its : AreOfRows schema ks rows =
    are_of_rows schema pieces ks valid (chunks_stored schema pieces valid small passes.read) (chunk_numbers schema pieces valid small passes.read ∙ own) rise
    (subst (AreSized (length dims)) own (long_numbers schema pieces passes.read)) in
    let each : AllByRecursion (IsNumberOf dims rows) ks = subst (AllByRecursion (IsNumberOf dims rows)) (sym its.only) (numbers_are schema rows its.are) in
    (rows, record { are = its.are; sound = its.sound; holds = record { listed = its.listed; payloads = parts_held file schema rows directory.entries its.are its.sound each passes.fit } })

-- ---- what holds rows

same_pieces : (file : List ℕ) (schema : Schema) (rows : List Row) (entries : List DirEntry) → AreOfBytes (map (piece_in file) entries) → AllByRecursion (HoldsPart file schema rows) entries → map (piece_in file) entries ≡ map (piece_of schema rows) (numbers entries)
same_pieces file schema rows [] small held = refl
same_pieces file schema rows (e ∷ entries) small held =
    let first : blob page_size file e.pages e.length ≡ stored_payload schema rows e.at.items = taken_spelled schema e.at (blob page_size file e.pages e.length) (stored_chunk schema rows e.at.items) small.0 held.0 in
    ap (λ (payload : List ℕ). record { at = e.at.items; payload = payload } ∷ map (piece_in file) entries) first
    ∙ ap (λ (ps : List Piece). piece_of schema rows e.at.items ∷ ps) (same_pieces file schema rows entries small.1 held.1)

sized_entries : (n : ℕ) (entries : List DirEntry) → AllByRecursion (λ (e : DirEntry). length e.at.items ≡ n) entries → AreSized n (numbers entries)
sized_entries n [] all = tt
sized_entries n (e ∷ entries) all = (all.0, sized_entries n entries all.1)

each_read : (file : List ℕ) (schema : Schema) (rows : List Row) (entries : List DirEntry) → AllByRecursion (IsNumberOf schema.dimensions rows) (numbers entries) → AllByRecursion (HoldsPart file schema rows) entries → AllByRecursion (IsRead schema) (map (piece_in file) entries)
each_read file schema rows [] their held = tt
each_read file schema rows (e ∷ entries) their held =
    (record { core = their.0.core; chunk = stored_chunk schema rows e.at.items; read = held.0 }, each_read file schema rows entries their.1 held.1)

pub held_versions_check : HeldVersionsCheck
held_versions_check file schema directory rows rise small long held =
    let dims = schema.dimensions in
    let ks : List ChunkNumber = numbers directory.entries in
    let only : ks ≡ rising_numbers dims rows = the_only schema rows ks held.are rise (sized_entries (length dims) directory.entries long) held.holds.listed in
    let each : AllByRecursion (IsNumberOf dims rows) ks = subst (AllByRecursion (IsNumberOf dims rows)) (sym only) (numbers_are schema rows held.are) in
    let pieces : pieces_in file directory ≡ map (piece_of schema rows) (rising_numbers dims rows) =
    same_pieces file schema rows directory.entries small held.holds.payloads ∙ ap (map (piece_of schema rows)) only in
    record {
      read = each_read file schema rows directory.entries each held.holds.payloads;
      fit = ap (fit_together schema) pieces ∙ (versions_fit schema (record { number = 1; rows = rows }) held.are held.sound).fit;
    }
