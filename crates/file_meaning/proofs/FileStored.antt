-- The chunk of sound rows is a stored one.
use Rattle.std.proofs.Common.{◌≡◌, ◌∙◌, true, List, [], ◌∷◌, map, refl, ap}
use Rattle.std.specs.List.{AllByRecursion, AllZip}
use Rattle.std.proofs.lemmas.Bool.{and_from}
use Rattle.cell_values.specs.declared.datum.Cell.{Cell}
use Rattle.cell_values.specs.declared.datum.Cell.TheVariants.{Full, Doubt}
use Rattle.cell_values.specs.declared.datum.Datum.{Datum}
use Rattle.cell_values.specs.declared.datum.Datum.TheVariants.{Null, Missing, Int, Text, Truth, Bad}
use Rattle.cell_values.specs.declared.datum.Row.{Row}
use Rattle.cell_values.specs.declared.schema.Attribute.{Attribute}
use Rattle.cell_values.specs.declared.schema.Schema.{Schema}
use Rattle.cell_values.specs.Cells.{IsCellOf, AreOfKinds}
use Rattle.chunk_source.specs.Arrays.{AreRowsOf}
use Rattle.chunk_source.specs.Boxes.{is_inside, within}
use Rattle.chunk_source.specs.Rows.{put_all}
use Rattle.chunk_source.proofs.RowSets.{rows_where-put_all}
use Rattle.chunk_source.specs.Geometry.{ChunkNumber, HasFrame, frame, has_core, overlaps, position_of}
use Rattle.chunk_source.specs.Link.{has_cell}
use Rattle.chunk_source.proofs.NearLemmas.{stored_frame}
use Rattle.chunk_source.specs.Placed.{HasPlaces}
use Rattle.chunk_source.proofs.ValidLaws.{valid_chunk, its_cells}
use Rattle.chunk_rle.specs.Stored.{IsStored, IsStoredCell, is_stored}
use Rattle.chunk_source.specs.Typing.{AreSound, is_sound, may_stand, may_all_stand}
use Rattle.file_meaning.specs.Standing.{stored_chunk}
use Rattle.file_meaning.specs.FileLaws.{StoredChunksAreGiven, GivenChunksAreStored, ChunksBesideStay}
use Rattle.file_meaning.proofs.Parts.{both_true}
use Rattle.file_meaning.proofs.Payloads.{stored_part}

value_stored : (a : Attribute) (v : Datum) → may_stand a v ≡ true → is_stored a v ≡ true
value_stored a Null is = is
value_stored a (Missing code) is = is
value_stored a (Int n) is = refl
value_stored a (Text s) is = refl
value_stored a (Truth b) is = refl
value_stored a (Bad kind) is = absurd cc

values_stored : (attributes : List Attribute) (values : List Datum) → AreOfKinds attributes values → may_all_stand attributes values ≡ true → AllZip (λ a v. is_stored a v ≡ true) attributes values
values_stored [] [] kinds all = tt
values_stored [] (v ∷ values) kinds all = absurd kinds
values_stored (a ∷ attributes) [] kinds all = absurd kinds
values_stored (a ∷ attributes) (v ∷ values) kinds all =
    let e = both_true (may_stand a v) (may_all_stand attributes values) all in
    (value_stored a v e.0, values_stored attributes values kinds.1 e.1)

cell_stored : (attributes : List Attribute) (cell : Cell) → IsCellOf attributes cell → is_sound attributes cell ≡ true → IsStoredCell attributes cell
cell_stored attributes (Full values) kinds sound = values_stored attributes values kinds sound
cell_stored attributes (Doubt kind) kinds sound = absurd cc

cells_stored : (attributes : List Attribute) (rows : List Row) → AllByRecursion (λ row. IsCellOf attributes row.cell) rows → AllByRecursion (λ row. is_sound attributes row.cell ≡ true) rows → AllByRecursion (λ row. IsStoredCell attributes row.cell) rows
cells_stored attributes [] kinds sound = tt
cells_stored attributes (row ∷ rows) kinds sound = (cell_stored attributes row.cell kinds.0 sound.0, cells_stored attributes rows kinds.1 sound.1)

pub is_stored_chunk : (schema : Schema) (rows : List Row) (k : ChunkNumber) → AreRowsOf schema rows → AreSound schema rows → has_core schema.dimensions k ≡ true → has_cell schema.dimensions rows k ≡ true → IsStored schema (stored_chunk schema rows k)
is_stored_chunk schema rows k are sound core held =
    let framed : HasFrame schema (overlaps schema.dimensions) k = stored_frame schema k are.valid core in
    let chunk = stored_chunk schema rows k in
    let part = stored_part schema rows k framed in
    let places : HasPlaces schema (overlaps schema.dimensions) chunk = record { framed = framed; placed = record { each = part.each; in_frame = part.in_frame } } in
    record {
      valid = valid_chunk schema (overlaps schema.dimensions) rows chunk part are places held;
      cells = its_cells schema (overlaps schema.dimensions) rows chunk part (IsStoredCell schema.attributes) (cells_stored schema.attributes rows are.kinds sound);
    }

-- ---- what a source may give

value_given : (a : Attribute) (v : Datum) → is_stored a v ≡ true → may_stand a v ≡ true
value_given a Null is = is
value_given a (Missing code) is = is
value_given a (Int n) is = refl
value_given a (Text s) is = refl
value_given a (Truth b) is = refl
value_given a (Bad kind) is = absurd cc

values_given : (attributes : List Attribute) (values : List Datum) → AllZip (λ a v. is_stored a v ≡ true) attributes values → may_all_stand attributes values ≡ true
values_given [] [] all = refl
values_given [] (v ∷ values) all = absurd all
values_given (a ∷ attributes) [] all = absurd all
values_given (a ∷ attributes) (v ∷ values) all = and_from (may_stand a v) (may_all_stand attributes values) (value_given a v all.0) (values_given attributes values all.1)

cells_given : (attributes : List Attribute) (cells : List Cell) → AllByRecursion (IsStoredCell attributes) cells → AllByRecursion (λ cell. is_sound attributes cell ≡ true) cells
cells_given attributes [] all = tt
cells_given attributes (Full values ∷ cells) all = (values_given attributes values all.0, cells_given attributes cells all.1)
cells_given attributes (Doubt kind ∷ cells) all = absurd all.0

cells_kept : (attributes : List Attribute) (cells : List Cell) → AllByRecursion (IsCellOf attributes) cells → AllByRecursion (λ cell. is_sound attributes cell ≡ true) cells → AllByRecursion (IsStoredCell attributes) cells
cells_kept attributes [] kinds sound = tt
cells_kept attributes (cell ∷ cells) kinds sound = (cell_stored attributes cell kinds.0 sound.0, cells_kept attributes cells kinds.1 sound.1)

pub stored_are_given : StoredChunksAreGiven
stored_are_given schema chunk is = record { number = refl; valid = is.valid; sound = cells_given schema.attributes chunk.cells is.cells }

pub given_are_stored : GivenChunksAreStored
given_are_stored schema at chunk is = record { valid = is.valid; cells = cells_kept schema.attributes chunk.cells is.valid.cells is.sound }

-- ---- chunks that an insert does not reach

pub beside_stay : ChunksBesideStay
beside_stay schema input rows k rise none =
    let dims = schema.dimensions in
    let area = frame dims (overlaps dims) k in
    let part : within area (put_all input rows) ≡ within area rows
    = rows_where-put_all (is_inside area) input rows rise ∙ ap (λ (part : List Row). put_all part (within area rows)) none in
    ap (λ (part : List Row). record { at = record { items = k }; positions = map (λ (row : Row). position_of dims (overlaps dims) k row.at.items) part; cells = map (λ (row : Row). row.cell) part }) part
