-- Stored chunks are parts of their rows, and those of sound rows are valid.
use Rattle.std.proofs.Common.{◌≡◌, ◌∙◌, ◌<◌, ℕ, suc, Bool, true, false, cond, ◌&&◌, List, [], ◌∷◌, map, length, refl, ap}
use Rattle.std.specs.List.{AllByRecursion, AllZip}
use Rattle.cell_values.specs.declared.datum.Cell.{Cell}
use Rattle.cell_values.specs.declared.datum.Cell.TheVariants.{Full, Doubt}
use Rattle.cell_values.specs.declared.datum.Datum.{Datum}
use Rattle.cell_values.specs.declared.datum.Datum.TheVariants.{Null, Missing, Int, Text, Truth, Bad}
use Rattle.cell_values.specs.declared.datum.Row.{Row}
use Rattle.cell_values.specs.declared.schema.Attribute.{Attribute}
use Rattle.cell_values.specs.declared.schema.Bounds.{Bounds}
use Rattle.cell_values.specs.declared.schema.Schema.{Schema}
use Rattle.cell_values.specs.Cells.{IsCellOf, AreOfKinds}
use Rattle.chunk_source.specs.Arrays.{AreRowsOf}
use Rattle.chunk_source.specs.Boxes.{is_inside, within}
use Rattle.chunk_source.specs.Rows.{Coordinate, placed}
use Rattle.chunk_source.specs.Geometry.{ChunkNumber, HasFrame, frame, frame_low, frame_lengths, volume, has_core, overlaps, position_of}
use Rattle.chunk_source.specs.Link.{IsPart, has_cell, rows_in}
use Rattle.chunk_source.proofs.LawProofs.{place_of_coordinate}
use Rattle.chunk_source.proofs.NearLemmas.{stored_frame}
use Rattle.chunk_source.specs.Placed.{HasPlaces}
use Rattle.chunk_source.proofs.ValidLaws.{valid_chunk, its_cells}
use Rattle.chunk_rle.specs.Stored.{IsStored, IsStoredCell, is_stored}
use Rattle.chunk_source.specs.Typing.{AreSound, is_sound, may_stand, may_all_stand}
use Rattle.backup_format.specs.Pieces.{stored_chunk}

abbrev pub inside_all : Bounds → List Row → Type 0
inside_all area rows = AllByRecursion (λ row. is_inside area row.at.items ≡ true) rows

pub within_inside : (area : Bounds) (rows : List Row) → inside_all area (within area rows)
within_inside area [] = tt
within_inside area (row ∷ rows) = cases (is_inside area row.at.items) refl (within_inside area rows)
  where
    cases : (b : Bool) → is_inside area row.at.items ≡ b → inside_all area (within area rows) → inside_all area (cond b (row ∷ within area rows) (within area rows))
    cases true inside others = (inside, others)
    cases false inside others = others

record AreRead (schema : Schema) (margins : List ℕ) (k : ChunkNumber) (rows : List Row) : Type 0 where
  each : length (map (λ (row : Row). row.cell) rows) ≡ length (map (λ (row : Row). position_of schema.dimensions margins k row.at.items) rows)
  in_frame : AllByRecursion (λ p. p < volume (frame_lengths schema.dimensions margins)) (map (λ (row : Row). position_of schema.dimensions margins k row.at.items) rows)
  again : rows_in (frame_low schema.dimensions margins k) (frame_lengths schema.dimensions margins) (map (λ (row : Row). position_of schema.dimensions margins k row.at.items) rows) (map (λ (row : Row). row.cell) rows) ≡ rows

are_read : (schema : Schema) (margins : List ℕ) (k : ChunkNumber) → HasFrame schema margins k → (rows : List Row) → AllByRecursion (λ row. is_inside (frame schema.dimensions margins k) row.at.items ≡ true) rows → AreRead schema margins k rows
are_read schema margins k framed [] all = record { each = refl; in_frame = tt; again = refl }
are_read schema margins k framed (row ∷ rows) all =
    let first = place_of_coordinate schema margins k row.at.items framed all.0 in
    let later = are_read schema margins k framed rows all.1 in
    record {
      each = ap suc later.each;
      in_frame = (first.0, later.in_frame);
      again = ap (λ (c : Coordinate). placed c row.cell ∷ rows_in (frame_low schema.dimensions margins k) (frame_lengths schema.dimensions margins) (map (λ (r : Row). position_of schema.dimensions margins k r.at.items) rows) (map (λ (r : Row). r.cell) rows)) first.1
          ∙ ap (λ (rs : List Row). row ∷ rs) later.again;
    }

pub stored_part : (schema : Schema) (rows : List Row) (k : ChunkNumber) → HasFrame schema (overlaps schema.dimensions) k → IsPart schema.dimensions (overlaps schema.dimensions) rows (stored_chunk schema rows k)
stored_part schema rows k framed =
    let area = frame schema.dimensions (overlaps schema.dimensions) k in
    let r = are_read schema (overlaps schema.dimensions) k framed (within area rows) (within_inside area rows) in
    record { each = r.each; in_frame = r.in_frame; cells = r.again }

both_true : (x y : Bool) → (x && y) ≡ true → (x ≡ true) × (y ≡ true)
both_true true y e = (refl, e)
both_true false y e = absurd cc

value_stored : (a : Attribute) (v : Datum) → may_stand a v ≡ true → is_stored a v ≡ true
value_stored a Null is = is
value_stored a (Missing code) is = is
value_stored a (Int n) is = refl
value_stored a (Text s) is = refl
value_stored a (Truth b) is = refl
value_stored a (Bad kind) is = absurd cc

values_stored : (attributes : List Attribute) (values : List Datum) → AreOfKinds attributes values → may_all_stand attributes values ≡ true → AllZip (λ a v. is_stored a v ≡ true) attributes values
values_stored [] [] kinds all = tt
values_stored [] (v ∷ values) kinds all = absurd kinds
values_stored (a ∷ attributes) [] kinds all = absurd kinds
values_stored (a ∷ attributes) (v ∷ values) kinds all =
    let e = both_true (may_stand a v) (may_all_stand attributes values) all in
    (value_stored a v e.0, values_stored attributes values kinds.1 e.1)

cell_stored : (attributes : List Attribute) (cell : Cell) → IsCellOf attributes cell → is_sound attributes cell ≡ true → IsStoredCell attributes cell
cell_stored attributes (Full values) kinds sound = values_stored attributes values kinds sound
cell_stored attributes (Doubt kind) kinds sound = absurd cc

cells_stored : (attributes : List Attribute) (rows : List Row) → AllByRecursion (λ row. IsCellOf attributes row.cell) rows → AllByRecursion (λ row. is_sound attributes row.cell ≡ true) rows → AllByRecursion (λ row. IsStoredCell attributes row.cell) rows
cells_stored attributes [] kinds sound = tt
cells_stored attributes (row ∷ rows) kinds sound = (cell_stored attributes row.cell kinds.0 sound.0, cells_stored attributes rows kinds.1 sound.1)

pub is_stored_chunk : (schema : Schema) (rows : List Row) (k : ChunkNumber) → AreRowsOf schema rows → AreSound schema rows → has_core schema.dimensions k ≡ true → has_cell schema.dimensions rows k ≡ true → IsStored schema (stored_chunk schema rows k)
is_stored_chunk schema rows k are sound core held =
    let framed : HasFrame schema (overlaps schema.dimensions) k = stored_frame schema k are.valid core in
    let chunk = stored_chunk schema rows k in
    let part = stored_part schema rows k framed in
    let places : HasPlaces schema (overlaps schema.dimensions) chunk = record { framed = framed; placed = record { each = part.each; in_frame = part.in_frame } } in
    record {
      valid = valid_chunk schema (overlaps schema.dimensions) rows chunk part are places held;
      cells = its_cells schema (overlaps schema.dimensions) rows chunk part (IsStoredCell schema.attributes) (cells_stored schema.attributes rows are.kinds sound);
    }
