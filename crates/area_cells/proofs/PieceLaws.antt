-- Arrays that are made chunk by chunk, each chunk of the rows in its frame.
use Rattle.std.proofs.Common.{◌≡◌, ℕ, ◌+◌, ◌<◌, ◌≤◌, ◌++◌, Bool, true, false, cond, List, [], ◌∷◌, length, map, take, drop, Option, refl, sym, ap, ◌∙◌, subst}
use Rattle.std.specs.List.{AllByRecursion, AllZip}
use Rattle.arrayvec.specs.ArrayVec.{ArrayVec}
use Rattle.cell_values.specs.declared.datum.Cell.{Cell}
use Rattle.cell_values.specs.declared.datum.Row.{Row}
use Rattle.cell_values.specs.declared.schema.Bounds.{Bounds}
use Rattle.cell_values.specs.declared.schema.Dimension.{Dimension}
use Rattle.cell_values.specs.declared.schema.Schema.{Schema}
use Rattle.array_rows.specs.Boxes.{is_inside, within}
use Rattle.array_rows.specs.Cellwise.{cell_wise}
use Rattle.array_rows.specs.Rows.{Coordinate}
use Rattle.array_rows.specs.Arrays.{AreRowsOf}
use Rattle.array_rows.proofs.RowSets.{IsRising-rows_where}
use Rattle.array_rows.proofs.RowsLemmas.{within-cell_wise}
use Rattle.array_geom.specs.declared.chunk.Chunk.{Chunk}
use Rattle.array_geom.specs.Geometry.{ChunkNumber, HasFrame, core, frame}
use Rattle.array_geom.specs.Link.{IsPart, NumbersRise, chunk_rows, has_cell, is_listed, is_not_empty, numbers}
use Rattle.array_parts.specs.Made.{IsPlaced}
use Rattle.array_parts.specs.Parts.{AreParts}
use Rattle.array_parts.specs.Cores.{HaveCells}
use Rattle.array_parts.specs.Placed.{HasPlaces, HavePlaces}
use Rattle.chunk_cells.specs.Whole.{CoresRise}
use Rattle.area_cells.specs.Pieces.{IsPartAt}
use Rattle.area_cells.proofs.CutLaws.{all_drop, all_take, numbers_drop, numbers_take, rise_drop, rise_take}

pub all_within : (area : Bounds) (rows made : List Row) → made ≡ within area rows → AllByRecursion (λ row. is_inside area row.at.items ≡ true) made
all_within area rows made e = subst (AllByRecursion (λ row. is_inside area row.at.items ≡ true)) (sym e) (each rows)
  where
    each : (rows : List Row) → AllByRecursion (λ row. is_inside area row.at.items ≡ true) (within area rows)
    each [] = tt
    each (row ∷ rows) = cases (is_inside area row.at.items) refl (each rows)
      where
        cases : (t : Bool) → is_inside area row.at.items ≡ t → AllByRecursion (λ row. is_inside area row.at.items ≡ true) (within area rows) → AllByRecursion (λ row. is_inside area row.at.items ≡ true) (cond t (row ∷ within area rows) (within area rows))
        cases true e r = (e, r)
        cases false e r = r

pub is_part : (dims : List Dimension) (margins : List ℕ) (number : ArrayVec ℕ) (rows made : List Row) (area : Bounds) (chunk : Chunk) → area ≡ frame dims margins number.items → made ≡ within area rows → chunk.at ≡ number → IsPlaced dims margins chunk
    → chunk_rows dims margins chunk ≡ made → IsPart dims margins rows chunk
is_part dims margins number rows made area chunk e m n placed same = record {
  each = placed.each;
  in_frame = placed.in_frame;
  cells = same ∙ m ∙ ap (λ (b : Bounds). within b rows) (e ∙ ap (λ (at : ArrayVec ℕ). frame dims margins at.items) (sym n));
}

pub has_places : (schema : Schema) (margins : List ℕ) (number : ArrayVec ℕ) (chunk : Chunk) → HasFrame schema margins number.items → chunk.at ≡ number → IsPlaced schema.dimensions margins chunk → HasPlaces schema margins chunk
has_places schema margins number chunk framed n placed = record { framed = subst (λ (at : ArrayVec ℕ). HasFrame schema margins at.items) (sym n) framed; placed = placed }

some_before : (change : Coordinate → Cell → Option Cell) (rows : List Row) → is_not_empty (cell_wise change rows) ≡ true → is_not_empty rows ≡ true
some_before change [] e = e
some_before change (row ∷ rows) e = refl

-- parts of changed rows, one for each chunk whose core has a row
pub changed_parts : (dims : List Dimension) (margins : List ℕ) (change : Coordinate → Cell → Option Cell) (rows : List Row) (chunks parts : List Chunk) → numbers parts ≡ numbers chunks → NumbersRise (numbers chunks)
    → AllByRecursion (λ k. length k ≡ length dims) (numbers chunks) → ((k : ChunkNumber) → length k ≡ length dims → has_cell dims rows k ≡ true → is_listed k (numbers chunks) ≡ true)
    → AllByRecursion (IsPart dims margins (cell_wise change rows)) parts → AreParts dims margins (cell_wise change rows) parts
changed_parts dims margins change rows chunks parts e rise sized listed each = record {
  in_order = subst NumbersRise (sym e) rise;
  sized = subst (AllByRecursion (λ k. length k ≡ length dims)) (sym e) sized;
  enough = λ k l h. ap (is_listed k) e ∙ listed k l (some_before change (within (core dims k) rows) (sym (ap is_not_empty (within-cell_wise (core dims k) change rows)) ∙ h));
  parts = each;
}

-- ---- a part for each number

pub each_number : (P : ArrayVec ℕ → Type 0) (Q : Chunk → Type 0) → ((chunk : Chunk) → Q chunk → P chunk.at) → (chunks : List Chunk) → AllByRecursion Q chunks → AllByRecursion P (map (λ chunk. chunk.at) chunks)
each_number P Q f [] q = tt
each_number P Q f (chunk ∷ chunks) q = (f chunk q.0, each_number P Q f chunks q.1)

pub parts_numbers : (schema : Schema) (margins : List ℕ) (rows : List Row) (chunks parts : List Chunk) → AllZip (IsPartAt schema margins rows) (map (λ chunk. chunk.at) chunks) parts → numbers parts ≡ numbers chunks
parts_numbers schema margins rows [] [] h = refl
parts_numbers schema margins rows [] (part ∷ parts) h = absurd h
parts_numbers schema margins rows (chunk ∷ chunks) [] h = absurd h
parts_numbers schema margins rows (chunk ∷ chunks) (part ∷ parts) h =
    let rest = parts_numbers schema margins rows chunks parts h.1 in
    λ i. (h.0.number_is i).items ∷ rest i

pub parts_places : (schema : Schema) (margins : List ℕ) (rows : List Row) (at : List (ArrayVec ℕ)) (parts : List Chunk) → AllZip (IsPartAt schema margins rows) at parts → AllByRecursion (HasPlaces schema margins) parts
parts_places schema margins rows [] [] h = tt
parts_places schema margins rows [] (part ∷ parts) h = absurd h
parts_places schema margins rows (k ∷ at) [] h = absurd h
parts_places schema margins rows (k ∷ at) (part ∷ parts) h = (h.0.places, parts_places schema margins rows at parts h.1)

pub parts_each : (schema : Schema) (margins : List ℕ) (rows : List Row) (at : List (ArrayVec ℕ)) (parts : List Chunk) → AllZip (IsPartAt schema margins rows) at parts → AllByRecursion (IsPart schema.dimensions margins rows) parts
parts_each schema margins rows [] [] h = tt
parts_each schema margins rows [] (part ∷ parts) h = absurd h
parts_each schema margins rows (k ∷ at) [] h = absurd h
parts_each schema margins rows (k ∷ at) (part ∷ parts) h = (h.0.part, parts_each schema margins rows at parts h.1)

-- ---- parts of chunks

pub rise_in_any : (schema : Schema) (margins : List ℕ) (chunks : List Chunk) → AllByRecursion (λ chunk. AreRowsOf schema (chunk_rows schema.dimensions margins chunk)) chunks → CoresRise schema.dimensions margins chunks
rise_in_any schema margins [] a = tt
rise_in_any schema margins (chunk ∷ chunks) a =
    (IsRising-rows_where (is_inside (core schema.dimensions chunk.at.items)) (chunk_rows schema.dimensions margins chunk) a.0.are_rows.rising, rise_in_any schema margins chunks a.1)

pub rise_in_cores : (schema : Schema) (margins : List ℕ) (chunks : List Chunk) → HaveCells schema margins chunks → CoresRise schema.dimensions margins chunks
rise_in_cores schema margins chunks h = rise_in_any schema margins chunks h.rows_of

pub places_take : (schema : Schema) (margins : List ℕ) (n : ℕ) (chunks some : List Chunk) → some ≡ take n chunks → HavePlaces schema margins chunks → HavePlaces schema margins some
places_take schema margins n chunks some e h = subst (HavePlaces schema margins) (sym e) (record {
  valid = h.valid;
  each = h.each;
  places = h.places;
  rising = rise_take n chunks h.rising;
  sized = numbers_take (λ k. length k ≡ length schema.dimensions) n chunks h.sized;
  all = all_take (HasPlaces schema margins) n chunks h.all;
})

pub places_drop : (schema : Schema) (margins : List ℕ) (n : ℕ) (chunks some : List Chunk) → some ≡ drop n chunks → HavePlaces schema margins chunks → HavePlaces schema margins some
places_drop schema margins n chunks some e h = subst (HavePlaces schema margins) (sym e) (record {
  valid = h.valid;
  each = h.each;
  places = h.places;
  rising = rise_drop n chunks h.rising;
  sized = numbers_drop (λ k. length k ≡ length schema.dimensions) n chunks h.sized;
  all = all_drop (HasPlaces schema margins) n chunks h.all;
})
