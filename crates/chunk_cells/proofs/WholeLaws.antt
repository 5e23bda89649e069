-- The chunks of an array that holds rows, and what it stands for.
use Rattle.std.proofs.Common.{◌≡◌, ℕ, List, [], ◌∷◌, length, map, None, Some, Result, Ok, Err, refl, sym, ap, ◌∙◌, subst, take, arith}
use Rattle.std.specs.List.{AllByRecursion}
use Rattle.std.proofs.lemmas.List.{take_all}
use Rattle.cell_values.specs.declared.datum.Broken.{Broken}
use Rattle.cell_values.specs.declared.datum.Row.{Row}
use Rattle.cell_values.specs.declared.schema.Dimension.{Dimension}
use Rattle.cell_values.specs.declared.schema.Schema.{Schema}
use Rattle.arrayvec.specs.ArrayVec.{ArrayVec}
use Rattle.array_rows.specs.Arrays.{Meant}
use Rattle.array_rows.specs.Boxes.{is_inside, within}
use Rattle.array_rows.specs.Rows.{IsRising}
use Rattle.array_rows.proofs.RowSets.{IsRising-rows_where}
use Rattle.array_geom.specs.Geometry.{ChunkNumber, core, frame}
use Rattle.array_geom.specs.Link.{AreChunksOf, HoldsResult, HoldsRows, Is, IsPart, NumbersRise, core_rows, is_listed, numbers}
use Rattle.array_geom.specs.declared.chunk.Chunk.{Chunk}
use Rattle.array_geom.specs.declared.chunk.ChunkedArray.{ChunkedArray}
use Rattle.array_geom.proofs.LinkLaws.{chunks_have_their_rows, chunks_have_one_meaning}
use Rattle.array_geom.proofs.NearLemmas.{valid_placed}
use Rattle.chunk_cells.specs.Frames.{AreFramed}
use Rattle.chunk_cells.specs.Inner.Numbers.{AreCoresOf, numbers_in}
use Rattle.chunk_cells.proofs.ChunkLaws.{cores_framed}
use Rattle.chunk_cells.specs.Whole.{CoresRise, IsArray}
use Rattle.array_parts.specs.Placed.{HasPlaces, HavePlaces}

abbrev numbered : List Chunk → List (ArrayVec ℕ)
numbered chunks = map (λ (chunk : Chunk). chunk.at) chunks

same_numbers : (chunks : List Chunk) → numbers_in (numbered chunks) ≡ numbers chunks
same_numbers [] = refl
same_numbers (chunk ∷ chunks) = ap (λ (ks : List ChunkNumber). chunk.at.items ∷ ks) (same_numbers chunks)

are_cores : (dims : List Dimension) (margins : List ℕ) (rows : List Row) (chunks : List Chunk) → AreChunksOf dims margins rows chunks → AreCoresOf dims rows (numbered chunks)
are_cores dims margins rows chunks are = record {
  in_order = subst NumbersRise (sym (same_numbers chunks)) are.in_order;
  named = record {
    sized = subst (AllByRecursion (λ (k : ChunkNumber). length k ≡ length dims)) (sym (same_numbers chunks)) are.sized;
    cores = λ k l. ap (is_listed k) (same_numbers chunks) ∙ are.listed k l;
  };
}

all_placed : (schema : Schema) (array : ChunkedArray) (rows : List Row) → HoldsRows schema array rows → (chunks : List Chunk) → AreFramed schema.dimensions (numbers chunks) → AllByRecursion (IsPart schema.dimensions array.margins.items rows) chunks → AllByRecursion (HasPlaces schema array.margins.items) chunks
all_placed schema array rows h [] framed parts = tt
all_placed schema array rows h (chunk ∷ chunks) framed parts = (
  record {
    framed = record { valid = h.rows_of.valid; core = framed.0; each = h.each; places = h.places };
    placed = record { each = parts.0.each; in_frame = parts.0.in_frame };
  },
  all_placed schema array rows h chunks framed.1 parts.1,
)

-- the cells of an array that holds rows have places
pub have_places : (schema : Schema) (array : ChunkedArray) (rows : List Row) → HoldsRows schema array rows → HavePlaces schema array.margins.items array.chunks
have_places schema array rows h =
    let dims = schema.dimensions in
    let framed : AreFramed dims (numbers array.chunks) = subst (AreFramed dims) (same_numbers array.chunks) (cores_framed dims rows (numbered array.chunks) (valid_placed schema h.rows_of.valid).near h.rows_of.are_rows.in_bounds (are_cores dims array.margins.items rows array.chunks h.chunks)) in
    record {
      valid = h.rows_of.valid;
      each = h.each;
      places = h.places;
      rising = h.chunks.in_order;
      sized = h.chunks.sized;
      all = all_placed schema array rows h array.chunks framed h.chunks.parts;
    }

-- and rise in each core
pub cores_rise : (schema : Schema) (array : ChunkedArray) (rows : List Row) (chunks : List Chunk) → chunks ≡ array.chunks → HoldsRows schema array rows → CoresRise schema.dimensions array.margins.items chunks
cores_rise schema array rows chunks same h = subst (CoresRise schema.dimensions array.margins.items) (sym same) (each array.chunks h.chunks.parts)
  where
    each : (xs : List Chunk) → AllByRecursion (IsPart schema.dimensions array.margins.items rows) xs → CoresRise schema.dimensions array.margins.items xs
    each [] parts = tt
    each (chunk ∷ xs) parts = (
      subst (λ (rs : List Row). IsRising (within (core schema.dimensions chunk.at.items) rs)) (sym parts.0.cells)
          (IsRising-rows_where (is_inside (core schema.dimensions chunk.at.items)) (within (frame schema.dimensions array.margins.items chunk.at.items) rows)
          (IsRising-rows_where (is_inside (frame schema.dimensions array.margins.items chunk.at.items)) rows h.rows_of.are_rows.rising)),
      each xs parts.1,
    )

-- all chunks' cores are the array's
pub all_cores : (array : ChunkedArray) (chunks : List Chunk) (count : ℕ) (rows : List Row) → chunks ≡ array.chunks → count ≡ length array.chunks → rows ≡ core_rows array.schema.dimensions array.margins.items (take count chunks) → rows ≡ core_rows array.schema.dimensions array.margins.items array.chunks
all_cores array chunks count rows same long e =
    let all : take count chunks ≡ array.chunks = ap (take count) same ∙ ap (λ (n : ℕ). take n array.chunks) long ∙ take_all (length array.chunks) array.chunks (omega arith) in
    e ∙ ap (core_rows array.schema.dimensions array.margins.items) all

-- the rows of its cores are those that it holds
pub core_rows_held : (array : ChunkedArray) (rows held : List Row) → HoldsRows array.schema array held → rows ≡ core_rows array.schema.dimensions array.margins.items array.chunks → rows ≡ held
core_rows_held array rows held h e = e ∙ chunks_have_their_rows array.schema array held h

no_rows : (schema : Schema) (array : ChunkedArray) (rows : List Row) (r : Result (List Row) Broken) → array.broken ≡ None → HoldsResult schema array r → HoldsRows schema array rows → r ≡ Ok rows
no_rows schema array rows (Ok rs) e h k = ap (λ (z : List Row). Ok z) (chunks_have_one_meaning schema array rs rows h k)
no_rows schema array rows (Err b) e h k = let f : None ≡ Some b = sym e ∙ h in cc

-- an array that holds rows stands for them alone
pub stands_for : (array : ChunkedArray) (meant : Meant) (rows : List Row) → array.broken ≡ None → Is array meant → HoldsRows array.schema array rows → record { schema = array.schema; rows = Ok rows } ≡ meant
stands_for array meant rows e is h =
    let held : meant.rows ≡ Ok rows = no_rows meant.schema array rows meant.rows e is.cells (subst (λ (s : Schema). HoldsRows s array rows) is.schema h) in
    λ i. record { schema = is.schema i; rows = sym held i }

holds_with : (schema : Schema) (array : ChunkedArray) (r : Result (List Row) Broken) → array.broken ≡ None → HoldsResult schema array r → (rows : List Row) × HoldsRows schema array rows
holds_with schema array (Ok rs) e h = (rs, h)
holds_with schema array (Err b) e h = let f : None ≡ Some b = sym e ∙ h in cc

-- an array that is not broken holds rows
pub holds_some : (array : ChunkedArray) → array.broken ≡ None → IsArray array → (rows : List Row) × HoldsRows array.schema array rows
holds_some array e is = subst (λ (s : Schema). (rows : List Row) × HoldsRows s array rows) (sym is.1.schema) (holds_with is.0.schema array is.0.rows e is.1.cells)

-- so a call that gives what it holds gives rows that it holds
pub gives_held : (array : ChunkedArray) (rows : List Row) → array.broken ≡ None → IsArray array → ((held : List Row) → HoldsRows array.schema array held → rows ≡ held) → HoldsRows array.schema array rows
gives_held array rows e is f = let some = holds_some array e is in subst (HoldsRows array.schema array) (sym (f some.0 some.1)) some.1

pub has_places : (array : ChunkedArray) → array.broken ≡ None → IsArray array → HavePlaces array.schema array.margins.items array.chunks
has_places array e is = let some = holds_some array e is in have_places array.schema array some.0 some.1
