-- The chunks of a leaf are those of its array.
use Rattle.std.proofs.Common.{◌≡◌, ℕ, suc, ◌≤◌, ◌^◌, true, ◌&&◌, List, [], ◌∷◌, length, None, refl, sym, ap, ◌∙◌, subst, arith}
use Rattle.std.specs.List.{AllByRecursion, AllZip, list_all}
use Rattle.arrayvec.specs.ArrayVec.{ArrayVec}
use Rattle.cell_values.specs.declared.datum.Row.{Row}
use Rattle.cell_values.specs.declared.schema.Dimension.{Dimension}
use Rattle.cell_values.specs.declared.schema.Schema.{Schema}
use Rattle.cell_values.specs.Schemas.{is_dimension, has_attributes, has_dimensions, are_distinct, names_of, frame_size, frame_fits, IsValid}
use Rattle.array_geom.specs.declared.chunk.Chunk.{Chunk}
use Rattle.array_geom.specs.declared.chunk.ChunkedArray.{ChunkedArray}
use Rattle.array_geom.specs.Chunks.{IsChunk}
use Rattle.array_geom.specs.Geometry.{ChunkNumber, overlaps, frame_lengths, volume, has_core}
use Rattle.array_geom.specs.Link.{IsPart, NumbersRise, numbers, is_listed, Is}
use Rattle.array_geom.proofs.NearLemmas.{size_is_volume}
use Rattle.array_geom.proofs.TestLaws.{and_parts, at_most}
use Rattle.array_parts.specs.Placed.{HasPlaces, HavePlaces}
use Rattle.logical_plan.specs.declared.parts.Leaf.{Leaf}
use Rattle.logical_plan.specs.Meaning.{Database, version_rows, whole}
use Rattle.chunk_source.specs.Source.{numbers_of, IsStored, HasArray, AreNumbersIn, IsChunkIn, IsArrayIn}

pub each_overlap : (dims : List Dimension) → length (overlaps dims) ≡ length dims
each_overlap [] = refl
each_overlap (d ∷ dims) = ap suc (each_overlap dims)

pub few_places : (schema : Schema) → IsValid schema → volume (frame_lengths schema.dimensions (overlaps schema.dimensions)) ≤ 2 ^ 48
few_places schema e =
    let dims = schema.dimensions in
    let a = and_parts (has_attributes schema.attributes && has_dimensions dims && are_distinct (names_of schema) && list_all is_dimension dims) (frame_fits dims) e in
    let small = at_most (frame_size dims) 281474976710656 a.1 in
    let same = size_is_volume dims in
    omega arith

pub core_sized : (dims : List Dimension) (k : ChunkNumber) → has_core dims k ≡ true → length k ≡ length dims
core_sized [] [] e = refl
core_sized [] (n ∷ k) e = cc
core_sized (d ∷ dims) [] e = cc
core_sized (d ∷ dims) (n ∷ k) e = ap suc (core_sized dims k (and_parts _ (has_core dims k) e).1)

pub stored_numbers : (schema : Schema) (listed : List (ArrayVec ℕ)) (chunks : List Chunk) → AllZip (IsStored schema) listed chunks → numbers chunks ≡ numbers_of listed
stored_numbers schema [] [] a = refl
stored_numbers schema [] (c ∷ chunks) a = absurd a
stored_numbers schema (k ∷ listed) [] a = absurd a
stored_numbers schema (k ∷ listed) (c ∷ chunks) a = ap (λ at. at.items ∷ numbers chunks) a.0.number ∙ ap (λ ks. k.items ∷ ks) (stored_numbers schema listed chunks a.1)

pub stored_placed : (schema : Schema) (listed : List (ArrayVec ℕ)) (chunks : List Chunk) → AllZip (IsStored schema) listed chunks → AllByRecursion (HasPlaces schema (overlaps schema.dimensions)) chunks
stored_placed schema [] [] a = tt
stored_placed schema [] (c ∷ chunks) a = absurd a
stored_placed schema (k ∷ listed) [] a = absurd a
stored_placed schema (k ∷ listed) (c ∷ chunks) a =
    (record { framed = a.0.valid.framed; placed = record { each = a.0.valid.each; in_frame = a.0.valid.in_frame } }, stored_placed schema listed chunks a.1)

stored_sized : (schema : Schema) (listed : List (ArrayVec ℕ)) (chunks : List Chunk) → AllZip (IsStored schema) listed chunks → AllByRecursion (λ k. length k ≡ length schema.dimensions) (numbers chunks)
stored_sized schema [] [] a = tt
stored_sized schema [] (c ∷ chunks) a = absurd a
stored_sized schema (k ∷ listed) [] a = absurd a
stored_sized schema (k ∷ listed) (c ∷ chunks) a = (core_sized schema.dimensions c.at.items a.0.valid.framed.core, stored_sized schema listed chunks a.1)

pub have_places : (schema : Schema) (margins : List ℕ) (listed : List (ArrayVec ℕ)) (chunks : List Chunk) → margins ≡ overlaps schema.dimensions → IsValid schema → NumbersRise (numbers_of listed) → AllZip (IsStored schema) listed chunks
    → HavePlaces schema margins chunks
have_places schema margins listed chunks e valid rising stored = rw e (record {
  valid = valid;
  each = each_overlap schema.dimensions;
  places = few_places schema valid;
  rising = subst NumbersRise (sym (stored_numbers schema listed chunks stored)) rising;
  sized = stored_sized schema listed chunks stored;
  all = stored_placed schema listed chunks stored;
})

stored_valid : (schema : Schema) (listed : List (ArrayVec ℕ)) (chunks : List Chunk) → AllZip (IsStored schema) listed chunks → AllByRecursion (IsChunk schema (overlaps schema.dimensions)) chunks
stored_valid schema [] [] a = tt
stored_valid schema [] (c ∷ chunks) a = absurd a
stored_valid schema (k ∷ listed) [] a = absurd a
stored_valid schema (k ∷ listed) (c ∷ chunks) a = (a.0.valid, stored_valid schema listed chunks a.1)

pub are_valid : (schema : Schema) (margins : List ℕ) (listed : List (ArrayVec ℕ)) (chunks : List Chunk) → margins ≡ overlaps schema.dimensions → AllZip (IsStored schema) listed chunks → AllByRecursion (IsChunk schema margins) chunks
are_valid schema margins listed chunks e stored = subst (λ (ms : List ℕ). AllByRecursion (IsChunk schema ms) chunks) (sym e) (stored_valid schema listed chunks stored)

-- the chunks that are listed are the array
is_array : (leaf : Leaf) (array : ChunkedArray) (rows : List Row) (listed : List (ArrayVec ℕ)) → array.schema ≡ leaf.schema → array.margins.items ≡ overlaps leaf.schema.dimensions → array.broken ≡ None
    → IsValid leaf.schema → NumbersRise (numbers_of listed) → AllZip (IsStored leaf.schema) listed array.chunks
    → HasArray leaf rows listed → AllByRecursion (IsPart leaf.schema.dimensions (overlaps leaf.schema.dimensions) rows) array.chunks → Is array (whole leaf.schema rows)
is_array leaf array rows listed e m b valid rising stored has parts =
    let n = stored_numbers leaf.schema listed array.chunks stored in
    record {
      schema = e;
      valid = valid;
      margins = ap length m ∙ each_overlap leaf.schema.dimensions;
      cells = record {
        whole = b;
        rows_of = has.rows_of;
        each = ap length m ∙ each_overlap leaf.schema.dimensions;
        places = rw m (few_places leaf.schema valid);
        chunks = rw m (record {
          in_order = subst NumbersRise (sym n) rising;
          sized = stored_sized leaf.schema listed array.chunks stored;
          listed = λ k l. ap (is_listed k) n ∙ has.listed k l;
          parts = parts;
        });
      };
    }

pub is_told : (db : Database) (leaf : Leaf) (array : ChunkedArray) (listed : List (ArrayVec ℕ)) → array.schema ≡ leaf.schema → array.margins.items ≡ overlaps leaf.schema.dimensions → array.broken ≡ None
    → IsValid leaf.schema → NumbersRise (numbers_of listed) → AllZip (IsStored leaf.schema) listed array.chunks
    → AreNumbersIn db leaf listed → AllByRecursion (IsChunkIn db leaf) array.chunks → IsArrayIn db leaf array
is_told db leaf array listed e m b valid rising stored has parts = is_array leaf array (version_rows db leaf.name leaf.version) listed e m b valid rising stored (has valid) parts
