-- Parts and slices of arrays, chunk by chunk.
use Rattle.std.proofs.Common.{◌≡◌, ℕ, true, List, [], length, refl, sym, ap, ◌∙◌}
use Rattle.std.proofs.lemmas.List.{append-nil}
use Rattle.std.specs.List.{AllByRecursion, AllZip}
use Rattle.arrayvec.specs.ArrayVec.{ArrayVec}
use Rattle.cell_values.specs.declared.datum.Row.{Row}
use Rattle.cell_values.specs.declared.schema.Bounds.{Bounds}
use Rattle.cell_values.specs.declared.schema.Dimension.{Dimension}
use Rattle.cell_values.specs.declared.schema.Schema.{Schema}
use Rattle.cell_values.specs.Schemas.{IsValid}
use Rattle.array_rows.specs.Boxes.{bounds_of, corners, is_inside, meet, moved, within}
use Rattle.array_rows.specs.Rows.{Coordinate}
use Rattle.array_geom.specs.declared.chunk.Chunk.{Chunk}
use Rattle.array_geom.specs.declared.chunk.ChunkedArray.{ChunkedArray}
use Rattle.array_geom.specs.Geometry.{ChunkNumber, HasFrame, chunk_of, core, frame, has_core}
use Rattle.array_geom.specs.Link.{NumbersRise, chunk_rows, is_listed}
use Rattle.array_geom.proofs.CoreLaws.{core_of}
use Rattle.array_geom.proofs.NearLemmas.{valid_placed}
use Rattle.array_parts.specs.Cores.{HaveCells, cores_of}
use Rattle.array_parts.specs.Made.{IsPlaced}
use Rattle.array_parts.specs.Parts.{AreParts}
use Rattle.array_parts.proofs.CoreLaws.{cores_are_rows}
use Rattle.chunk_cells.specs.Inner.Numbers.{numbers_in}
use Rattle.area_cells.specs.Pieces.{IsPartAt}
use Rattle.area_cells.proofs.PieceLaws.{has_places, is_part}
use Rattle.logical_plan.specs.declared.parts.Fixed.{Fixed}
use Rattle.logical_plan.specs.BoxOps.{fixed_places, has_fixed, items_but, slice_rows, subarray_rows}
use Rattle.logical_plan.specs.PlanSchema.{slice_schema, subarray_schema}
use Rattle.exec_box.specs.Inner.Reached.{AddsPicks, AddsReached, AreReached, chunks_from}
use Rattle.exec_box.specs.Inner.Spread.{raised, spread}
use Rattle.exec_box.proofs.PartLaws.{less}
use Rattle.exec_box.proofs.ReachLaws.{all_cores, core_long, made_listed, parts_of_numbers, within_made}
use Rattle.exec_box.proofs.SliceLaws.{long}
use Rattle.exec_box.proofs.SpreadLaws.{part_comes, raised_box_holds, slice_comes, spread_box_holds}

abbrev box_of : Schema → Bounds → Bounds
box_of schema area = meet (bounds_of schema.dimensions) area

in_bounds : (array : ChunkedArray) → HaveCells array.schema array.margins.items array.chunks → AllByRecursion (λ row. is_inside (bounds_of array.schema.dimensions) row.at.items ≡ true) (cores_of array)
in_bounds array h = (cores_are_rows array.schema array.margins.items array.chunks h).are_rows.in_bounds

-- a chunk of the rows in its frame
pub is_part_at : (schema : Schema) (margins : List ℕ) (number : ArrayVec ℕ) (rows made : List Row) (area : Bounds) (chunk : Chunk) → HasFrame schema margins number.items → area ≡ frame schema.dimensions margins number.items → made ≡ within area rows → chunk.at ≡ number
    → IsPlaced schema.dimensions margins chunk → chunk_rows schema.dimensions margins chunk ≡ made → IsPartAt schema margins rows number chunk
is_part_at schema margins number rows made area chunk framed e m n placed same = record {
  number_is = n;
  places = has_places schema margins number chunk framed n placed;
  part = is_part schema.dimensions margins number rows made area chunk e m n placed same;
}

-- ---- parts

pub part_there : (array : ChunkedArray) (area box target raised_one : Bounds) (from made : List Row) → HaveCells array.schema array.margins.items array.chunks → box ≡ box_of array.schema area
    → raised_one ≡ corners (raised target.lo.items box.lo.items) (raised target.hi.items box.lo.items) → from ≡ within raised_one (cores_of array) → made ≡ subarray_rows box from
    → made ≡ within target (subarray_rows (box_of array.schema area) (cores_of array))
part_there array area box target raised_one from made cells b r f m =
    let whole = box_of array.schema area in
    let same : raised_one ≡ corners (raised target.lo.items whole.lo.items) (raised target.hi.items whole.lo.items) = r ∙ ap (λ (z : Bounds). corners (raised target.lo.items z.lo.items) (raised target.hi.items z.lo.items)) b in
    m ∙ (λ i. subarray_rows (b i) (f i)) ∙ ap (λ (z : Bounds). subarray_rows whole (within z (cores_of array))) same
    ∙ sym (within_made target (is_inside whole) (is_inside (corners (raised target.lo.items whole.lo.items) (raised target.hi.items whole.lo.items))) (moved (less whole.lo.items)) (λ c. is_inside (bounds_of array.schema.dimensions) c ≡ true)
    (λ row p t. raised_box_holds array.schema area target row.at.items cells.placed.valid t) (cores_of array) (in_bounds array cells))

pub part_parts : (schema : Schema) (array : ChunkedArray) (area : Bounds) (margins : List ℕ) (listed : List (ArrayVec ℕ)) (parts : List Chunk) → IsValid schema → HaveCells array.schema array.margins.items array.chunks → schema ≡ subarray_schema area array.schema
    → NumbersRise (numbers_in listed) → AreReached array.schema.dimensions schema.dimensions (is_inside (box_of array.schema area)) (chunks_from array.schema.dimensions (box_of array.schema area).lo.items) array.chunks listed
    → AllZip (IsPartAt schema margins (subarray_rows (box_of array.schema area) (cores_of array))) listed parts → AreParts schema.dimensions margins (subarray_rows (box_of array.schema area) (cores_of array)) parts
part_parts schema array area margins listed parts valid cells e rise reached zip =
    let whole = box_of array.schema area in
    parts_of_numbers schema margins (subarray_rows whole (cores_of array)) listed parts zip rise reached.cores
    (λ k l h. made_listed schema.dimensions (is_inside whole) (moved (less whole.lo.items)) (chunks_from array.schema.dimensions whole.lo.items) (λ c. is_inside (bounds_of array.schema.dimensions) c ≡ true) listed (cores_of array) k (valid_placed schema valid).near
    (λ row p t. ap (λ (s : Schema). chunk_of s.dimensions (less whole.lo.items row.at.items)) e ∙ part_comes array.schema.dimensions area row.at.items t)
    (in_bounds array cells)
    (all_cores (λ c. is_inside whole c ≡ true → has_core schema.dimensions (chunks_from array.schema.dimensions whole.lo.items c) ≡ true → is_listed (chunks_from array.schema.dimensions whole.lo.items c) (numbers_in listed) ≡ true) array.schema.dimensions array.margins.items array.chunks reached.reached)
    l h)

-- ---- slices

pub slice_there : (array : ChunkedArray) (fixed : List Fixed) (target spread_one : Bounds) (from made : List Row) → HaveCells array.schema array.margins.items array.chunks
    → length target.lo.items ≡ length (items_but (fixed_places fixed) 0 array.schema.dimensions) → length target.hi.items ≡ length (items_but (fixed_places fixed) 0 array.schema.dimensions)
    → spread_one ≡ corners (spread fixed 0 array.schema.dimensions target.lo.items) (spread fixed 0 array.schema.dimensions target.hi.items) → from ≡ within spread_one (cores_of array) → made ≡ slice_rows fixed from
    → made ≡ within target (slice_rows fixed (cores_of array))
slice_there array fixed target spread_one from made cells low high s f m =
    let dims = array.schema.dimensions in
    m ∙ ap (slice_rows fixed) (f ∙ ap (λ (z : Bounds). within z (cores_of array)) s)
    ∙ sym (within_made target (has_fixed fixed) (is_inside (corners (spread fixed 0 dims target.lo.items) (spread fixed 0 dims target.hi.items))) (moved (items_but (fixed_places fixed) 0)) (λ c. is_inside (bounds_of dims) c ≡ true)
    (λ row p t. spread_box_holds fixed dims target row.at.items (long dims row.at.items p) low high t) (cores_of array) (in_bounds array cells))

pub slice_parts : (schema : Schema) (array : ChunkedArray) (fixed : List Fixed) (margins : List ℕ) (listed : List (ArrayVec ℕ)) (parts : List Chunk) → IsValid schema → HaveCells array.schema array.margins.items array.chunks → schema ≡ slice_schema fixed array.schema
    → NumbersRise (numbers_in listed) → AreReached array.schema.dimensions schema.dimensions (has_fixed fixed) (λ c. items_but (fixed_places fixed) 0 (chunk_of array.schema.dimensions c)) array.chunks listed
    → AllZip (IsPartAt schema margins (slice_rows fixed (cores_of array))) listed parts → AreParts schema.dimensions margins (slice_rows fixed (cores_of array)) parts
slice_parts schema array fixed margins listed parts valid cells e rise reached zip =
    let dims = array.schema.dimensions in
    parts_of_numbers schema margins (slice_rows fixed (cores_of array)) listed parts zip rise reached.cores
    (λ k l h. made_listed schema.dimensions (has_fixed fixed) (moved (items_but (fixed_places fixed) 0)) (λ c. items_but (fixed_places fixed) 0 (chunk_of dims c)) (λ c. is_inside (bounds_of dims) c ≡ true) listed (cores_of array) k (valid_placed schema valid).near
    (λ row p t. ap (λ (s : Schema). chunk_of s.dimensions (items_but (fixed_places fixed) 0 row.at.items)) e ∙ slice_comes (fixed_places fixed) 0 dims row.at.items (long dims row.at.items p))
    (in_bounds array cells)
    (all_cores (λ c. has_fixed fixed c ≡ true → has_core schema.dimensions (items_but (fixed_places fixed) 0 (chunk_of dims c)) ≡ true → is_listed (items_but (fixed_places fixed) 0 (chunk_of dims c)) (numbers_in listed) ≡ true) dims array.margins.items array.chunks reached.reached)
    l h)

-- a number without its fixed places is that of each coordinate of its core
pub sliced_reached : (schema : Schema) (dims : List Dimension) (fixed : List Fixed) (number : ChunkNumber) (sliced : ChunkNumber) (old new : List (ArrayVec ℕ)) → IsValid schema → has_core schema.dimensions number ≡ true → sliced ≡ items_but (fixed_places fixed) 0 number → AddsPicks dims sliced [] [] old new
    → AddsReached dims (has_fixed fixed) (λ c. items_but (fixed_places fixed) 0 (chunk_of schema.dimensions c)) (core schema.dimensions number) old new
sliced_reached schema dims fixed number sliced old new valid has e adds = record {
  kept = adds.kept;
  cores = adds.cores;
  reached = λ c inside fits there.
      let at : number ≡ chunk_of schema.dimensions c = core_of schema.dimensions number c (valid_placed schema valid).near (core_long schema.dimensions number has) inside in
      let same : items_but (fixed_places fixed) 0 (chunk_of schema.dimensions c) ≡ sliced = ap (items_but (fixed_places fixed) 0) (sym at) ∙ sym e in
      here c same there;
}
  where
    here : (c : Coordinate) → items_but (fixed_places fixed) 0 (chunk_of schema.dimensions c) ≡ sliced → has_core dims (items_but (fixed_places fixed) 0 (chunk_of schema.dimensions c)) ≡ true → is_listed (items_but (fixed_places fixed) 0 (chunk_of schema.dimensions c)) (numbers_in new) ≡ true
    here c same there = ap (λ (k : ChunkNumber). is_listed k (numbers_in new)) (same ∙ sym (append-nil sliced)) ∙ adds.picked [] refl (ap (has_core dims) (append-nil sliced ∙ sym same) ∙ there)
