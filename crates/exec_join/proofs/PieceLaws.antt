-- Joins chunk by chunk.
use Rattle.std.proofs.Common.{◌≡◌, ℕ, suc, ◌+◌, ◌≤◌, Bool, ◌&&◌, List, [], ◌∷◌, ◌++◌, length, map, take, refl, sym, ap, ◌∙◌, subst, arith, length-append, length-take}
use Rattle.std.specs.Prelude.{int_le}
use Rattle.std.specs.Int.{int_min}
use Rattle.std.specs.List.{AllByRecursion}
use Rattle.std.specs.Option.{option_map}
use Rattle.std.proofs.lemmas.List.{length-map}
use Rattle.cell_values.specs.declared.datum.Row.{Row}
use Rattle.cell_values.specs.declared.schema.Attribute.{Attribute}
use Rattle.cell_values.specs.declared.schema.Bounds.{Bounds}
use Rattle.cell_values.specs.declared.schema.Dimension.{Dimension}
use Rattle.cell_values.specs.declared.schema.Schema.{Schema}
use Rattle.cell_values.specs.Schemas.{attribute_names, dimension_names}
use Rattle.array_rows.specs.Boxes.{by_pairs, corners, is_inside, within}
use Rattle.array_rows.specs.Rows.{IsRising, cell_at}
use Rattle.array_rows.proofs.RowSets.{IsRising-rows_where}
use Rattle.arrayvec.specs.ArrayVec.{ArrayVec}
use Rattle.array_geom.specs.declared.chunk.Chunk.{Chunk}
use Rattle.array_geom.specs.declared.chunk.ChunkedArray.{ChunkedArray}
use Rattle.array_geom.specs.Geometry.{ChunkNumber, HasFrame, core, first_in, has_core, last_in}
use Rattle.array_geom.specs.Link.{IsPart, core_rows, has_cell, is_not_empty, numbers}
use Rattle.array_geom.proofs.NearLemmas.{valid_placed}
use Rattle.array_parts.specs.Cores.{HaveCells}
use Rattle.array_parts.specs.Parts.{AreParts}
use Rattle.array_parts.specs.Placed.{HasPlaces}
use Rattle.chunk_cells.specs.Frames.{HasFrames}
use Rattle.chunk_cells.proofs.MergeLaws.{IsRising-core_rows}
use Rattle.logical_plan.specs.Joins.{cell_beside, join_rows}
use Rattle.logical_plan.specs.PlanSchema.{free_names, join_schema, renamed_dimension}
use Rattle.area_cells.proofs.ListedLaws.{core_listed}
use Rattle.area_cells.proofs.PieceLaws.{changed_parts, each_number}
use Rattle.exec_join.proofs.JoinLaws.{within_join}
use Rattle.exec_join.proofs.SideLaws.{as_many_names}

-- ---- the rows of a box

pub rising_in : (dims : List Dimension) (margins : List ℕ) (area : Bounds) (chunks : List Chunk) (rows : List Row) → rows ≡ within area (core_rows dims margins chunks) → IsRising rows
rising_in dims margins area chunks rows e = subst IsRising (sym e) (IsRising-rows_where (is_inside area) (core_rows dims margins chunks) (IsRising-core_rows dims margins chunks))

pub joined_there : (area : Bounds) (left right from_left from_right rows : List Row) → from_left ≡ within area left → from_right ≡ within area right → rows ≡ join_rows from_left from_right → rows ≡ within area (join_rows left right)
joined_there area left right from_left from_right rows e f m = m ∙ (λ i. join_rows (e i) (f i)) ∙ sym (within_join area left right)

-- ---- dimensions with other names

firsts : (dims : List Dimension) (names : List (List ℕ)) (k : ChunkNumber) → length dims ≤ length names → by_pairs first_in (by_pairs renamed_dimension dims names) k ≡ by_pairs first_in dims k
firsts [] names k l = refl
firsts (d ∷ dims) [] k l = absurd (omega (arith, l))
firsts (d ∷ dims) (name ∷ names) [] l = refl
firsts (d ∷ dims) (name ∷ names) (n ∷ k) l = ap (λ xs. first_in d n ∷ xs) (firsts dims names k (omega (arith, l)))

lasts : (dims : List Dimension) (names : List (List ℕ)) (k : ChunkNumber) → length dims ≤ length names
    → by_pairs (λ d n. int_min d.hi (last_in d n)) (by_pairs renamed_dimension dims names) k ≡ by_pairs (λ d n. int_min d.hi (last_in d n)) dims k
lasts [] names k l = refl
lasts (d ∷ dims) [] k l = absurd (omega (arith, l))
lasts (d ∷ dims) (name ∷ names) [] l = refl
lasts (d ∷ dims) (name ∷ names) (n ∷ k) l = ap (λ xs. int_min d.hi (last_in d n) ∷ xs) (lasts dims names k (omega (arith, l)))

same_core : (dims : List Dimension) (names : List (List ℕ)) (k : ChunkNumber) → length dims ≤ length names → core (by_pairs renamed_dimension dims names) k ≡ core dims k
same_core dims names k l = λ i. corners (firsts dims names k l i) (lasts dims names k l i)

same_has_core : (dims : List Dimension) (names : List (List ℕ)) (k : ChunkNumber) → length dims ≤ length names → has_core (by_pairs renamed_dimension dims names) k ≡ has_core dims k
same_has_core [] names k l = refl
same_has_core (d ∷ dims) [] k l = absurd (omega (arith, l))
same_has_core (d ∷ dims) (name ∷ names) [] l = refl
same_has_core (d ∷ dims) (name ∷ names) (n ∷ k) l = ap (λ (b : Bool). int_le (first_in d n) d.hi && b) (same_has_core dims names k (omega (arith, l)))

as_many : (dims : List Dimension) (names : List (List ℕ)) → length dims ≤ length names → length (by_pairs renamed_dimension dims names) ≡ length dims
as_many [] names l = refl
as_many (d ∷ dims) [] l = absurd (omega (arith, l))
as_many (d ∷ dims) (name ∷ names) l = ap suc (as_many dims names (omega (arith, l)))

-- the names of a join's dimensions
record Renamed (dims old : List Dimension) : Type 0 where
  names : List (List ℕ)
  enough : length old ≤ length names
  same : dims ≡ by_pairs renamed_dimension old names

renamed : (left right schema : Schema) → schema ≡ join_schema left right → Renamed schema.dimensions left.dimensions
renamed left right schema e =
    let attributes = left.attributes ++ right.attributes in
    let names = free_names [] (dimension_names left.dimensions ++ attribute_names attributes) in
    let all : length names ≡ length left.dimensions + length attributes =
    as_many_names [] (dimension_names left.dimensions ++ attribute_names attributes) ∙ length-append (dimension_names left.dimensions) (attribute_names attributes)
    ∙ (λ i. length-map left.dimensions (λ (d : Dimension). d.name) i + length-map attributes (λ (a : Attribute). a.name) i) in
    let front = length-take (length left.dimensions) names in
    record { names = take (length left.dimensions) names; enough = omega (arith, all, front); same = ap (λ (s : Schema). s.dimensions) e }

pub joined_cores : (left right schema : Schema) (k : ChunkNumber) → schema ≡ join_schema left right → core schema.dimensions k ≡ core left.dimensions k
joined_cores left right schema k e = let r = renamed left right schema e in ap (λ (dims : List Dimension). core dims k) r.same ∙ same_core left.dimensions r.names k r.enough

pub joined_frame : (left right schema : Schema) (old margins : List ℕ) (chunk : Chunk) → schema ≡ join_schema left right → HasPlaces left old chunk → HasFrames schema margins → HasFrame schema margins chunk.at.items
joined_frame left right schema old margins chunk e placed frames =
    let r = renamed left right schema e in
    let there : has_core schema.dimensions chunk.at.items ≡ has_core left.dimensions chunk.at.items = ap (λ (dims : List Dimension). has_core dims chunk.at.items) r.same ∙ same_has_core left.dimensions r.names chunk.at.items r.enough in
    record { valid = frames.valid; core = there ∙ placed.framed.core; each = frames.each; places = frames.places }

-- each number is that of a chunk that can be joined
pub can_join : (left right : ChunkedArray) (schema : Schema) (margins : List ℕ) (ks : List (ArrayVec ℕ)) → ks ≡ map (λ chunk. chunk.at) left.chunks → schema ≡ join_schema left.schema right.schema → HasFrames schema margins
    → HaveCells left.schema left.margins.items left.chunks → HaveCells right.schema right.margins.items right.chunks
    → AllByRecursion (λ number. HaveCells left.schema left.margins.items left.chunks × HaveCells right.schema right.margins.items right.chunks × HasFrame schema margins number.items) ks
can_join left right schema margins ks e same frames on_left on_right =
    let can : ArrayVec ℕ → Type 0 = λ number. HaveCells left.schema left.margins.items left.chunks × HaveCells right.schema right.margins.items right.chunks × HasFrame schema margins number.items in
    subst (λ (z : List (ArrayVec ℕ)). AllByRecursion can z) (sym e)
    (each_number can (HasPlaces left.schema left.margins.items) (λ chunk placed. (on_left, on_right, joined_frame left.schema right.schema schema left.margins.items margins chunk same placed frames)) left.chunks on_left.placed.all)

-- the parts of joined rows, one for each left chunk
pub joined_parts : (left right schema : Schema) (old margins : List ℕ) (rows other : List Row) (chunks parts : List Chunk) → schema ≡ join_schema left right → rows ≡ core_rows left.dimensions old chunks → HaveCells left old chunks → numbers parts ≡ numbers chunks
    → AllByRecursion (IsPart schema.dimensions margins (join_rows rows other)) parts → AreParts schema.dimensions margins (join_rows rows other) parts
joined_parts left right schema old margins rows other chunks parts e same cells n each =
    let sized = cells.placed.sized in
    let r = renamed left right schema e in
    let long : length schema.dimensions ≡ length left.dimensions = ap length r.same ∙ as_many left.dimensions r.names r.enough in
    changed_parts schema.dimensions margins (λ c cell. option_map (cell_beside cell) (cell_at other c)) rows chunks parts n cells.placed.rising (subst (λ (m : ℕ). AllByRecursion (λ k. length k ≡ m) (numbers chunks)) (sym long) sized)
    (λ k l h. core_listed left.dimensions old chunks k (valid_placed left cells.placed.valid).near sized (l ∙ long)
    (ap (λ (rs : List Row). has_cell left.dimensions rs k) (sym same) ∙ ap (λ (b : Bounds). is_not_empty (within b rows)) (sym (joined_cores left right schema k e)) ∙ h))
    each
