-- Chunks of two arrays put into one.
use Rattle.std.proofs.Common.{◌≡◌, ℕ, None, IsTrue, true, List, [], ◌∷◌, ◌++◌, Result, Ok, Err, refl, sym, ◌∙◌, subst}
use Rattle.std.specs.List.{AllByRecursion, AllZip}
use Rattle.std.specs.Prelude.{IfOk}
use Rattle.arrayvec.specs.ArrayVec.{ArrayVec}
use Rattle.cell_values.specs.declared.datum.Row.{Row}
use Rattle.cell_values.specs.declared.memory.Memory.{Memory}
use Rattle.cell_values.specs.declared.schema.Dimension.{Dimension}
use Rattle.cell_values.specs.declared.schema.Schema.{Schema}
use Rattle.cell_values.specs.Schemas.{IsValid}
use Rattle.array_rows.specs.Arrays.{AreRowsOf}
use Rattle.array_rows.specs.Boxes.{bounds_of, is_inside}
use Rattle.array_rows.specs.Rows.{Coordinate, put_all}
use Rattle.array_geom.specs.declared.chunk.Chunk.{Chunk}
use Rattle.array_geom.specs.declared.chunk.ChunkedArray.{ChunkedArray}
use Rattle.array_geom.specs.Geometry.{ChunkNumber, chunk_of, has_core}
use Rattle.array_geom.specs.Link.{Is, NumbersRise, is_listed}
use Rattle.array_geom.proofs.NearLemmas.{valid_placed}
use Rattle.array_geom.proofs.TestLaws.{and_parts}
use Rattle.array_parts.specs.Cores.{HaveCells, cores_of, meant_by_cores}
use Rattle.array_parts.specs.Parts.{AreParts}
use Rattle.array_parts.proofs.CoreLaws.{cores_are_rows}
use Rattle.chunk_cells.specs.Inner.Numbers.{numbers_in}
use Rattle.chunk_cells.proofs.NumberLaws.{all_append}
use Rattle.chunk_cells.proofs.SortedLaws.{all_listed}
use Rattle.area_cells.specs.Pieces.{IsPartAt}
use Rattle.exec_box.specs.Inner.Reached.{HaveCores}
use Rattle.exec_box.proofs.ReachLaws.{all_follow, listed_holds, parts_of_numbers}
use Rattle.shape_rows.specs.Laws.{SameBounds, SameKinds}
use Rattle.logical_plan.specs.Shapes.{merge_rows}
use Rattle.logical_plan.specs.ShapeSchemas.{merge_schema}
use Rattle.exec_box.proofs.ArraysMadeLaws.{stands_for}
use Rattle.logical_plan.specs.ShapeMeant.{merge_meant}
use Rattle.logical_plan.specs.Typing.{merges, same_bounds, same_kinds}
use Rattle.shape_rows.proofs.TypedLaws.{bounds_are_same, kinds_are_same}
use Rattle.shape_exec.proofs.PairMeant.{both_whole}
use Rattle.shape_rows.proofs.PullLaws.{all_put_all}
use Rattle.shape_rows.proofs.PairLaws.{merged_over, merges_are_arrays}
use Rattle.shape_exec.specs.Inner.Added.{AreListed, HaveReached, IsMove}
use Rattle.shape_exec.proofs.PullParts.{listed_where, rows_reached}

-- ---- numbers of both

pub cores_of_both : (dims : List Dimension) (left right all : List (ArrayVec ℕ)) (r : Result (List (ArrayVec ℕ)) Memory) → all ≡ left ++ right → HaveCores dims left → HaveCores dims right
    → IfOk r (λ listed. (k : ChunkNumber) → is_listed k (numbers_in listed) ≡ is_listed k (numbers_in all)) → IfOk r (HaveCores dims)
cores_of_both dims left right all (Ok listed) e a b same =
    let both : HaveCores dims all = subst (HaveCores dims) (sym e) (all_append (λ (k : ChunkNumber). has_core dims k ≡ true) left right a b) in
    all_listed (λ (k : ChunkNumber). has_core dims k ≡ true) (numbers_in listed) (λ k f. listed_holds (λ (n : ChunkNumber). has_core dims n ≡ true) (numbers_in all) k both (sym (same k) ∙ f))
cores_of_both dims left right all (Err memory) e a b same = tt

pub stay_move : (source target : List Dimension) → ((c : Coordinate) → is_inside (bounds_of source) c ≡ true → is_inside (bounds_of target) c ≡ true) → IsMove source target (λ c. c) (λ c. c)
stay_move source target f = record { comes = f; there = λ c i. refl; again = λ y i. refl }

-- what is made of each row is listed, where that comes from it
pub listed_moved : (target : List Dimension) (place back : Coordinate → Coordinate) (source : List Dimension) (found : List (ArrayVec ℕ)) → IsMove source target place back → (rows : List Row)
    → AllByRecursion (λ row. is_inside (bounds_of source) row.at.items ≡ true) rows → AllByRecursion (λ row. AreListed target back found row.at.items) rows
    → AllByRecursion (λ row. is_listed (chunk_of target (place row.at.items)) (numbers_in found) ≡ true) rows
listed_moved target place back source found move [] i a = tt
listed_moved target place back source found move (row ∷ rows) i a =
    (a.0 (place row.at.items) (move.comes row.at.items i.0) (move.there row.at.items i.0), listed_moved target place back source found move rows i.1 a.1)

pub reached_moved : (target : List Dimension) (place back : Coordinate → Coordinate) (array : ChunkedArray) (r : Result (List (ArrayVec ℕ)) Memory) → HaveCells array.schema array.margins.items array.chunks → IsMove array.schema.dimensions target place back
    → IfOk r (HaveReached target back array.schema.dimensions array.margins.items array.chunks) → IfOk r (λ found. AllByRecursion (λ row. is_listed (chunk_of target (place row.at.items)) (numbers_in found) ≡ true) (cores_of array))
reached_moved target place back array (Ok found) cells move is =
    listed_moved target place back array.schema.dimensions found move (cores_of array) (cores_are_rows array.schema array.margins.items array.chunks cells).are_rows.in_bounds
    (rows_reached target back array.schema.dimensions array.margins.items array.chunks found is.reached)
reached_moved target place back array (Err memory) cells move is = tt

pub reached_cores : (target : List Dimension) (back : Coordinate → Coordinate) (old : List Dimension) (margins : List ℕ) (chunks : List Chunk) (r : Result (List (ArrayVec ℕ)) Memory) → IfOk r (HaveReached target back old margins chunks) → IfOk r (HaveCores target)
reached_cores target back old margins chunks (Ok found) is = is.cores
reached_cores target back old margins chunks (Err memory) is = tt

-- ---- merged chunks

pub same_self : (dims : List Dimension) → SameBounds dims dims
same_self [] = tt
same_self (d ∷ dims) = ((refl, refl), same_self dims)

pub cores_over : (left right : ChunkedArray) → HaveCells right.schema right.margins.items right.chunks → merge_rows (cores_of left) (cores_of right) ≡ put_all (cores_of left) (cores_of right)
cores_over left right q = merged_over (cores_of left) (cores_of right) (cores_are_rows right.schema right.margins.items right.chunks q).are_rows.rising

pub merged_rows : (schema : Schema) (left right : ChunkedArray) → IsValid schema → schema ≡ merge_schema left.schema right.schema → SameKinds left.schema.attributes right.schema.attributes → SameBounds left.schema.dimensions right.schema.dimensions
    → HaveCells left.schema left.margins.items left.chunks → HaveCells right.schema right.margins.items right.chunks → AreRowsOf schema (put_all (cores_of left) (cores_of right))
merged_rows schema left right valid e kinds bounds p q =
    subst (λ (rows : List Row). AreRowsOf schema rows) (cores_over left right q)
    (subst (λ (s : Schema). AreRowsOf s (merge_rows (cores_of left) (cores_of right))) (sym e)
    (merges_are_arrays left.schema right.schema (cores_of left) (cores_of right) (subst IsValid e valid) kinds bounds (cores_are_rows left.schema left.margins.items left.chunks p) (cores_are_rows right.schema right.margins.items right.chunks q)))

pub more_listed : (dims : List Dimension) (place : Coordinate → Coordinate) (some all : List (ArrayVec ℕ)) (rows : List Row) → ((k : ChunkNumber) → is_listed k (numbers_in some) ≡ true → is_listed k (numbers_in all) ≡ true)
    → AllByRecursion (λ row. is_listed (chunk_of dims (place row.at.items)) (numbers_in some) ≡ true) rows → AllByRecursion (λ row. is_listed (chunk_of dims (place row.at.items)) (numbers_in all) ≡ true) rows
more_listed dims place some all rows kept a =
    all_follow (λ (row : Row). is_listed (chunk_of dims (place row.at.items)) (numbers_in some) ≡ true) (λ row. is_listed (chunk_of dims (place row.at.items)) (numbers_in all) ≡ true) (λ row e. kept (chunk_of dims (place row.at.items)) e) rows a

-- chunks of numbers among which those of all rows are
pub listed_parts : (schema : Schema) (margins : List ℕ) (rows : List Row) (listed : List (ArrayVec ℕ)) (parts : List Chunk) → IsValid schema → AllZip (IsPartAt schema margins rows) listed parts → NumbersRise (numbers_in listed) → HaveCores schema.dimensions listed
    → AllByRecursion (λ row. is_listed (chunk_of schema.dimensions row.at.items) (numbers_in listed) ≡ true) rows → AreParts schema.dimensions margins rows parts
listed_parts schema margins rows listed parts valid zip rise cores a =
    parts_of_numbers schema margins rows listed parts zip rise cores (λ k l h. listed_where schema.dimensions listed rows k (valid_placed schema valid).near a l h)

pub merged_listed : (dims : List Dimension) (l r : List Row) (of_left of_right all : List (ArrayVec ℕ)) → ((k : ChunkNumber) → is_listed k (numbers_in of_left) ≡ true → is_listed k (numbers_in all) ≡ true)
    → ((k : ChunkNumber) → is_listed k (numbers_in of_right) ≡ true → is_listed k (numbers_in all) ≡ true) → AllByRecursion (λ row. is_listed (chunk_of dims row.at.items) (numbers_in of_left) ≡ true) l
    → AllByRecursion (λ row. is_listed (chunk_of dims row.at.items) (numbers_in of_right) ≡ true) r → AllByRecursion (λ row. is_listed (chunk_of dims row.at.items) (numbers_in all) ≡ true) (put_all l r)
merged_listed dims l r of_left of_right all left right a b =
    all_put_all (λ row. is_listed (chunk_of dims row.at.items) (numbers_in all) ≡ true) l r (more_listed dims (λ c. c) of_left all l left a) (more_listed dims (λ c. c) of_right all r right b)

-- ---- what the rules of typing say

pub typed_bounds : (left right : Schema) → IsTrue (merges left right) → SameBounds left.dimensions right.dimensions
typed_bounds left right t = bounds_are_same left.dimensions right.dimensions (and_parts (same_bounds left.dimensions right.dimensions) (same_kinds left.attributes right.attributes) t).0

pub typed_kinds : (left right : Schema) → IsTrue (merges left right) → SameKinds left.attributes right.attributes
typed_kinds left right t = kinds_are_same left.attributes right.attributes (and_parts (same_bounds left.dimensions right.dimensions) (same_kinds left.attributes right.attributes) t).1

pub merge_made : (left right : ChunkedArray) (target : Schema) (made : Result ChunkedArray Memory) → left.broken ≡ None → right.broken ≡ None → target ≡ merge_schema left.schema right.schema
    → merge_rows (cores_of left) (cores_of right) ≡ put_all (cores_of left) (cores_of right) → IfOk made (λ m. Is m (record { schema = target; rows = Ok (put_all (cores_of left) (cores_of right)) }))
    → IfOk made (λ m. Is m (merge_meant (meant_by_cores left) (meant_by_cores right)))
merge_made left right target made p q e over is =
    stands_for made _ _ (both_whole merge_rows (merge_schema left.schema right.schema) target left right (put_all (cores_of left) (cores_of right)) e p q (sym over)) is
