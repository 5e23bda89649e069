-- Redimensions of whole arrays.
use Rattle.std.proofs.Common.{◌≡◌, ℕ, true, IsTrue, List, [], map, None, Result, Ok, Err, refl, sym, ◌∙◌, subst}
use Rattle.std.specs.BTreeMap.{BTreeMap}
use Rattle.std.specs.Prelude.{IfOk}
use Rattle.cell_values.specs.declared.datum.Broken.{Broken}
use Rattle.cell_values.specs.declared.datum.Row.{Row}
use Rattle.cell_values.specs.declared.memory.Memory.{Memory}
use Rattle.cell_values.specs.declared.schema.Schema.{Schema}
use Rattle.cell_values.specs.Schemas.{IsValid}
use Rattle.array_rows.specs.Arrays.{AreRowsOf, Meant}
use Rattle.arrayvec.specs.ArrayVec.{ArrayVec}
use Rattle.array_rows.specs.Boxes.{bounds_of}
use Rattle.array_rows.specs.Rows.{in_order}
use Rattle.array_geom.specs.declared.chunk.Chunk.{Chunk}
use Rattle.array_geom.specs.declared.chunk.ChunkedArray.{ChunkedArray}
use Rattle.array_geom.specs.Link.{Is}
use Rattle.array_parts.specs.Cores.{HaveCells, cores_of, meant_by_cores, unless_broken}
use Rattle.array_parts.proofs.CoreLaws.{cores_are_rows}
use Rattle.logical_plan.specs.CellOps.{fit_rows}
use Rattle.logical_plan.specs.Faults.{if_whole, and_then}
use Rattle.logical_plan.specs.Meaning.{redimensioned_from}
use Rattle.logical_plan.specs.Redimension.{landed, origin_of, redimension_rows, value_origin}
use Rattle.logical_plan.specs.Typing.{redimensions}
use Rattle.redimension_exec.specs.Inner.Filling.{HoldsLanded}
use Rattle.redimension_exec.specs.Inner.Telling.{CanTell}
use Rattle.redimension_exec.specs.Inner.Steps.{continued}
use Rattle.redimension_exec.proofs.LandedLaws.{made_of, carried_are_rows}
use Rattle.redimension_exec.proofs.SortLaws.{broken_whole, made_apart, sorted_whole}

abbrev pub meant_of : Schema → Result (List Row) Broken → Meant
meant_of schema rows = record { schema = schema; rows = rows }

pub stands_for : (r : Result ChunkedArray Memory) (a b : Meant) → a ≡ b → IfOk r (λ made. Is made a) → IfOk r (λ made. Is made b)
stands_for r a b e h = subst (λ (m : Meant). IfOk r (λ made. Is made m)) e h

pub rows_of_whole : (array : ChunkedArray) (target : Schema) (rows : List Row) → HaveCells array.schema array.margins.items array.chunks → IsValid target → IsTrue (redimensions array.schema target []) → Ok rows ≡ made_of array.schema target (cores_of array)
    → AreRowsOf target rows
rows_of_whole array target rows h valid typed e = carried_are_rows array.schema target (cores_of array) rows (cores_are_rows array.schema array.margins.items array.chunks h) valid typed e

means : (array : ChunkedArray) (target : Schema) (r : Result (List Row) Broken) → array.broken ≡ None → r ≡ made_of array.schema target (cores_of array)
    → meant_of target (if_whole (fit_rows target.attributes) r) ≡ redimensioned_from target [] (meant_by_cores array)
means array target r none e =
    (λ i. meant_of target (if_whole (fit_rows target.attributes) (e i)))
    ∙ (λ i. meant_of target (and_then (redimension_rows array.schema target []) (unless_broken (sym none i) (cores_of array))))

pub means_whole : (array : ChunkedArray) (target : Schema) (rows : List Row) → array.broken ≡ None → Ok rows ≡ made_of array.schema target (cores_of array)
    → meant_of target (Ok (fit_rows target.attributes rows)) ≡ redimensioned_from target [] (meant_by_cores array)
means_whole array target rows none e = means array target (Ok rows) none e

pub means_breaking : (array : ChunkedArray) (target : Schema) (broken : Broken) → array.broken ≡ None → Err broken ≡ made_of array.schema target (cores_of array)
    → meant_of target (Err broken) ≡ redimensioned_from target [] (meant_by_cores array)
means_breaking array target broken none e = means array target (Err broken) none e

-- ---- chunks that hold what landed

pub landed_in_order : (array : ChunkedArray) (target : Schema) (made : List Row)
    → Ok made ≡ continued (map (value_origin array.schema) target.attributes) [] (landed (map (origin_of array.schema) target.dimensions) (bounds_of target.dimensions) true (cores_of array) [])
    → Ok (in_order made) ≡ made_of array.schema target (cores_of array)
landed_in_order array target made e =
    sorted_whole (map (origin_of array.schema) target.dimensions) (bounds_of target.dimensions) (map (value_origin array.schema) target.attributes) (cores_of array) made (in_order made) e refl

pub landed_breaks : (array : ChunkedArray) (target : Schema) (broken : Broken) → HoldsLanded array.schema target (cores_of array) (Err broken) → Err broken ≡ made_of array.schema target (cores_of array)
landed_breaks array target broken e =
    broken_whole (map (origin_of array.schema) target.dimensions) (bounds_of target.dimensions) (map (value_origin array.schema) target.attributes) (cores_of array) broken e

abbrev pub can_tell : (array : ChunkedArray) (target : Schema) (chunks : BTreeMap (ArrayVec ℕ) Chunk) → HaveCells array.schema array.margins.items array.chunks → IsValid target → IsTrue (redimensions array.schema target [])
    → HoldsLanded array.schema target (cores_of array) (Ok chunks) → CanTell target chunks
can_tell array target chunks cells valid typed held = record {
  made = held.0;
  held = held.2;
  apart = made_apart (map (origin_of array.schema) target.dimensions) (bounds_of target.dimensions) (map (value_origin array.schema) target.attributes) (cores_of array) held.0 held.1;
  rows_of = rows_of_whole array target (in_order held.0) cells valid typed (landed_in_order array target held.0 held.1);
}
