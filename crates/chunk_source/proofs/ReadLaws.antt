-- What was read of a leaf, call by call.
use Rattle.std.proofs.Common.{◌≡◌, ℕ, Bool, true, false, List, filter, sym, ap, ◌∙◌, subst}
use Rattle.std.specs.List.{AllByRecursion, AllZip, flat_map}
use Rattle.std.specs.Prelude.{IsTrue}
use Rattle.arrayvec.specs.ArrayVec.{ArrayVec}
use Rattle.cell_values.specs.declared.schema.Bounds.{Bounds}
use Rattle.cell_values.specs.Schemas.{IsValid}
use Rattle.array_rows.specs.Rows.{in_order}
use Rattle.array_geom.specs.declared.chunk.Chunk.{Chunk}
use Rattle.array_geom.specs.declared.chunk.ChunkedArray.{ChunkedArray}
use Rattle.array_geom.specs.Geometry.{overlaps}
use Rattle.array_geom.specs.Link.{Is, NumbersRise, chunk_rows}
use Rattle.array_parts.proofs.PartLemmas.{all_kept}
use Rattle.logical_plan.specs.Meaning.{Database, whole}
use Rattle.logical_plan.specs.declared.parts.Leaf.{Leaf}
use Rattle.plan_needs.specs.Wanted.{wanted_of}
use Rattle.chunk_source.specs.Source.{AreNumbersIn, IsChunkIn, IsStored, Keeps, SourceState, is_among, listed, numbers_of}
use Rattle.chunk_source.proofs.ReadLemmas.{listed_among}
use Rattle.chunk_source.specs.Inner.Alone.{stand_alone}
use Rattle.chunk_source.specs.Known.{IsPartIn}
use Rattle.chunk_source.specs.Read.{IsRead}
use Rattle.chunk_source.proofs.AssembledLaws.{part_is_told}

-- the wanted ones of the chunks that a source lists are among those that it lists later
pub wanted_among : (a b : SourceState) (leaf : Leaf) (p : ArrayVec ℕ → Bool) (stored wanted : List (ArrayVec ℕ)) → Keeps a b → stored ≡ listed a leaf → wanted ≡ filter p stored
    → AllByRecursion (λ at. IsTrue (is_among at (listed b leaf))) wanted
wanted_among a b leaf p stored wanted k e f =
    subst (AllByRecursion (λ at. IsTrue (is_among at (listed b leaf)))) (sym f) (all_kept (λ at. IsTrue (is_among at (listed b leaf))) p stored (listed_among a b leaf stored k e))

pub told_by_calls : (db : Database) (leaf : Leaf) (area : Bounds) (here stored wanted : List (ArrayVec ℕ)) (chunks : List Chunk) (alone : Bool) (array : ChunkedArray)
    → stored ≡ here → wanted ≡ wanted_of leaf.schema.dimensions area stored → alone ≡ stand_alone leaf.schema.dimensions stored wanted → IsValid leaf.schema → NumbersRise (numbers_of stored)
    → AllZip (IsStored leaf.schema) wanted chunks → AreNumbersIn db leaf stored → AllByRecursion (IsChunkIn db leaf) chunks → IsRead leaf.schema array
    → (alone ≡ true → array.chunks ≡ chunks)
    → (alone ≡ false → Is array (whole leaf.schema (in_order (flat_map (chunk_rows leaf.schema.dimensions (overlaps leaf.schema.dimensions)) chunks))))
    → IsPartIn db leaf area here array
told_by_calls db leaf area here stored wanted chunks alone array e f is valid rising zip has parts read standing together =
    subst (λ (z : List (ArrayVec ℕ)). IsPartIn db leaf area z array) e
    (part_is_told db leaf area stored chunks alone array (is ∙ ap (stand_alone leaf.schema.dimensions stored) f) valid rising
    (subst (λ (z : List (ArrayVec ℕ)). AllZip (IsStored leaf.schema) z chunks) f zip) has parts read standing together)
