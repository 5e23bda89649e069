-- Chunks whose rows are found band by band, cut in two.
use Rattle.std.proofs.Common.{◌≡◌, ℕ, ◌≤◌, List, ◌++◌, length, take, drop, sym, ap, ◌∙◌, subst, arith}
use Rattle.std.proofs.lemmas.List.{length-append}
use Rattle.cell_values.specs.declared.schema.Dimension.{Dimension}
use Rattle.cell_values.specs.declared.schema.Schema.{Schema}
use Rattle.cell_values.specs.Schemas.{IsValid}
use Rattle.array_geom.specs.declared.chunk.Chunk.{Chunk}
use Rattle.array_geom.specs.Link.{core_rows}
use Rattle.array_geom.proofs.NearLemmas.{valid_placed}
use Rattle.chunk_cells.specs.Whole.{CoresRise}
use Rattle.area_cells.proofs.CutLaws.{cores_drop, cores_take}
use Rattle.area_cells.proofs.PieceLaws.{places_drop, places_take}
use Rattle.redimension_exec.specs.Inner.Bands.{AreBands}

pub few_dimensions : (schema : Schema) → IsValid schema → length schema.dimensions ≤ 6
few_dimensions schema valid = (valid_placed schema valid).few

pub cut_rows : (dims : List Dimension) (margins : List ℕ) (n : ℕ) (chunks front back : List Chunk) → core_rows dims margins chunks ≡ core_rows dims margins (take n chunks) ++ core_rows dims margins (drop n chunks) → front ≡ take n chunks → back ≡ drop n chunks
    → core_rows dims margins chunks ≡ core_rows dims margins front ++ core_rows dims margins back
cut_rows dims margins n chunks front back e f b = e ∙ (λ i. core_rows dims margins (sym f i) ++ core_rows dims margins (sym b i))

pub front_of : (source : Schema) (margins : List ℕ) (n : ℕ) (chunks front : List Chunk) → AreBands source margins chunks
    → length (core_rows source.dimensions margins front) ≤ length (core_rows source.dimensions margins chunks) → front ≡ take n chunks → AreBands source margins front
front_of source margins n chunks front are few is =
    let counted = are.counted in
    record {
      places = places_take source margins n chunks front is are.places;
      cores = subst (CoresRise source.dimensions margins) (sym is) (cores_take source.dimensions margins n chunks are.cores);
      counted = omega (arith, few, counted);
    }

pub back_of : (source : Schema) (margins : List ℕ) (n : ℕ) (chunks back : List Chunk) → AreBands source margins chunks
    → length (core_rows source.dimensions margins back) ≤ length (core_rows source.dimensions margins chunks) → back ≡ drop n chunks → AreBands source margins back
back_of source margins n chunks back are few is =
    let counted = are.counted in
    record {
      places = places_drop source margins n chunks back is are.places;
      cores = subst (CoresRise source.dimensions margins) (sym is) (cores_drop source.dimensions margins n chunks are.cores);
      counted = omega (arith, few, counted);
    }

pub front_bands : (source : Schema) (margins : List ℕ) (n : ℕ) (chunks front back : List Chunk) → AreBands source margins chunks
    → core_rows source.dimensions margins chunks ≡ core_rows source.dimensions margins front ++ core_rows source.dimensions margins back → front ≡ take n chunks → AreBands source margins front
front_bands source margins n chunks front back are split is =
    let sum = ap length split ∙ length-append (core_rows source.dimensions margins front) (core_rows source.dimensions margins back) in
    front_of source margins n chunks front are (omega (arith, sum)) is

pub back_bands : (source : Schema) (margins : List ℕ) (n : ℕ) (chunks front back : List Chunk) → AreBands source margins chunks
    → core_rows source.dimensions margins chunks ≡ core_rows source.dimensions margins front ++ core_rows source.dimensions margins back → back ≡ drop n chunks → AreBands source margins back
back_bands source margins n chunks front back are split is =
    let sum = ap length split ∙ length-append (core_rows source.dimensions margins front) (core_rows source.dimensions margins back) in
    back_of source margins n chunks back are (omega (arith, sum)) is
