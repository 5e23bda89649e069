-- A schema's overlaps as margins: one for each dimension, and frames of no more places than the schema's rules allow.
use Rattle.std.proofs.Common.{◌≡◌, ℕ, suc, ◌≤◌, ◌^◌, List, [], ◌∷◌, length, refl, sym, ap, subst, ◌∙◌, arith}
use Rattle.std.specs.Prelude.{◌&&◌}
use Rattle.std.specs.List.{list_all}
use Rattle.array_rows.specs.Dimension.{Dimension}
use Rattle.array_rows.specs.Schema.{Schema}
use Rattle.array_rows.specs.Schemas.{has_attributes, has_dimensions, are_distinct, names_of, is_dimension, frame_size, frame_fits, IsValid}
use Rattle.array_geom.specs.Geometry.{overlaps, frame_lengths, volume}
use Rattle.array_geom.proofs.NearLemmas.{valid_placed, size_is_volume}
use Rattle.array_geom.proofs.TestLaws.{and_parts, at_most}

pub few_dimensions : (schema : Schema) (dims : List Dimension) → dims ≡ schema.dimensions → IsValid schema → length dims ≤ 6
few_dimensions schema dims same valid = subst (λ (ds : List Dimension). length ds ≤ 6) (sym same) (valid_placed schema valid).few

each_of : (dims : List Dimension) → length (overlaps dims) ≡ length dims
each_of [] = refl
each_of (d ∷ dims) = ap suc (each_of dims)

pub overlap_each : (schema : Schema) (margins : List ℕ) → margins ≡ overlaps schema.dimensions → length margins ≡ length schema.dimensions
overlap_each schema margins same = ap length same ∙ each_of schema.dimensions

pub overlap_places : (schema : Schema) (margins : List ℕ) → margins ≡ overlaps schema.dimensions → IsValid schema → volume (frame_lengths schema.dimensions margins) ≤ 2 ^ 48
overlap_places schema margins same valid =
    let dims = schema.dimensions in
    let a = and_parts (has_attributes schema.attributes && has_dimensions dims && are_distinct (names_of schema) && list_all is_dimension dims) (frame_fits dims) valid in
    let small : frame_size dims ≤ 281474976710656 = at_most (frame_size dims) 281474976710656 a.1 in
    let size : frame_size dims ≡ volume (frame_lengths dims (overlaps dims)) = size_is_volume dims in
    let few : volume (frame_lengths dims (overlaps dims)) ≤ 2 ^ 48 = omega arith in
    subst (λ (ms : List ℕ). volume (frame_lengths dims ms) ≤ 2 ^ 48) (sym same) few
