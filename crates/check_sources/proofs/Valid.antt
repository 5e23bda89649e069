-- What callers need of valid schemas.
use Rattle.std.proofs.Common.{◌≡◌, ◌≤◌, ◌&&◌, ℤ, pos, negsuc, ◌≤ℤ◌, List, [], ◌∷◌, length, true, subst, arith}
use Rattle.std.specs.Prelude.{nat_le}
use Rattle.std.proofs.lemmas.Bool.{and_parts, leb-true}
use Rattle.std.proofs.lemmas.Int.{ints}
use Rattle.std.specs.List.{list_all}
use Rattle.cell_values.specs.declared.schema.Dimension.{Dimension}
use Rattle.cell_values.specs.declared.schema.Schema.{Schema}
use Rattle.cell_values.specs.Schemas.{IsValid, has_attributes, has_dimensions, are_distinct, names_of, is_dimension, is_bound, bounds_in_range, bounds_in_order, has_chunk, overlap_fits, frame_fits}

pub few_dimensions : (schema : Schema) → IsValid schema → length schema.dimensions ≤ 6
few_dimensions s h =
    let a = has_attributes s.attributes in
    let b = has_dimensions s.dimensions in
    let c = are_distinct (names_of s) in
    let d = list_all is_dimension s.dimensions in
    let p = and_parts (a && b && c && d) (frame_fits s.dimensions) h in
    let q = and_parts (a && b && c) d p.0 in
    let r = and_parts (a && b) c q.0 in
    let t = and_parts a b r.0 in
    let u = and_parts (nat_le 1 (length s.dimensions)) (nat_le (length s.dimensions) 6) t.1 in
    leb-true (length s.dimensions) 6 u.1

bound_below : (n : ℤ) → is_bound n ≡ true → n ≤ℤ pos 4611686018427387903
bound_below (pos n) h = let small : n ≤ 4611686018427387903 = leb-true n 4611686018427387903 h in omega (arith, ints)
bound_below (negsuc n) h = omega (arith, ints)

pub high_bound : (schema : Schema) (d : Dimension) → IsValid schema → schema.dimensions ≡ d ∷ [] → d.hi ≤ℤ pos 4611686018427387903
high_bound s d h one =
    let a = has_attributes s.attributes in
    let b = has_dimensions s.dimensions in
    let c = are_distinct (names_of s) in
    let all = list_all is_dimension s.dimensions in
    let p = and_parts (a && b && c && all) (frame_fits s.dimensions) h in
    let q = and_parts (a && b && c) all p.0 in
    let each : list_all is_dimension (d ∷ []) ≡ true = subst (λ (ds : List Dimension). list_all is_dimension ds ≡ true) one q.1 in
    let first = and_parts (is_dimension d) true each in
    let x = and_parts (bounds_in_range d && bounds_in_order d && has_chunk d) (overlap_fits d) first.0 in
    let y = and_parts (bounds_in_range d && bounds_in_order d) (has_chunk d) x.0 in
    let z = and_parts (bounds_in_range d) (bounds_in_order d) y.0 in
    let w = and_parts (is_bound d.lo) (is_bound d.hi) z.0 in
    bound_below d.hi w.1
