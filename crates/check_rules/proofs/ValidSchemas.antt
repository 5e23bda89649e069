-- A valid schema by its parts.
use Rattle.std.proofs.Common.{◌≡◌, ℕ, ◌≤◌, ◌&&◌, true, length, List}
use Rattle.std.specs.Prelude.{nat_le}
use Rattle.std.specs.List.{list_all}
use Rattle.std.proofs.lemmas.Bool.{and_parts, and_from, le-leb}
use Rattle.cell_values.specs.declared.schema.Schema.{Schema}
use Rattle.cell_values.specs.Schemas.{IsValid, has_attributes, has_dimensions, are_distinct, names_of, is_dimension, frame_fits}

pub record ValidParts (s : Schema) : Type 0 where
  pub attributes : has_attributes s.attributes ≡ true
  pub dimensions : has_dimensions s.dimensions ≡ true
  pub distinct : are_distinct (names_of s) ≡ true
  pub each : list_all is_dimension s.dimensions ≡ true
  pub frames : frame_fits s.dimensions ≡ true

pub valid_parts : (s : Schema) → IsValid s → ValidParts s
valid_parts s h =
    let a = has_attributes s.attributes in
    let b = has_dimensions s.dimensions in
    let c = are_distinct (names_of s) in
    let d = list_all is_dimension s.dimensions in
    let p = and_parts (a && b && c && d) (frame_fits s.dimensions) h in
    let q = and_parts (a && b && c) d p.0 in
    let r = and_parts (a && b) c q.0 in
    let t = and_parts a b r.0 in
    record { attributes = t.0; dimensions = t.1; distinct = r.1; each = q.1; frames = p.1 }

pub valid_of_parts : (s : Schema) → ValidParts s → IsValid s
valid_of_parts s h =
    let a = has_attributes s.attributes in
    let b = has_dimensions s.dimensions in
    let c = are_distinct (names_of s) in
    let d = list_all is_dimension s.dimensions in
    and_from (a && b && c && d) (frame_fits s.dimensions) (and_from (a && b && c) d (and_from (a && b) c (and_from a b h.attributes h.dimensions) h.distinct) h.each) h.frames

pub has_some : {A : Type 0} (xs : List A) (n : ℕ) → 1 ≤ length xs → length xs ≤ n → (nat_le 1 (length xs) && nat_le (length xs) n) ≡ true
has_some xs n some few = and_from (nat_le 1 (length xs)) (nat_le (length xs) n) (le-leb 1 (length xs) some) (le-leb (length xs) n few)
