-- One schema that meets the rules, and for each rule one that breaks it alone.
use Rattle.std.proofs.Common.{◌≡◌, refl, ℕ, zero, suc, ◌+◌, ◌/◌, ◌%◌, replicate, ℤ, pos, negsuc, true, false, List, [], ◌∷◌, codes}
use Rattle.cell_values.specs.declared.schema.Attribute.{Attribute}
use Rattle.cell_values.specs.declared.schema.Dimension.{Dimension}
use Rattle.cell_values.specs.declared.schema.Schema.{Schema}
use Rattle.cell_values.specs.declared.schema.Kind.TheVariants.{Int64}
use Rattle.cell_values.specs.Schemas.{is_valid}

abbrev attribute : List ℕ → Attribute
attribute name = record { name = name; kind = Int64; nullable = true }

abbrev dimension : List ℕ → ℤ → ℤ → ℕ → ℕ → Dimension
dimension name lo hi chunk overlap = record { name = name; lo = lo; hi = hi; chunk = chunk; overlap = overlap }

abbrev x : Dimension
x = dimension (codes "x") (pos 0) (pos 3) 2 0

abbrev schema : List Attribute → List Dimension → Schema
schema attributes dimensions = record { attributes = attributes; dimensions = dimensions }

valid : is_valid (schema (attribute (codes "a") ∷ attribute (codes "b") ∷ []) (x ∷ dimension (codes "y") (negsuc 4611686018427387902) (pos 4611686018427387903) 1 1 ∷ [])) ≡ true
valid = refl

no_attribute : is_valid (schema [] (x ∷ [])) ≡ false
no_attribute = refl

no_dimension : is_valid (schema (attribute (codes "a") ∷ []) []) ≡ false
no_dimension = refl

repeated_name : is_valid (schema (attribute (codes "a") ∷ attribute (codes "x") ∷ []) (x ∷ [])) ≡ false
repeated_name = refl

low_below_range : is_valid (schema (attribute (codes "a") ∷ []) (dimension (codes "x") (negsuc 4611686018427387903) (pos 3) 2 0 ∷ [])) ≡ false
low_below_range = refl

high_below_low : is_valid (schema (attribute (codes "a") ∷ []) (dimension (codes "x") (pos 4) (pos 3) 2 0 ∷ [])) ≡ false
high_below_low = refl

no_chunk : is_valid (schema (attribute (codes "a") ∷ []) (dimension (codes "x") (pos 0) (pos 3) 0 0 ∷ [])) ≡ false
no_chunk = refl

overlap_above_chunk : is_valid (schema (attribute (codes "a") ∷ []) (dimension (codes "x") (pos 0) (pos 3) 2 3 ∷ [])) ≡ false
overlap_above_chunk = refl

-- 2^47 + 2 * 2^46 places are 2^48
largest_frame : is_valid (schema (attribute (codes "a") ∷ []) (dimension (codes "x") (pos 0) (pos 3) 140737488355328 70368744177664 ∷ [])) ≡ true
largest_frame = refl

frame_above_limit : is_valid (schema (attribute (codes "a") ∷ []) (dimension (codes "x") (pos 0) (pos 3) 140737488355329 70368744177664 ∷ [])) ≡ false
frame_above_limit = refl

abbrev six : List Dimension
six = dimension (codes "u") (pos 0) (pos 3) 2 0 ∷ dimension (codes "v") (pos 0) (pos 3) 2 0 ∷ dimension (codes "w") (pos 0) (pos 3) 2 0 ∷ dimension (codes "x") (pos 0) (pos 3) 2 0 ∷ dimension (codes "y") (pos 0) (pos 3) 2 0 ∷ dimension (codes "z") (pos 0) (pos 3) 2 0 ∷ []

six_dimensions : is_valid (schema (attribute (codes "a") ∷ []) six) ≡ true
six_dimensions = refl

seven_dimensions : is_valid (schema (attribute (codes "a") ∷ []) (dimension (codes "t") (pos 0) (pos 3) 2 0 ∷ six)) ≡ false
seven_dimensions = refl

-- `a`, `b` and so on, `aa` for the 27th
abbrev name_of : ℕ → List ℕ
name_of n = (97 + n % 26) ∷ replicate (n / 26) 97

abbrev attributes_from : ℕ → ℕ → List Attribute
attributes_from first zero = []
attributes_from first (suc n) = attribute (name_of first) ∷ attributes_from (first + 1) n

many_attributes : is_valid (schema (attributes_from 0 64) (dimension (codes "X") (pos 0) (pos 3) 2 0 ∷ [])) ≡ true
many_attributes = refl

too_many_attributes : is_valid (schema (attributes_from 0 65) (dimension (codes "X") (pos 0) (pos 3) 2 0 ∷ [])) ≡ false
too_many_attributes = refl

high_above_range : is_valid (schema (attribute (codes "a") ∷ []) (dimension (codes "x") (pos 0) (pos 4611686018427387904) 2 0 ∷ [])) ≡ false
high_above_range = refl

overlap_of_a_chunk : is_valid (schema (attribute (codes "a") ∷ []) (dimension (codes "x") (pos 0) (pos 3) 2 2 ∷ [])) ≡ true
overlap_of_a_chunk = refl

one_name_twice : is_valid (schema (attribute (codes "a") ∷ []) (x ∷ x ∷ [])) ≡ false
one_name_twice = refl
