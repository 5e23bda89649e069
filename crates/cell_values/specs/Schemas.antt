-- The rules of a schema. Names are names by their type, so that no rule speaks of their bytes.
use Rattle.std.specs.Prelude.{ℕ, ◌+◌, ◌*◌, ℤ, unsigned_abs, int_le, Bool, true, not, ◌&&◌, nat_le, List, [], ◌∷◌, ◌++◌, map, length, IsTrue}
use Rattle.std.specs.List.{list_all, list_any}
use Rattle.std.specs.Str.{bytes_eq}
use Rattle.cell_values.specs.declared.schema.Attribute.{Attribute}
use Rattle.cell_values.specs.declared.schema.Dimension.{Dimension}
use Rattle.cell_values.specs.declared.schema.Schema.{Schema}

-- 1 to 64 attributes
abbrev pub has_attributes : List Attribute → Bool
has_attributes attributes = nat_le 1 (length attributes) && nat_le (length attributes) 64

-- 1 to 6 dimensions
abbrev pub has_dimensions : List Dimension → Bool
has_dimensions dimensions = nat_le 1 (length dimensions) && nat_le (length dimensions) 6

abbrev pub attribute_names : List Attribute → List (List ℕ)
attribute_names = map (λ attribute. attribute.name)

abbrev pub dimension_names : List Dimension → List (List ℕ)
dimension_names = map (λ dimension. dimension.name)

abbrev pub names_of : Schema → List (List ℕ)
names_of schema = attribute_names schema.attributes ++ dimension_names schema.dimensions

abbrev pub is_among : List ℕ → List (List ℕ) → Bool
is_among name names = list_any (bytes_eq name) names

-- no name comes twice
abbrev pub are_distinct : List (List ℕ) → Bool
are_distinct [] = true
are_distinct (name ∷ names) = not (is_among name names) && are_distinct names

-- the greatest bound; the least is its negative
abbrev pub greatest_bound : ℕ
greatest_bound = 4611686018427387903

abbrev pub is_bound : ℤ → Bool
is_bound number = nat_le (unsigned_abs number) greatest_bound

abbrev pub bounds_in_range : Dimension → Bool
bounds_in_range dimension = is_bound dimension.lo && is_bound dimension.hi

abbrev pub bounds_in_order : Dimension → Bool
bounds_in_order dimension = int_le dimension.lo dimension.hi

-- a chunk has at least one place
abbrev pub has_chunk : Dimension → Bool
has_chunk dimension = nat_le 1 dimension.chunk

abbrev pub overlap_fits : Dimension → Bool
overlap_fits dimension = nat_le dimension.overlap dimension.chunk

abbrev pub is_dimension : Dimension → Bool
is_dimension dimension = bounds_in_range dimension && bounds_in_order dimension && has_chunk dimension && overlap_fits dimension

-- the places of a chunk with its overlap on both sides, along one dimension
abbrev pub frame_length : Dimension → ℕ
frame_length dimension = dimension.chunk + 2 * dimension.overlap

-- the places of a chunk with its overlap
abbrev pub frame_size : List Dimension → ℕ
frame_size [] = 1
frame_size (dimension ∷ dimensions) = frame_length dimension * frame_size dimensions

-- they are at most 2^48
abbrev pub frame_fits : List Dimension → Bool
frame_fits dimensions = nat_le (frame_size dimensions) 281474976710656

abbrev pub is_valid : Schema → Bool
is_valid schema =
    has_attributes schema.attributes && has_dimensions schema.dimensions && are_distinct (names_of schema)
    && list_all is_dimension schema.dimensions && frame_fits schema.dimensions

abbrev pub IsValid : Schema → Type 0
IsValid schema = IsTrue (is_valid schema)
