-- The items of names and schemas in their order, each with its test over the items before it.
use Rattle.std.specs.Prelude.{ℕ, ℤ, zero, suc, int_le, ◌+◌, ◌*◌, Bool, true, false, not, ◌&&◌, ◌||◌}
use Rattle.std.specs.Prelude.{◌==◌, nat_lt, nat_le, List, [], ◌∷◌, ◌++◌, length, Result, Ok, Err}
use Rattle.std.specs.Int.{w8, w64, cast_signed}
use Rattle.file_items.specs.Items.{◌>>=◌, Reading, number_at, bytes_at, item, one_item, counted}
use Rattle.cell_values.specs.Naming.{is_name}
use Rattle.cell_values.specs.Schemas.{attribute_names, dimension_names, is_among, is_bound, frame_size}
use Rattle.cell_values.specs.declared.schema.Attribute.{Attribute}
use Rattle.cell_values.specs.declared.schema.Dimension.{Dimension}
use Rattle.cell_values.specs.declared.schema.Kind.{Kind}
use Rattle.cell_values.specs.declared.schema.Kind.TheVariants.{Int64, Str, Bool as Truths}
use Rattle.cell_values.specs.declared.schema.Schema.{Schema}

-- ---- names

unfoldable pub name_fields : Reading (List ℕ)
name_fields bytes = number_at w8 bytes >>= λ count. bytes_at count.0 count.1

-- a name is one item, which begins at its count
unfoldable pub name_at : Reading (List ℕ)
name_at = item (one_item name_fields) is_name

-- what was read so far is known to the next one
abbrev pub with_last : {A : Type 0} → List A → A → List A
with_last before x = before ++ x ∷ []

-- ---- attributes

-- 1 is `int64`, 2 `string`, 3 `bool`
unfoldable pub kind_at : Reading Kind
kind_at [] = Err 0
kind_at (zero ∷ rest) = Err (suc (length rest))
kind_at (suc zero ∷ rest) = Ok (Int64, rest)
kind_at (suc (suc zero) ∷ rest) = Ok (Str, rest)
kind_at (suc (suc (suc zero)) ∷ rest) = Ok (Truths, rest)
kind_at (suc (suc (suc (suc number))) ∷ rest) = Err (suc (length rest))

-- 1 where a null may stand, 0 where none may
unfoldable pub flag_at : Reading Bool
flag_at [] = Err 0
flag_at (zero ∷ rest) = Ok (false, rest)
flag_at (suc zero ∷ rest) = Ok (true, rest)
flag_at (suc (suc number) ∷ rest) = Err (suc (length rest))

pub record Typed : Type 0 where
  pub kind : Kind
  pub nullable : Bool

unfoldable pub typed_at : Reading Typed
typed_at bytes = do
  kind ← kind_at bytes
  nullable ← flag_at kind.1
  Ok (record { kind = kind.0; nullable = nullable.0 }, nullable.1)

-- no attribute before has the name
abbrev pub is_new_attribute : List Attribute → List ℕ → Bool
is_new_attribute before name = not (is_among name (attribute_names before))

unfoldable pub attribute_at : List Attribute → Reading Attribute
attribute_at before bytes = do
  name ← item name_at (is_new_attribute before) bytes
  typed ← typed_at name.1
  Ok (record { name = name.0; kind = typed.0.kind; nullable = typed.0.nullable }, typed.1)

abbrev pub next_attribute : List Attribute → ℕ → Reading Attribute
next_attribute before after = attribute_at before

-- 1 to 64 attributes
unfoldable pub attributes_at : Reading (List Attribute)
attributes_at = counted w8 (λ count. nat_le 1 count && nat_le count 64) next_attribute with_last []

-- ---- dimensions

unfoldable pub signed_at : Reading ℤ
signed_at bytes = do
  number ← number_at w64 bytes
  Ok (cast_signed w64 number.0, number.1)

pub record Range : Type 0 where
  pub lo : ℤ
  pub hi : ℤ

-- bounds in range and in order
unfoldable pub range_at : Reading Range
range_at bytes = do
  lo ← item signed_at is_bound bytes
  hi ← item signed_at (λ hi. is_bound hi && int_le lo.0 hi) lo.1
  Ok (record { lo = lo.0; hi = hi.0 }, hi.1)

pub record Cut : Type 0 where
  pub chunk : ℕ
  pub overlap : ℕ

-- at most the length of a chunk; with the last dimension's a chunk has at most 2^48 places, those of the overlap too
abbrev pub is_overlap : List Dimension → Bool → ℕ → ℕ → Bool
is_overlap before last chunk overlap = nat_le overlap chunk && (not last || nat_le (frame_size before * (chunk + 2 * overlap)) 281474976710656)

unfoldable pub cut_at : List Dimension → Bool → Reading Cut
cut_at before last bytes = do
  chunk ← item (number_at w64) (nat_le 1) bytes
  overlap ← item (number_at w64) (is_overlap before last chunk.0) chunk.1
  Ok (record { chunk = chunk.0; overlap = overlap.0 }, overlap.1)

pub record Extent : Type 0 where
  pub range : Range
  pub cut : Cut

unfoldable pub extent_at : List Dimension → Bool → Reading Extent
extent_at before last bytes = do
  range ← range_at bytes
  cut ← cut_at before last range.1
  Ok (record { range = range.0; cut = cut.0 }, cut.1)

-- no attribute has the name, and no dimension before
abbrev pub is_new_dimension : List (List ℕ) → List Dimension → List ℕ → Bool
is_new_dimension names before name = not (is_among name (names ++ dimension_names before))

unfoldable pub dimension_at : List (List ℕ) → List Dimension → ℕ → Reading Dimension
dimension_at names before after bytes = do
  name ← item name_at (is_new_dimension names before) bytes
  extent ← extent_at before (after == 0) name.1
  Ok (record { name = name.0; lo = extent.0.range.lo; hi = extent.0.range.hi; chunk = extent.0.cut.chunk; overlap = extent.0.cut.overlap }, extent.1)

-- 1 to 6 dimensions
unfoldable pub dimensions_at : List (List ℕ) → Reading (List Dimension)
dimensions_at names = counted w8 (λ count. nat_le 1 count && nat_le count 6) (dimension_at names) with_last []

-- ---- schemas

unfoldable pub schema_at : Reading Schema
schema_at bytes = do
  attributes ← attributes_at bytes
  dimensions ← dimensions_at (attribute_names attributes.0) attributes.1
  Ok (record { attributes = attributes.0; dimensions = dimensions.0 }, dimensions.1)
