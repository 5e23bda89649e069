-- The bytes of names and schemas, and which schemas have a spelling.
use Rattle.std.specs.Prelude.{ℕ, ℤ, Bool, true, false, List, [], ◌∷◌, ◌++◌, length}
use Rattle.std.specs.List.{AllByRecursion}
use Rattle.std.specs.Int.{w8, w64, to_le_bytes, cast_unsigned}
use Rattle.file_items.specs.Items.{spell_counted}
use Rattle.cell_values.specs.Naming.{IsName}
use Rattle.cell_values.specs.Schemas.{IsValid, attribute_names, dimension_names}
use Rattle.cell_values.specs.declared.schema.Attribute.{Attribute}
use Rattle.cell_values.specs.declared.schema.Dimension.{Dimension}
use Rattle.cell_values.specs.declared.schema.Kind.{Kind}
use Rattle.cell_values.specs.declared.schema.Kind.TheVariants.{Int64, Str, Bool as Truths}
use Rattle.cell_values.specs.declared.schema.Schema.{Schema}

-- the bytes, with their count before them
unfoldable pub spell_name : List ℕ → List ℕ
spell_name name = to_le_bytes w8 (length name) ++ name

abbrev pub kind_number : Kind → ℕ
kind_number Int64 = 1
kind_number Str = 2
kind_number Truths = 3

abbrev pub flag_number : Bool → ℕ
flag_number false = 0
flag_number true = 1

-- the name, the kind and whether a null may stand there
unfoldable pub spell_attribute : Attribute → List ℕ
spell_attribute attribute = spell_name attribute.name ++ (kind_number attribute.kind ∷ flag_number attribute.nullable ∷ [])

unfoldable pub spell_signed : ℤ → List ℕ
spell_signed number = to_le_bytes w64 (cast_unsigned w64 number)

-- the name, the bounds, the length of a chunk and the overlap
unfoldable pub spell_dimension : Dimension → List ℕ
spell_dimension dimension = spell_name dimension.name
    ++ ((spell_signed dimension.lo ++ spell_signed dimension.hi) ++ (to_le_bytes w64 dimension.chunk ++ to_le_bytes w64 dimension.overlap))

-- the attributes and the dimensions, each with their count before them
unfoldable pub spell_schema : Schema → List ℕ
spell_schema schema = spell_counted w8 spell_attribute schema.attributes ++ spell_counted w8 spell_dimension schema.dimensions

-- a valid schema of names
pub record IsSpelled (schema : Schema) : Type 0 where
  pub valid : IsValid schema
  pub attributes : AllByRecursion IsName (attribute_names schema.attributes)
  pub dimensions : AllByRecursion IsName (dimension_names schema.dimensions)
