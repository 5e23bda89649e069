-- A worked schema: `<v:int64>[i=0:3,2,0]`.
use Rattle.std.proofs.Common.{◌≡◌, ℕ, ℤ, pos, true, List, [], ◌∷◌, ◌++◌, length, take, Option, Some, None, Ok, refl}
use Rattle.file_items.specs.Items.{wrong_at, repeat}
use Rattle.file_items.specs.Items.{whole}
use Rattle.cell_values.specs.declared.schema.Kind.TheVariants.{Int64}
use Rattle.cell_values.specs.declared.schema.Schema.{Schema}
use Rattle.file_items.specs.Spelling.{spell_name, spell_attribute, spell_signed, spell_dimension, spell_schema}
use Rattle.file_items.specs.Table.{name_fields, name_at, kind_at, flag_at, typed_at, attribute_at, attributes_at, signed_at, range_at, cut_at, extent_at, dimension_at, dimensions_at, schema_at}

abbrev eight : ℕ → List ℕ
eight n = n ∷ 0 ∷ 0 ∷ 0 ∷ 0 ∷ 0 ∷ 0 ∷ 0 ∷ []

abbrev one : Schema
one = record { attributes = record { name = 118 ∷ []; kind = Int64; nullable = true } ∷ []; dimensions = record { name = 105 ∷ []; lo = pos 0; hi = pos 3; chunk = 2; overlap = 0 } ∷ [] }

abbrev bytes : ℕ → ℕ → ℕ → ℕ → ℕ → List ℕ
bytes kind flag letter chunk overlap = 1 ∷ 1 ∷ 118 ∷ kind ∷ flag ∷ 1 ∷ 1 ∷ letter ∷ (eight 0 ++ (eight 3 ++ (eight chunk ++ eight overlap)))

abbrev wrong : List ℕ → Option ℕ
wrong all = wrong_at (length all) (whole schema_at all)

spelled : spell_schema one ≡ bytes 1 1 105 2 0
unfolding spell_schema spell_dimension spell_signed spell_attribute spell_name
spelled = refl

read : whole schema_at (bytes 1 1 105 2 0) ≡ Ok one
unfolding schema_at dimensions_at dimension_at extent_at cut_at range_at signed_at attributes_at attribute_at typed_at flag_at kind_at name_at name_fields repeat
read = refl

-- kind 4, flag 2, the attribute's own name, no place in a chunk, more overlap than a chunk, no attribute, cut in the low bound
fourth_kind : wrong (bytes 4 1 105 2 0) ≡ Some 3
unfolding schema_at dimensions_at dimension_at extent_at cut_at range_at signed_at attributes_at attribute_at typed_at flag_at kind_at name_at name_fields repeat
fourth_kind = refl

other_flag : wrong (bytes 1 2 105 2 0) ≡ Some 4
unfolding schema_at dimensions_at dimension_at extent_at cut_at range_at signed_at attributes_at attribute_at typed_at flag_at kind_at name_at name_fields repeat
other_flag = refl

same_name : wrong (bytes 1 1 118 2 0) ≡ Some 6
unfolding schema_at dimensions_at dimension_at extent_at cut_at range_at signed_at attributes_at attribute_at typed_at flag_at kind_at name_at name_fields repeat
same_name = refl

no_chunk : wrong (bytes 1 1 105 0 0) ≡ Some 24
unfolding schema_at dimensions_at dimension_at extent_at cut_at range_at signed_at attributes_at attribute_at typed_at flag_at kind_at name_at name_fields repeat
no_chunk = refl

much_overlap : wrong (bytes 1 1 105 2 3) ≡ Some 32
unfolding schema_at dimensions_at dimension_at extent_at cut_at range_at signed_at attributes_at attribute_at typed_at flag_at kind_at name_at name_fields repeat
much_overlap = refl

no_attribute : wrong (0 ∷ bytes 1 1 105 2 0) ≡ Some 0
unfolding schema_at dimensions_at dimension_at extent_at cut_at range_at signed_at attributes_at attribute_at typed_at flag_at kind_at name_at name_fields repeat
no_attribute = refl

cut_there : wrong (take 12 (bytes 1 1 105 2 0)) ≡ Some 8
unfolding schema_at dimensions_at dimension_at extent_at cut_at range_at signed_at attributes_at attribute_at typed_at flag_at kind_at name_at name_fields repeat
cut_there = refl
