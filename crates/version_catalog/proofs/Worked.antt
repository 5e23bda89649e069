-- A worked catalogue: array A with the schema `<v:int64>[i=0:3,2,0]`, whose version 2 stands, with a directory of 44 bytes in page 7.
use Rattle.std.proofs.Common.{◌≡◌, ℕ, pos, true, List, [], ◌∷◌, ◌++◌, length, take, Option, Some, Ok, refl}
use Rattle.file_items.specs.Items.{wrong_at, repeat}
use Rattle.file_items.specs.Kind.TheVariants.{Int64}
use Rattle.file_items.specs.Schema.{Schema}
use Rattle.file_items.specs.Pages.{pages_at}
use Rattle.file_items.specs.Spelling.{spell_name, spell_attribute, spell_signed, spell_dimension, spell_schema}
use Rattle.file_items.specs.Table.{name_fields, name_at, kind_at, flag_at, typed_at, attribute_at, attributes_at, signed_at, range_at, cut_at, extent_at, dimension_at, dimensions_at, schema_at}
use Rattle.version_catalog.specs.declared.rules.catalog.Catalog.{Catalog}
use Rattle.version_catalog.specs.declared.rules.catalog_record.CatalogRecord.TheVariants.{Next, RemoveVersions}
use Rattle.version_catalog.specs.Spelling.{spell_blob, spell_version, spell_array, spelling, spell_record}
use Rattle.version_catalog.specs.Table.{blob_at, version_at, numbered_at, content_at, items_at, array_at, arrays_at, catalog_in, named_blob_at, named_number_at, record_at, record_in}

abbrev eight : ℕ → List ℕ
eight n = n ∷ 0 ∷ 0 ∷ 0 ∷ 0 ∷ 0 ∷ 0 ∷ 0 ∷ []

abbrev four : ℕ → List ℕ
four n = n ∷ 0 ∷ 0 ∷ 0 ∷ []

abbrev schema : Schema
schema = record { attributes = record { name = 118 ∷ []; kind = Int64; nullable = true } ∷ []; dimensions = record { name = 105 ∷ []; lo = pos 0; hi = pos 3; chunk = 2; overlap = 0 } ∷ [] }

abbrev one : Catalog
one = record { arrays = record { entry = record { name = 65 ∷ []; schema = schema; next = 3; versions = 2 ∷ [] }; directories = record { length = 44; pages = 7 ∷ [] } ∷ [] } ∷ [] }

-- the bytes with a name, the number of the next version, a version, the length of its directory and the count of its pages
abbrev bytes : ℕ → ℕ → ℕ → ℕ → ℕ → List ℕ
bytes name next version size count =
    four 1 ++ (1 ∷ name ∷ 1 ∷ 1 ∷ 118 ∷ 1 ∷ 1 ∷ 1 ∷ 1 ∷ 105 ∷ (eight 0 ++ (eight 3 ++ (eight 2 ++ (eight 0 ++ (four next ++ (four 1 ++ (four version ++ (eight size ++ (four count ++ four 7))))))))))

abbrev wrong : List ℕ → Option ℕ
wrong all = wrong_at (length all) (catalog_in all)

spelled : spelling one ≡ bytes 65 3 2 44 1
unfolding spelling spell_array spell_version spell_blob spell_schema spell_dimension spell_signed spell_attribute spell_name
spelled = refl

read : catalog_in (bytes 65 3 2 44 1) ≡ Ok one
unfolding arrays_at array_at items_at content_at numbered_at version_at blob_at pages_at schema_at dimensions_at dimension_at extent_at cut_at range_at signed_at attributes_at attribute_at typed_at flag_at kind_at name_at name_fields repeat
read = refl

-- a digit as a name, the next version 0, a version that is not below the next one, version 0, a directory without bytes, two pages for 44 bytes
no_name : wrong (bytes 49 3 2 44 1) ≡ Some 4
unfolding arrays_at array_at items_at content_at numbered_at version_at blob_at pages_at schema_at dimensions_at dimension_at extent_at cut_at range_at signed_at attributes_at attribute_at typed_at flag_at kind_at name_at name_fields repeat
no_name = refl

no_next : wrong (bytes 65 0 2 44 1) ≡ Some 46
unfolding arrays_at array_at items_at content_at numbered_at version_at blob_at pages_at schema_at dimensions_at dimension_at extent_at cut_at range_at signed_at attributes_at attribute_at typed_at flag_at kind_at name_at name_fields repeat
no_next = refl

not_below : wrong (bytes 65 2 2 44 1) ≡ Some 54
unfolding arrays_at array_at items_at content_at numbered_at version_at blob_at pages_at schema_at dimensions_at dimension_at extent_at cut_at range_at signed_at attributes_at attribute_at typed_at flag_at kind_at name_at name_fields repeat
not_below = refl

no_version : wrong (bytes 65 3 0 44 1) ≡ Some 54
unfolding arrays_at array_at items_at content_at numbered_at version_at blob_at pages_at schema_at dimensions_at dimension_at extent_at cut_at range_at signed_at attributes_at attribute_at typed_at flag_at kind_at name_at name_fields repeat
no_version = refl

no_bytes : wrong (bytes 65 3 2 0 1) ≡ Some 58
unfolding arrays_at array_at items_at content_at numbered_at version_at blob_at pages_at schema_at dimensions_at dimension_at extent_at cut_at range_at signed_at attributes_at attribute_at typed_at flag_at kind_at name_at name_fields repeat
no_bytes = refl

too_many_pages : wrong (bytes 65 3 2 44 2) ≡ Some 66
unfolding arrays_at array_at items_at content_at numbered_at version_at blob_at pages_at schema_at dimensions_at dimension_at extent_at cut_at range_at signed_at attributes_at attribute_at typed_at flag_at kind_at name_at name_fields repeat
too_many_pages = refl

-- cut in the page, and a byte too many
cut_there : wrong (take 72 (bytes 65 3 2 44 1)) ≡ Some 70
unfolding arrays_at array_at items_at content_at numbered_at version_at blob_at pages_at schema_at dimensions_at dimension_at extent_at cut_at range_at signed_at attributes_at attribute_at typed_at flag_at kind_at name_at name_fields repeat
cut_there = refl

one_more : wrong (bytes 65 3 2 44 1 ++ 0 ∷ []) ≡ Some 74
unfolding arrays_at array_at items_at content_at numbered_at version_at blob_at pages_at schema_at dimensions_at dimension_at extent_at cut_at range_at signed_at attributes_at attribute_at typed_at flag_at kind_at name_at name_fields repeat
one_more = refl

-- ---- records

spelled_next : spell_record (Next (65 ∷ []) (record { length = 44; pages = 7 ∷ [] })) ≡ 3 ∷ 1 ∷ 65 ∷ (eight 44 ++ (four 1 ++ four 7))
unfolding spell_record spell_blob spell_name
spelled_next = refl

read_next : record_in (3 ∷ 1 ∷ 65 ∷ (eight 44 ++ (four 1 ++ four 7))) ≡ Ok (Next (65 ∷ []) (record { length = 44; pages = 7 ∷ [] }))
unfolding record_at named_blob_at blob_at pages_at name_at name_fields repeat
read_next = refl

read_below : record_in (5 ∷ 1 ∷ 65 ∷ four 3) ≡ Ok (RemoveVersions (65 ∷ []) 3)
unfolding record_at named_number_at name_at name_fields
read_below = refl

sixth_kind : wrong_at 7 (record_in (6 ∷ 1 ∷ 65 ∷ four 3)) ≡ Some 0
unfolding record_at
sixth_kind = refl

cut_number : wrong_at 6 (record_in (5 ∷ 1 ∷ 65 ∷ 3 ∷ 0 ∷ 0 ∷ [])) ≡ Some 3
unfolding record_at named_number_at name_at name_fields
cut_number = refl
