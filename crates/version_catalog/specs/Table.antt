-- The items of catalogues and records in their order, each with its test over the items before it.
use Rattle.std.specs.Prelude.{ℕ, zero, suc, Bool, true, ◌&&◌, nat_lt, nat_le, List, [], ◌∷◌, map, length, Option, Some, None, Result, Ok, Err}
use Rattle.std.specs.Int.{w32}
use Rattle.file_items.specs.Items.{◌>>=◌, Reading, number_at, item, counted, whole}
use Rattle.file_items.specs.Schema.{Schema}
use Rattle.file_items.specs.Pages.{positive_at, pages_at}
use Rattle.plan_changes.specs.Stored.{is_before}
use Rattle.file_items.specs.Table.{name_at, schema_at}
use Rattle.version_catalog.specs.declared.rules.catalog.BlobAt.{BlobAt}
use Rattle.version_catalog.specs.declared.rules.catalog.CatalogArray.{CatalogArray}
use Rattle.version_catalog.specs.declared.rules.catalog.Catalog.{Catalog}
use Rattle.version_catalog.specs.declared.rules.catalog_record.CatalogRecord.{CatalogRecord}
use Rattle.version_catalog.specs.declared.rules.catalog_record.CatalogRecord.TheVariants.{Create, First, Next, Remove, RemoveVersions}
use Rattle.version_catalog.specs.Spelling.{VersionAt}

-- ---- versions

unfoldable pub blob_at : Reading BlobAt
blob_at bytes = do
  length ← positive_at bytes
  pages ← pages_at length.0 length.1
  Ok (record { length = length.0; pages = pages.0 }, pages.1)

-- above the number before, and below that of the next version
abbrev pub is_version : ℕ → ℕ → ℕ → Bool
is_version next last number = nat_lt last number && nat_lt number next

unfoldable pub version_at : ℕ → ℕ → Reading VersionAt
version_at next last bytes = do
  number ← item (number_at w32) (is_version next last) bytes
  directory ← blob_at number.1
  Ok (record { number = number.0; directory = directory.0 }, directory.1)

abbrev pub next_version : ℕ → ℕ → ℕ → Reading VersionAt
next_version next last after = version_at next last

abbrev pub number_in : ℕ → VersionAt → ℕ
number_in last version = version.number

-- the number of the next version, and the versions with their count before them
pub record Numbered : Type 0 where
  pub next : ℕ
  pub versions : List VersionAt

unfoldable pub numbered_at : Reading Numbered
numbered_at bytes = do
  next ← item (number_at w32) (λ next. nat_le 1 next && nat_le next 65536) bytes
  versions ← counted w32 (λ count. true) (next_version next.0) number_in 0 next.1
  Ok (record { next = next.0; versions = versions.0 }, versions.1)

-- ---- arrays

pub record Content : Type 0 where
  pub schema : Schema
  pub numbered : Numbered

unfoldable pub content_at : Reading Content
content_at bytes = do
  schema ← schema_at bytes
  numbered ← numbered_at schema.1
  Ok (record { schema = schema.0; numbered = numbered.0 }, numbered.1)

pub record Items : Type 0 where
  pub name : List ℕ
  pub content : Content

-- behind the name of the array before
abbrev pub is_next_name : Option (List ℕ) → List ℕ → Bool
is_next_name None name = true
is_next_name (Some last) name = is_before last name

unfoldable pub items_at : Option (List ℕ) → Reading Items
items_at before bytes = do
  name ← item name_at (is_next_name before) bytes
  content ← content_at name.1
  Ok (record { name = name.0; content = content.0 }, content.1)

abbrev pub array_of : Items → CatalogArray
array_of items = record {
  entry = record {
    name = items.name;
    schema = items.content.schema;
    next = items.content.numbered.next;
    versions = map (λ version. version.number) items.content.numbered.versions;
  };
  directories = map (λ version. version.directory) items.content.numbered.versions;
}

unfoldable pub array_at : Option (List ℕ) → Reading CatalogArray
array_at before bytes = do
  items ← items_at before bytes
  Ok (array_of items.0, items.1)

abbrev pub next_array : Option (List ℕ) → ℕ → Reading CatalogArray
next_array before after = array_at before

abbrev pub name_in : Option (List ℕ) → CatalogArray → Option (List ℕ)
name_in before array = Some array.entry.name

abbrev pub last_name : List CatalogArray → Option (List ℕ)
last_name [] = None
last_name (array ∷ []) = Some array.entry.name
last_name (array ∷ next ∷ arrays) = last_name (next ∷ arrays)

-- ---- catalogues

unfoldable pub arrays_at : Reading Catalog
arrays_at bytes = do
  arrays ← counted w32 (λ count. nat_le count 1024) next_array name_in None bytes
  Ok (record { arrays = arrays.0 }, arrays.1)

-- a catalogue, or how many bytes are left at the first wrong item
abbrev pub catalog_in : List ℕ → Result Catalog ℕ
catalog_in = whole arrays_at

-- ---- records

pub record NamedSchema : Type 0 where
  pub name : List ℕ
  pub schema : Schema

unfoldable pub named_schema_at : Reading NamedSchema
named_schema_at bytes = do
  name ← name_at bytes
  schema ← schema_at name.1
  Ok (record { name = name.0; schema = schema.0 }, schema.1)

pub record FirstVersion : Type 0 where
  pub named : NamedSchema
  pub directory : BlobAt

unfoldable pub first_version_at : Reading FirstVersion
first_version_at bytes = do
  named ← named_schema_at bytes
  directory ← blob_at named.1
  Ok (record { named = named.0; directory = directory.0 }, directory.1)

pub record NamedBlob : Type 0 where
  pub name : List ℕ
  pub directory : BlobAt

unfoldable pub named_blob_at : Reading NamedBlob
named_blob_at bytes = do
  name ← name_at bytes
  directory ← blob_at name.1
  Ok (record { name = name.0; directory = directory.0 }, directory.1)

pub record NamedNumber : Type 0 where
  pub name : List ℕ
  pub number : ℕ

unfoldable pub named_number_at : Reading NamedNumber
named_number_at bytes = do
  name ← name_at bytes
  number ← number_at w32 name.1
  Ok (record { name = name.0; number = number.0 }, number.1)

-- the number of the kind is an item of its own
unfoldable pub record_at : Reading CatalogRecord
record_at [] = Err 0
record_at (zero ∷ rest) = Err (suc (length rest))
record_at (suc zero ∷ rest) = do
  create ← named_schema_at rest
  Ok (Create create.0.name create.0.schema, create.1)
record_at (suc (suc zero) ∷ rest) = do
  first ← first_version_at rest
  Ok (First first.0.named.name first.0.named.schema first.0.directory, first.1)
record_at (suc (suc (suc zero)) ∷ rest) = do
  next ← named_blob_at rest
  Ok (Next next.0.name next.0.directory, next.1)
record_at (suc (suc (suc (suc zero))) ∷ rest) = do
  name ← name_at rest
  Ok (Remove name.0, name.1)
record_at (suc (suc (suc (suc (suc zero)))) ∷ rest) = do
  below ← named_number_at rest
  Ok (RemoveVersions below.0.name below.0.number, below.1)
record_at (suc (suc (suc (suc (suc (suc kind))))) ∷ rest) = Err (suc (length rest))

-- a record, or how many bytes are left at the first wrong item
abbrev pub record_in : List ℕ → Result CatalogRecord ℕ
record_in = whole record_at
