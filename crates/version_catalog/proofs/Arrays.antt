-- An array is read where its parts are.
use Rattle.std.proofs.Common.{◌≡◌, ℕ, true, List, length, Option, Result, Ok, ap}
use Rattle.file_items.specs.Schema.{Schema}
use Rattle.file_items.specs.Table.{name_at, schema_at}
use Rattle.version_catalog.specs.declared.rules.catalog.BlobAt.{BlobAt}
use Rattle.version_catalog.specs.declared.rules.catalog.CatalogArray.{CatalogArray}
use Rattle.version_catalog.specs.Spelling.{versions_at}
use Rattle.version_catalog.specs.Table.{Numbered, numbered_at, content_at, is_next_name, items_at, array_at}
use Rattle.version_catalog.proofs.Pairs.{array_is}

abbrev read_as : {A : Type 0} → A → List ℕ → Result (A × List ℕ) ℕ
read_as x rest = Ok (x, rest)

abbrev numbered_of : ℕ → List ℕ → List BlobAt → Numbered
numbered_of next numbers directories = record { next = next; versions = versions_at numbers directories }

abbrev array_made : List ℕ → Schema → ℕ → List ℕ → List BlobAt → CatalogArray
array_made name schema next numbers directories = record { entry = record { name = name; schema = schema; next = next; versions = numbers }; directories = directories }

pub array_read : (before : Option (List ℕ)) (bytes name behind : List ℕ) (schema : Schema) (after : List ℕ) (next : ℕ) (numbers : List ℕ) (directories : List BlobAt) (rest : List ℕ)
    → name_at bytes ≡ read_as name behind → is_next_name before name ≡ true → schema_at behind ≡ read_as schema after → numbered_at after ≡ read_as (numbered_of next numbers directories) rest
    → length directories ≡ length numbers → array_at before bytes ≡ read_as (array_made name schema next numbers directories) rest
unfolding array_at items_at content_at
array_read before bytes name behind schema after next numbers directories rest named is_next typed numbered one_each =
    rw (named, is_next, typed, numbered) (ap (λ (array : CatalogArray). read_as array rest) (array_is name schema next numbers directories one_each))
