-- An array that is stored again: the file before, the file after, and what the commit of its record has done.
use Rattle.std.specs.Prelude.{ℕ, List, [], ◌∷◌, ◌++◌, codes, Some}
use Rattle.plan_changes.specs.Query.{scanned}
use Rattle.page_chain.specs.declared.slots.layout.sides.Side.TheVariants.{A}
use Rattle.page_chain.specs.declared.slots.layout.sides.Format.TheVariants.{Two}
use Rattle.chunk_map.specs.declared.directory.DirEntry.{DirEntry}
use Rattle.plan_changes.specs.declared.change.Change.{Change}
use Rattle.plan_changes.specs.declared.change.Change.TheVariants.{Store}
use Rattle.plan_changes.specs.Databases.{after}
use Rattle.version_catalog.specs.declared.rules.catalog.CatalogArray.{CatalogArray}
use Rattle.version_catalog.specs.declared.rules.catalog_record.CatalogRecord.{CatalogRecord}
use Rattle.version_catalog.specs.declared.rules.catalog_record.CatalogRecord.TheVariants.{Next}
use Rattle.file_meaning.specs.Slots.{Slots}
use Rattle.file_meaning.specs.Standing.{Stands}
use Rattle.file_meaning.specs.declared.meaning.found.Found.{Found}
use Rattle.file_meaning.specs.Inner.FileExample.{schema, database, eight, four, zeros, front, catalog_bytes, directory_bytes, payload_bytes, file}
use Rattle.file_meaning.specs.Next.{Made}
use Rattle.file_meaning.specs.Premises.{StandsBy, MayChange, HoldsRecord}

-- store(A, A), where A@1 stands in pages 3 and 4
abbrev pub change : Change
change = Store (codes "A") schema (scanned (record { name = codes "A"; version = 1; schema = schema }))

abbrev pub entry : DirEntry
entry = record { at = record { items = 0 ∷ [] }; length = 66; birth = 2; pages = 4 ∷ [] }

-- the directory of version 2 lies in page 6, and its one payload is that of version 1
abbrev pub made : Made
made = record { at = record { length = 40; pages = 6 ∷ [] }; directory = record { entries = entry ∷ [] } }

abbrev pub logged : CatalogRecord
logged = Next (codes "A") made.at

-- the record lies in page 5
abbrev pub record_bytes : List ℕ
record_bytes = 3 ∷ 1 ∷ 65 ∷ (eight 40 ++ (four 1 ++ four 6))

-- the log has one entry: open, of 19 bytes from page 5 on
unfoldable pub log_page : List ℕ
log_page = 1 ∷ (zeros 7 ++ (eight 19 ++ (four 5 ++ zeros 4076)))

-- page 0 and the catalogue's page, as they are in both files
unfoldable pub head : List ℕ
head = front ++ (four 0 ++ (catalog_bytes 3 ++ zeros 4018))

-- version 1: a directory and a payload
unfoldable pub stored : List ℕ
stored = (directory_bytes 0 2 4 ++ zeros 4056) ++ (payload_bytes ++ zeros 4030)

unfoldable pub added : List ℕ
added = (four 0 ++ (record_bytes ++ zeros 4073)) ++ (directory_bytes 0 2 4 ++ zeros 4056)

-- the file with the record
unfoldable pub next : List ℕ
next = head ++ (log_page ++ (stored ++ added))

abbrev pub array : CatalogArray
array = record {
  entry = record { name = codes "A"; schema = schema; next = 2; versions = 1 ∷ [] };
  directories = record { length = 40; pages = 3 ∷ [] } ∷ [];
}

abbrev pub found : Found
found = record { chain = 1 ∷ []; logged = []; catalog = record { arrays = array ∷ [] }; directories = (record { entries = entry ∷ [] } ∷ []) ∷ [] }

abbrev pub slots : Slots
slots = record { current = record { side = A; format = Two; root = record { sequence = 2; length = 74; first = 1; log = 2 } }; records = [] }

-- all that the law asks holds of these files, and what it says is so
pub record AnArrayIsStoredAgain : Type 0 where
  pub stands : StandsBy file slots database found
  pub may : MayChange database change
  pub holds : HoldsRecord (5 ∷ 6 ∷ []) file next slots found database change (Some made) (5 ∷ []) logged
  pub next_stands : Stands next (after database change)
