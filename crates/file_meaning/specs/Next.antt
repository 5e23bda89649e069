-- What is found of a file after a change: the next catalogue, and the next directories.
use Rattle.std.specs.Prelude.{ℕ, if◌then◌else◌, List, [], ◌∷◌, ◌++◌, drop, insert, nat_lt, Option, Some, None}
use Rattle.std.specs.List.{count_by}
use Rattle.array_rows.specs.Boxes.{by_pairs}
use Rattle.chunk_map.specs.declared.directory.Directory.{Directory}
use Rattle.plan_changes.specs.NameEntry.{NameEntry}
use Rattle.plan_changes.specs.declared.change.Change.{Change}
use Rattle.plan_changes.specs.declared.change.Change.TheVariants.{Create, Store, Insert, Remove, RemoveVersions}
use Rattle.plan_changes.specs.Changes.{is_named, has_array, place_of, with_absent}
use Rattle.version_catalog.specs.declared.rules.catalog.BlobAt.{BlobAt}
use Rattle.version_catalog.specs.Catalogs.{names_in}
use Rattle.version_catalog.specs.Changed.{after_change}
use Rattle.file_meaning.specs.declared.meaning.found.Found.{Found}

-- the directory of a new version, and where it lies
pub record Made : Type 0 where
  pub at : BlobAt
  pub directory : Directory

abbrev pub blob_of : Option Made → Option BlobAt
blob_of None = None
blob_of (Some made) = Some made.at

-- ---- the directories of each array, beside the arrays' entries

abbrev pub Rows : Type 0
Rows = List (List Directory)

-- one more array, without directories, in its place by name
abbrev pub with_empty : List ℕ → List NameEntry → Rows → Rows
with_empty name entries rows = insert rows (place_of entries name) []

abbrev pub with_absent_row : List ℕ → List NameEntry → Rows → Rows
with_absent_row name entries rows = if has_array entries name then rows else with_empty name entries rows

-- one more directory behind those of an array
abbrev pub with_made : List ℕ → Option Made → List NameEntry → Rows → Rows
with_made name None entries rows = rows
with_made name (Some made) entries rows = by_pairs (λ entry row. if is_named name entry then row ++ made.directory ∷ [] else row) entries rows

-- those of all other arrays
abbrev pub without_row : List ℕ → List NameEntry → Rows → Rows
without_row name [] rows = []
without_row name (entry ∷ entries) [] = []
without_row name (entry ∷ entries) (row ∷ rows) = if is_named name entry then without_row name entries rows else row ∷ without_row name entries rows

-- of an array as many of the first directories go as it has versions below a number
abbrev pub from_version : List ℕ → ℕ → List NameEntry → Rows → Rows
from_version name below entries rows = by_pairs
    (λ entry row. if is_named name entry then drop (count_by (λ version. nat_lt version below) entry.versions) row else row) entries rows

-- the directories after a change
abbrev pub rows_after : List NameEntry → Change → Option Made → Rows → Rows
rows_after entries (Create name schema) made rows = with_empty name entries rows
rows_after entries (Store name schema plan) made rows = with_made name made (with_absent name schema entries) (with_absent_row name entries rows)
rows_after entries (Insert name schema plan) made rows = with_made name made entries rows
rows_after entries (Remove name) made rows = without_row name entries rows
rows_after entries (RemoveVersions name below) made rows = from_version name below entries rows

-- ---- what is found

-- after a record of the change: the record's pages behind those of the records before
abbrev pub with_record : Found → List ℕ → Change → Option Made → Found
with_record found pages change made = record {
  chain = found.chain;
  logged = found.logged ++ pages ∷ [];
  catalog = after_change found.catalog change (blob_of made);
  directories = rows_after (names_in found.catalog).arrays change made found.directories;
}

-- after a new base: the pages of its chain, and no record
abbrev pub with_base : Found → List ℕ → Change → Option Made → Found
with_base found pages change made = record {
  chain = pages;
  logged = [];
  catalog = after_change found.catalog change (blob_of made);
  directories = rows_after (names_in found.catalog).arrays change made found.directories;
}
