-- The directories of an array, one after the other.
use Rattle.std.specs.Prelude.{ℕ, ◌+◌, List, [], ◌∷◌, ◌++◌, Result, Ok, IsTrue}
use Rattle.std.specs.List.{AllByRecursion, AllZip}
use Rattle.cell_values.specs.declared.schema.Dimension.{Dimension}
use Rattle.file_items.specs.Items.{◌>>=◌}
use Rattle.chunk_map.specs.declared.directory.DirEntry.{DirEntry}
use Rattle.chunk_map.specs.declared.directory.Directory.{Directory}
use Rattle.version_catalog.specs.declared.rules.catalog.BlobAt.{BlobAt}
use Rattle.version_catalog.specs.declared.rules.catalog.CatalogArray.{CatalogArray}
use Rattle.file_meaning.specs.Opening.{Listed, Row, Rules}
use Rattle.file_reading.specs.Reading.{HaveCores, is_beside}
use Rattle.file_reading.specs.declared.base.Base.{Base}

-- what directories are tested by where the file has this base
abbrev pub rules_of : Base → Rules
rules_of base = record { first = base.first; sequence = base.sequence + base.records }

-- the entries of these directories before some others, those of the last one first
abbrev pub entries_of : List DirEntry → List Directory → List DirEntry
entries_of seen [] = seen
entries_of seen (directory ∷ later) = entries_of (directory.entries ++ seen) later

abbrev pub listed : Directory → List ℕ → Listed
listed directory taken = record { directory = directory; taken = taken }

abbrev pub rowed : List Directory → List ℕ → Row
rowed directories taken = record { directories = directories; taken = taken }

-- directories that were read before others
abbrev pub behind_row : List Directory → Result Row ℕ → Result Row ℕ
behind_row before step = step >>= λ later. Ok (rowed (before ++ later.directories) later.taken)

-- the same of rows of directories
abbrev pub behind_rows : List (List Directory) → Result (List (List Directory)) ℕ → Result (List (List Directory)) ℕ
behind_rows before step = step >>= λ later. Ok (before ++ later)

-- ---- pages beside others

abbrev pub AreBeside : List ℕ → List ℕ → Type 0
AreBeside others pages = AllByRecursion (λ page. IsTrue (is_beside others page)) pages

abbrev pub ArePaidBeside : List ℕ → List DirEntry → Type 0
ArePaidBeside others entries = AllByRecursion (λ entry. AreBeside others entry.pages) entries

-- the pages of a directory and of its payloads are beside others, and each of its chunks has a core
pub record IsBeside (others : List ℕ) (dims : List Dimension) (at : BlobAt) (directory : Directory) : Type 0 where
  pub own : AreBeside others at.pages
  pub paid : ArePaidBeside others directory.entries
  pub cores : HaveCores dims directory

-- so it is with all directories of an array
abbrev pub IsRowBeside : List ℕ → CatalogArray → List Directory → Type 0
IsRowBeside others array row = AllZip (IsBeside others array.entry.schema.dimensions) array.directories row
