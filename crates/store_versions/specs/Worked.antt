-- A worked table: the directories of the two versions of A that the worked list with a shared page makes.
use Rattle.std.specs.Prelude.{ℕ, nat_eq, if◌then◌else◌, List, [], ◌∷◌, codes, None, Some}
use Rattle.chunk_map.specs.declared.directory.DirEntry.{DirEntry}
use Rattle.chunk_map.specs.declared.directory.Directory.{Directory}
use Rattle.store_versions.specs.declared.row.VersionRow.{VersionRow}
use Rattle.store_versions.specs.Versions.{Directories, MadeVersion}

abbrev entry : ℕ → ℕ → ℕ → DirEntry
entry number birth page = record { at = record { items = number ∷ [] }; length = 49; birth = birth; pages = page ∷ [] }

-- both chunks of the first version are its own; the second version has the first chunk of it
abbrev pub first_directory : Directory
first_directory = record { entries = entry 0 1 3 ∷ entry 1 1 4 ∷ [] }

abbrev pub second_directory : Directory
second_directory = record { entries = entry 0 1 3 ∷ entry 1 2 7 ∷ [] }

-- the store of A is the entry 1, the insert the entry 5
abbrev pub worked_directories : Directories
worked_directories = record { first = []; made = λ place. if nat_eq place 1 then first_directory else second_directory }

abbrev pub first_version : MadeVersion
first_version = record { name = codes "A"; version = 1; directory = first_directory }

abbrev pub second_version : MadeVersion
second_version = record { name = codes "A"; version = 2; directory = second_directory }

-- the removal of the version 1 is the entry 8
abbrev pub worked_rows : List VersionRow
worked_rows =
    record { name = codes "A"; version = 1; made = 2; gone = Some 9; directory = first_directory }
    ∷ record { name = codes "A"; version = 2; made = 6; gone = None; directory = second_directory }
    ∷ []
