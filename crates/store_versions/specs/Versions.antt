-- Versions with their directories, and what a history makes of them.
use Rattle.std.specs.Prelude.{◌≡◌, ℕ, Bool, not, ◌&&◌, nat_eq, nat_lt, List, [], ◌∷◌, ◌++◌, length, Option}
use Rattle.std.specs.List.{filter, find, list_any}
use Rattle.std.specs.Option.{option_map}
use Rattle.std.specs.Str.{bytes_eq}
use Rattle.plan_changes.specs.Names.{Names}
use Rattle.plan_changes.specs.declared.change.Change.{Change}
use Rattle.plan_changes.specs.declared.change.Change.TheVariants.{Create, Store, Insert, Remove, RemoveVersions}
use Rattle.plan_changes.specs.Changes.{next_of}
use Rattle.chunk_map.specs.declared.directory.Directory.{Directory}
use Rattle.event_core.specs.declared.entry.Entry.TheVariants.{Pin, Unpin, Commit, Reap}
use Rattle.event_core.specs.declared.state.Core.{Core}
use Rattle.event_core.specs.Agree.{can_name}
use Rattle.event_core.specs.History.{History, names_at}

-- a version of an array, with the directory that it was made with
pub record MadeVersion : Type 0 where
  pub name : List ℕ
  pub version : ℕ
  pub directory : Directory

-- the directories that a history's versions are made with: those of the versions at the base, and of each commit by its place
pub record Directories : Type 0 where
  pub first : List MadeVersion
  pub made : ℕ → Directory

-- whether a version is one of an array, and of a number
abbrev pub is_of : List ℕ → MadeVersion → Bool
is_of name v = bytes_eq v.name name

abbrev pub is_numbered : List ℕ → ℕ → MadeVersion → Bool
is_numbered name number v = is_of name v && nat_eq v.version number

-- the versions after a change: a new one has this directory
abbrev pub versions_after : Names → Change → Directory → List MadeVersion → List MadeVersion
versions_after names (Create name schema) directory versions = versions
versions_after names (Store name schema plan) directory versions =
    versions ++ record { name = name; version = next_of names.arrays name; directory = directory } ∷ []
versions_after names (Insert name schema plan) directory versions =
    versions ++ record { name = name; version = next_of names.arrays name; directory = directory } ∷ []
versions_after names (Remove name) directory versions = filter (λ v. not (is_of name v)) versions
versions_after names (RemoveVersions name below) directory versions = filter (λ v. not (is_of name v && nat_lt v.version below)) versions

-- the versions that can be named after a history, in the order in which they came
abbrev pub versions_at : Core → Directories → History → List MadeVersion
versions_at base given [] = given.first
versions_at base given (Commit session change used ∷ before) =
    versions_after (names_at base before) change (given.made (length before)) (versions_at base given before)
versions_at base given (Pin session ∷ before) = versions_at base given before
versions_at base given (Unpin session ∷ before) = versions_at base given before
versions_at base given (Reap ∷ before) = versions_at base given before

-- the directory of a version, or none
abbrev pub directory_of : List ℕ → ℕ → List MadeVersion → Option Directory
directory_of name number versions = option_map (λ v. v.directory) (find (is_numbered name number) versions)

-- each version that can be named has a directory, and no other has
abbrev pub HaveDirectories : Names → List MadeVersion → Type 0
HaveDirectories names versions = (name : List ℕ) (number : ℕ) → can_name names name number ≡ list_any (is_numbered name number) versions
