-- What holds of tables of versions.
use Rattle.std.specs.Prelude.{◌≡◌, ◌≤◌, ℕ, List, [], ◌∷◌, length, map, Some, nat_eq, if◌then◌else◌, IsTrue}
use Rattle.plan_changes.specs.Names.{Names}
use Rattle.plan_changes.specs.declared.change.Change.{Change}
use Rattle.chunk_map.specs.declared.directory.Directory.{Directory}
use Rattle.event_core.specs.declared.entry.Used.{Used}
use Rattle.event_core.specs.declared.entry.Entry.TheVariants.{Pin, Unpin, Commit, Reap}
use Rattle.event_core.specs.declared.state.Core.{Core}
use Rattle.event_core.specs.Allowed.{is_allowed}
use Rattle.event_core.specs.History.{History, names_at, pin_before}
use Rattle.event_core.specs.Legal.{IsOrdered}
use Rattle.store_versions.specs.declared.row.VersionRow.{VersionRow}
use Rattle.store_versions.specs.Rows.{rows_after, needed_rows, places_at, first_rows}
use Rattle.store_versions.specs.Seen.{version_of, seen, AreSeen}
use Rattle.store_versions.specs.Versions.{Directories, versions_at, HaveDirectories}

-- one more entry: a commit changes the rows by its change and its directory, the others leave them
pub record EntriesAreSeen (given : Directories) (rows : List VersionRow) (base : Core) (h : History) : Type 0 where
  pub pin : (session : ℕ) → AreSeen given rows base (Pin session ∷ h)
  pub unpin : (session : ℕ) → AreSeen given rows base (Unpin session ∷ h)
  pub commit : (session : ℕ) (change : Change) (used : Used) →
      AreSeen given (rows_after (names_at base h) (length h) change (given.made (length h)) rows) base (Commit session change used ∷ h)
  pub reap : AreSeen given rows base (Reap ∷ h)

abbrev pub TablesFollowEntries : Type 0
TablesFollowEntries = (given : Directories) (rows : List VersionRow) (base : Core) (h : History) → AreSeen given rows base h → EntriesAreSeen given rows base h

-- the rows that nobody can name any more may go
abbrev pub ForgettingIsSeen : Type 0
ForgettingIsSeen = (given : Directories) (rows : List VersionRow) (base : Core) (h : History) → AreSeen given rows base h →
    AreSeen given (needed_rows (places_at h) rows) base h

-- at the opening
abbrev pub BasesAreSeen : Type 0
BasesAreSeen = (given : Directories) (base : Core) (directories : List (List Directory)) →
    given.first ≡ map version_of (first_rows base.names.arrays directories) →
    AreSeen given (first_rows base.names.arrays directories) base []

-- where each array has as many directories as versions, each version that can be named has one
abbrev pub BasesHaveDirectories : Type 0
BasesHaveDirectories = (names : Names) (directories : List (List Directory)) →
    map (λ entry. length entry.versions) names.arrays ≡ map (λ row. length row) directories →
    HaveDirectories names (map version_of (first_rows names.arrays directories))

-- the directories of commits that come later may be any
abbrev pub with_made : ℕ → Directory → Directories → Directories
with_made place directory given = record given { made = λ other. if nat_eq other place then directory else given.made other }

abbrev pub LaterDirectoriesAreFree : Type 0
LaterDirectoriesAreFree = (given : Directories) (rows : List VersionRow) (base : Core) (h : History) (place : ℕ) (directory : Directory) →
    length h ≤ place → AreSeen given rows base h → AreSeen (with_made place directory given) rows base h

-- what a session's open pin sees
abbrev pub PinsSeeTheirVersions : Type 0
PinsSeeTheirVersions = (given : Directories) (rows : List VersionRow) (base : Core) (h before : History) (session : ℕ) →
    IsTrue (is_allowed base h) → AreSeen given rows base h → pin_before session h ≡ Some before → seen (length before) rows ≡ versions_at base given before

-- after an ordered history each version that can be named has a directory, and no other, if it is so at its base
abbrev pub NamedVersionsHaveDirectories : Type 0
NamedVersionsHaveDirectories = (given : Directories) (base : Core) (h : History) → IsOrdered base h → HaveDirectories base.names given.first →
    HaveDirectories (names_at base h) (versions_at base given h)
