-- What a store keeps besides what contracts see of it, and words for it.
use Rattle.std.specs.Prelude.{◌≡◌, ℕ, ◌+◌, ◌-◌, ◌^◌, ◌≤◌, ◌⊎◌, Bool, true, false, not, ◌||◌, nat_eq, if◌then◌else◌}
use Rattle.std.specs.Prelude.{List, [], ◌∷◌, ◌++◌, length, IfSome, IsTrue}
use Rattle.std.specs.List.{AllByRecursion, filter, flat_map}
use Rattle.cell_values.specs.declared.datum.Row.{Row}
use Rattle.cell_values.specs.declared.schema.Schema.{Schema}
use Rattle.array_geom.specs.Geometry.{has_core}
use Rattle.chunk_map.specs.declared.directory.Directory.{Directory}
use Rattle.chunk_map.specs.Spelling.{IsDirectory}
use Rattle.page_chain.specs.declared.slots.slots.slots.Slots.{Slots}
use Rattle.page_chain.specs.declared.slots.slots.slots.RootSlot.{RootSlot}
use Rattle.page_chain.specs.declared.slots.slots.slots.RootSlot.TheVariants as roots
use Rattle.page_chain.specs.declared.slots.slots.slots.NextEntry.{NextEntry}
use Rattle.page_chain.specs.declared.slots.slots.slots.NextEntry.TheVariants as entries
use Rattle.version_catalog.specs.declared.rules.catalog.Catalog.{Catalog}
use Rattle.version_reaper.specs.PageSets.{holds}
use Rattle.logical_plan.specs.declared.names.Names.{Names}
use Rattle.plan_changes.specs.Changes.{entry_named}
use Rattle.plan_changes.specs.Databases.{Database, names_of, rows_of}
use Rattle.file_meaning.specs.Opening.{all_of, are_pages}
use Rattle.file_meaning.specs.Standing.{HoldsVersion}
use Rattle.event_core.specs.declared.state.VersionPages.{VersionPages}
use Rattle.event_core.specs.History.{History, OpenPin}
use Rattle.event_core.specs.Legal.{has_committed}
use Rattle.store_ledger.specs.declared.note.Note.{Note}
use Rattle.store_ledger.specs.Ledger.{has_note, is_tried, is_fault}
use Rattle.store_versions.specs.declared.row.VersionRow.{VersionRow}
use Rattle.store_versions.specs.Versions.{MadeVersion}

-- what is known of the slots, the catalogue, and the table of versions
pub record Keeping : Type 0 where
  pub slots : Slots
  pub catalog : Catalog
  pub rows : List VersionRow

-- ---- versions

-- a directory of chunks of a schema: it has a spelling, and the core of each chunk holds a coordinate
pub record IsDirectoryOf (schema : Schema) (directory : Directory) : Type 0 where
  pub spelled : IsDirectory (length schema.dimensions) directory
  pub cores : AllByRecursion (λ entry. IsTrue (has_core schema.dimensions entry.at.items)) directory.entries

-- each version's directory is one of its array's schema
abbrev pub AreDirectoriesOf : Names → List MadeVersion → Type 0
AreDirectoriesOf names versions = AllByRecursion (λ v. IfSome (entry_named names.arrays v.name) (λ entry. IsDirectoryOf entry.schema v.directory)) versions

-- the pages of a version have all its payloads'
pub record HasItsPages (pages : VersionPages) (v : MadeVersion) : Type 0 where
  pub name : pages.name ≡ v.name
  pub version : pages.version ≡ v.version
  pub payloads : AllByRecursion (λ page. IsTrue (holds pages.pages page)) (flat_map (λ entry. entry.pages) v.directory.entries)

-- a version of these rows lies in the file, whose pages its payloads' are
pub record LiesIn (file : List ℕ) (schema : Schema) (directory : Directory) (rows : List Row) : Type 0 where
  pub holds : HoldsVersion file schema directory rows
  pub pages : AllByRecursion (λ entry. IsTrue (are_pages file entry.pages)) directory.entries

-- each version lies in the file with the rows that a database has of it
abbrev pub LieIn : List ℕ → Database → List MadeVersion → Type 0
LieIn file db versions = AllByRecursion (λ v. IfSome (entry_named (names_of db).arrays v.name)
    (λ entry. LiesIn file entry.schema v.directory (rows_of db v.name v.version))) versions

-- ---- pages

-- the log page, which a file of format 1 doesn't have
abbrev pub log_pages : ℕ → List ℕ
log_pages log = if nat_eq log 0 then [] else log ∷ []

-- the pages of a catalogue: of the base's chain, the log page, and those of the records
abbrev pub pages_of_catalogue : List ℕ → ℕ → List (List ℕ) → List ℕ
pages_of_catalogue chain log logged = chain ++ log_pages log ++ all_of logged

-- ---- slots

abbrev pub is_opening_root : RootSlot → Bool
is_opening_root roots.Closed = false
is_opening_root roots.Older = false
is_opening_root (roots.Written root) = false
is_opening_root (roots.Opening root) = true

abbrev pub is_opening_entry : NextEntry → Bool
is_opening_entry entries.Closed = false
is_opening_entry (entries.Written at) = false
is_opening_entry (entries.Opening at) = true

-- whether a slot may stand open
abbrev pub is_opening : Slots → Bool
is_opening slots = is_opening_root slots.other || is_opening_entry slots.next

-- ---- notes

-- a commit under an open pin was tried under it
abbrev pub tried_if_committed : History → List Note → OpenPin → Bool
tried_if_committed h notes pin = not (has_committed pin.session h) || has_note is_tried notes pin

-- so many notes of faults are no more than a count has risen by, or it stands at its last value
abbrev pub AreCounted : ℕ → ℕ → List Note → Type 0
AreCounted opened now notes = (opened + length (filter (λ note. is_fault note.kind) notes) ≤ now) ⊎ (2 ^ 64 - 1 ≤ now)
