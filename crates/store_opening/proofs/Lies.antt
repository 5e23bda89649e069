-- The versions that are found lie in the file with the rows of the database that it stands for.
use Rattle.std.proofs.Common.{◌≡◌, ℕ, List, [], ◌∷◌, ◌++◌, map, Option, Some, IfSome, IsTrue, Ok, sym, ◌∙◌, ap, subst}
use Rattle.std.specs.Prelude.{nat_eq, slice_index}
use Rattle.std.specs.List.{AllByRecursion, AllZip, find}
use Rattle.std.proofs.lemmas.List.{map-append}
use Rattle.cell_values.specs.declared.schema.Dimension.{Dimension}
use Rattle.chunk_map.specs.declared.directory.DirEntry.{DirEntry}
use Rattle.chunk_map.specs.declared.directory.Directory.{Directory}
use Rattle.logical_plan.specs.declared.names.NameEntry.{NameEntry}
use Rattle.logical_plan.specs.declared.names.Names.{Names}
use Rattle.plan_changes.specs.Changes.{entry_named}
use Rattle.plan_changes.specs.Databases.{Database, Stored, Version, entry_of, is_array, rows_in, rows_of, rows_or}
use Rattle.plan_changes.specs.Stored.{IsDatabase, IsStored}
use Rattle.version_catalog.specs.declared.rules.catalog.BlobAt.{BlobAt}
use Rattle.version_catalog.specs.declared.rules.catalog.CatalogArray.{CatalogArray}
use Rattle.file_meaning.specs.Slots.{Slots}
use Rattle.file_meaning.specs.Opening.{Listed, Row, Rules, are_pages, directory_from, found_in, payloads_in, row_in, rows_in as found_rows_in, sequence_of}
use Rattle.file_meaning.specs.Standing.{HoldsDatabase, HoldsVersion, HoldsVersions}
use Rattle.file_meaning.specs.declared.meaning.found.Found.{Found}
use Rattle.file_meaning.proofs.Apart.{both_all}
use Rattle.file_meaning.proofs.Elsewhere.{directory_steps, entry_pages, entry_steps, found_steps, row_steps, rows_steps}
use Rattle.store_versions.specs.Rows.{array_rows, first_rows}
use Rattle.store_versions.specs.Seen.{version_of}
use Rattle.store_versions.specs.Versions.{MadeVersion}
use Rattle.store_state.specs.Inner.Keeping.{LieIn, LiesIn}
use Rattle.store_opening.specs.Opened.{versions_of}
use Rattle.store_opening.proofs.Names.{found_each, numbered_each, of_map, stored_each}

-- ---- the payloads' pages are pages of the file

abbrev pub HasPages : List ℕ → Directory → Type 0
HasPages file directory = AllByRecursion (λ entry. IsTrue (are_pages file entry.pages)) directory.entries

entries_there : (file : List ℕ) (sequence : ℕ) (dims : List Dimension) (named : ℕ) (seen entries : List DirEntry) (taken now : List ℕ) → payloads_in file sequence dims named seen taken entries ≡ Ok now
    → AllByRecursion (λ entry. IsTrue (are_pages file entry.pages)) entries
entries_there file sequence dims named seen [] taken now is = tt
entries_there file sequence dims named seen (entry ∷ entries) taken now is =
    let s = entry_steps file sequence dims named seen taken entry entries now is in
    (entry_pages file sequence dims entry s.tested, entries_there file sequence dims named seen entries s.after now s.rest)

directory_there : (file : List ℕ) (rules : Rules) (dims : List Dimension) (seen : List DirEntry) (taken : List ℕ) (at : BlobAt) (listed : Listed) → directory_from file rules dims seen taken at ≡ Ok listed
    → HasPages file listed.directory
directory_there file rules dims seen taken at listed is =
    let s = directory_steps file rules dims seen taken at listed is in
    subst (λ (l : Listed). HasPages file l.directory) s.is (entries_there file rules.sequence dims (slice_index at.pages 0) seen s.directory.entries s.own s.all s.payloads)

row_there : (file : List ℕ) (rules : Rules) (dims : List Dimension) (seen : List DirEntry) (taken : List ℕ) (blobs : List BlobAt) (row : Row) → row_in file rules dims seen taken blobs ≡ Ok row
    → AllByRecursion (HasPages file) row.directories
row_there file rules dims seen taken [] row is =
    let same : record { directories = []; taken = taken } ≡ row = cc in
    subst (λ (r : Row). AllByRecursion (HasPages file) r.directories) same tt
row_there file rules dims seen taken (at ∷ blobs) row is =
    let s = row_steps file rules dims seen taken at blobs row is in
    subst (λ (r : Row). AllByRecursion (HasPages file) r.directories) s.is
    (directory_there file rules dims seen taken at s.first s.found, row_there file rules dims (s.first.directory.entries ++ seen) s.first.taken blobs s.later s.rest)

rows_there : (file : List ℕ) (rules : Rules) (taken : List ℕ) (arrays : List CatalogArray) (rows : List (List Directory)) → found_rows_in file rules taken arrays ≡ Ok rows
    → AllByRecursion (AllByRecursion (HasPages file)) rows
rows_there file rules taken [] rows is =
    let same : [] ≡ rows = cc in
    subst (AllByRecursion (AllByRecursion (HasPages file))) same tt
rows_there file rules taken (array ∷ arrays) rows is =
    let s = rows_steps file rules taken array arrays rows is in
    subst (AllByRecursion (AllByRecursion (HasPages file))) s.is
    (row_there file rules array.entry.schema.dimensions [] taken array.directories s.row s.found, rows_there file rules s.row.taken arrays s.later s.rest)

pub found_there : (file : List ℕ) (slots : Slots) (found : Found) → found_in file slots ≡ Ok found → AllByRecursion (AllByRecursion (HasPages file)) found.directories
found_there file slots found is =
    let s = found_steps file slots found is in
    rows_there file (record { first = slots.current.root.first; sequence = sequence_of slots }) s.logged.taken s.logged.catalog.arrays found.directories s.rows

-- ---- each version with its rows

abbrev Lies : List ℕ → List NameEntry → Database → MadeVersion → Type 0
Lies file all db v = IfSome (entry_named all v.name) (λ entry. LiesIn file entry.schema v.directory (rows_of db v.name v.version))

array_lies : (file : List ℕ) (all : List NameEntry) (db : Database) (a : Stored) → entry_named all a.name ≡ Some (entry_of a) → find (is_array a.name) db ≡ Some a
    → (versions : List Version) → AllByRecursion (λ v. find (λ w. nat_eq w.number v.number) a.versions ≡ Some v) versions → (row : List Directory)
    → AllZip (λ (v : Version) (directory : Directory). HoldsVersion file a.schema directory v.rows) versions row → AllByRecursion (HasPages file) row
    → AllByRecursion (Lies file all db) (map version_of (array_rows a.name (map (λ (v : Version). v.number) versions) row))
array_lies file all db a named stored [] numbered row hold there = tt
array_lies file all db a named stored (v ∷ versions) numbered [] hold there = tt
array_lies file all db a named stored (v ∷ versions) numbered (directory ∷ row) hold there =
    let rows_are : rows_of db a.name v.number ≡ v.rows = ap (λ (o : Option Stored). rows_in o v.number) stored ∙ ap rows_or numbered.0 in
    let lies : LiesIn file a.schema directory (rows_of db a.name v.number) = record { holds = subst (HoldsVersion file a.schema directory) (sym rows_are) hold.0; pages = there.0 } in (
      subst (λ (o : Option NameEntry). IfSome o (λ entry. LiesIn file entry.schema directory (rows_of db a.name v.number))) (sym named) lies,
      array_lies file all db a named stored versions numbered.1 row hold.1 there.1,
    )

arrays_lie : (file : List ℕ) (all : List NameEntry) (db arrays : Database) → AllByRecursion (λ a. entry_named all a.name ≡ Some (entry_of a)) arrays → AllByRecursion (λ a. find (is_array a.name) db ≡ Some a) arrays
    → AllByRecursion (λ a. IsStored (entry_of a)) arrays → (rows : List (List Directory)) → AllZip (HoldsVersions file) arrays rows → AllByRecursion (AllByRecursion (HasPages file)) rows
    → AllByRecursion (Lies file all db) (map version_of (first_rows (map entry_of arrays) rows))
arrays_lie file all db [] named stored rise rows hold there = tt
arrays_lie file all db (a ∷ arrays) named stored rise [] hold there = tt
arrays_lie file all db (a ∷ arrays) named stored rise (row ∷ rows) hold there =
    let numbers = map (λ (v : Version). v.number) a.versions in
    let first = array_lies file all db a named.0 stored.0 a.versions (numbered_each 0 a.next a.versions rise.0.versions) row hold.0 there.0 in
    subst (AllByRecursion (Lies file all db)) (sym (map-append version_of (array_rows a.name numbers row) (first_rows (map entry_of arrays) rows)))
    (both_all (Lies file all db) (map version_of (array_rows a.name numbers row)) (map version_of (first_rows (map entry_of arrays) rows)) first (arrays_lie file all db arrays named.1 stored.1 rise.1 rows hold.1 there.1))

pub versions_lie : (file : List ℕ) (slots : Slots) (db : Database) (found : Found) → IsDatabase db → found_in file slots ≡ Ok found → HoldsDatabase file db found → LieIn file db (versions_of found)
versions_lie file slots db found is opens held =
    let all = map entry_of db in
    let named = of_map (λ (e : NameEntry). entry_named all e.name ≡ Some e) entry_of db (found_each all is.names.rising) in
    let lies = arrays_lie file all db db named (stored_each db is.names.rising) (of_map IsStored entry_of db is.names.each) found.directories held.versions (found_there file slots found opens) in
    subst (λ (names : Names). LieIn file db (map version_of (first_rows names.arrays found.directories))) (sym held.names) lies
