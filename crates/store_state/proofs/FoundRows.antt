-- Each directory that is found is of its version's rows, and lies in a blob like the one that these cost.
use Rattle.std.proofs.Common.{◌≡◌, ◌<◌, ◌^◌, ℕ, true, List, [], ◌∷◌, ◌++◌, map, length, slice_index, Ok, sym, ap, subst, ◌∙◌, arith}
use Rattle.std.specs.Prelude.{None, ◌&&◌, nat_le}
use Rattle.std.specs.List.{AllByRecursion, AllZip}
use Rattle.cell_values.specs.declared.datum.Row.{Row}
use Rattle.cell_values.specs.declared.schema.Schema.{Schema}
use Rattle.cell_values.specs.Schemas.{IsValid}
use Rattle.array_rows.specs.Arrays.{AreRowsOf}
use Rattle.array_geom.specs.Geometry.{has_core}
use Rattle.array_geom.specs.Link.{has_cell}
use Rattle.array_geom.proofs.NearLemmas.{stored_frame}
use Rattle.file_items.specs.Pages.{pages_needed}
use Rattle.file_items.proofs.BytesLaws.{ok_is}
use Rattle.page_chain.specs.Pages.{page_size, blob, first_past}
use Rattle.chunk_rle.specs.Frames.{frame_of}
use Rattle.chunk_map.specs.declared.directory.DirEntry.{DirEntry}
use Rattle.chunk_map.specs.declared.directory.Directory.{Directory}
use Rattle.chunk_map.specs.Entries.{AreRising, numbers}
use Rattle.chunk_map.specs.Table.{directory_in}
use Rattle.logical_plan.specs.Typing.{AreSound}
use Rattle.logical_plan.specs.declared.names.NameEntry.{NameEntry}
use Rattle.plan_changes.specs.Databases.{Database, Stored, Version, HoldsArrays, entry_of}
use Rattle.version_catalog.specs.declared.rules.catalog.BlobAt.{BlobAt}
use Rattle.version_catalog.specs.declared.rules.catalog.CatalogArray.{CatalogArray}
use Rattle.version_catalog.specs.Catalogs.{IsBlob, HasDirectories}
use Rattle.file_meaning.specs.Opening.{are_pages, payloads_in, Listed, Rules, directory_from, Row as FoundRow, row_in, rows_in}
use Rattle.file_meaning.specs.Standing.{stored_chunk, HoldsPart, HoldsVersion, HoldsVersions}
use Rattle.file_meaning.proofs.Steps.{blamed_ok}
use Rattle.file_meaning.proofs.Parts.{both_true, pages_there, claimed_there}
use Rattle.file_meaning.proofs.Elsewhere.{entry_steps, entry_pages, directory_steps, row_steps, rows_steps}
use Rattle.commit_pages.specs.Costs.{directory_of}
use Rattle.commit_pages.specs.Lengths.{AreListed, HasItsLength, AreAlike, AreAlikeArrays}
use Rattle.commit_pages.proofs.CountingLengths.{directories_are_alike}
use Rattle.commit_pages.specs.Laws.{IsOfRows}
use Rattle.store_state.proofs.CostsBlobs.{blob_size}
use Rattle.store_state.specs.SizesLaws.{IsListedEntry}
use Rattle.store_state.proofs.SizesDirectories.{directory_taken}
use Rattle.store_state.proofs.Payloads.{payload_size}

abbrev pub IsOf : Schema → List Row → Directory → Type 0
IsOf schema rows directory = AreRowsOf schema rows × IsOfRows schema rows directory

-- ---- entries

entry_told : (file : List ℕ) (schema : Schema) (rows : List Row) (entry : DirEntry) → IsValid schema → has_core schema.dimensions entry.at.items ≡ true → first_past page_size file entry.pages ≡ None
    → length entry.pages ≡ pages_needed entry.length → HoldsPart file schema rows entry → HasItsLength schema rows entry
entry_told file schema rows entry valid core there count holds =
    let framed = stored_frame schema entry.at.items valid core in
    let places = framed.places in
    let narrow : (frame_of schema entry.at.items).volume < 2 ^ 64 = omega (arith, places) in
    let bytes = blob page_size file entry.pages entry.length in
    record {
      bytes = sym (blob_size file entry.pages entry.length there count)
          ∙ payload_size (frame_of schema entry.at.items) entry.at schema.attributes bytes (stored_chunk schema rows entry.at.items) narrow holds;
      pages = count;
    }

entries_told : (file : List ℕ) (sequence : ℕ) (schema : Schema) (rows : List Row) (named : ℕ) (seen : List DirEntry) → IsValid schema → (entries : List DirEntry) (taken now : List ℕ)
    → payloads_in file sequence schema.dimensions named seen taken entries ≡ Ok now → AllByRecursion (IsListedEntry (length schema.dimensions)) entries → AllByRecursion (HoldsPart file schema rows) entries
    → AllByRecursion (HasItsLength schema rows) entries
entries_told file sequence schema rows named seen valid [] taken now is each held = tt
entries_told file sequence schema rows named seen valid (e ∷ entries) taken now is each held =
    let s = entry_steps file sequence schema.dimensions named seen taken e entries now is in
    let core = (both_true (has_core schema.dimensions e.at.items) (nat_le e.birth sequence && are_pages file e.pages) s.tested).0 in
    let there = pages_there file e.pages (entry_pages file sequence schema.dimensions e s.tested) in
    (entry_told file schema rows e valid core there each.0.count held.0, entries_told file sequence schema rows named seen valid entries s.after now s.rest each.1 held.1)

all_sized : (dims : ℕ) (entries : List DirEntry) → AllByRecursion (IsListedEntry dims) entries → AllByRecursion (λ k. length k ≡ dims) (numbers entries)
all_sized dims [] each = tt
all_sized dims (e ∷ entries) each = (each.0.sized, all_sized dims entries each.1)

-- ---- directories

record IsTold (schema : Schema) (rows : List Row) (at : BlobAt) (directory : Directory) : Type 0 where
  alike : IsBlob at → AreAlike at (directory_of schema rows)
  of_rows : IsOfRows schema rows directory

directory_told : (file : List ℕ) (rules : Rules) (schema : Schema) (rows : List Row) (seen : List DirEntry) (taken : List ℕ) (at : BlobAt) (listed : Listed) → AreRowsOf schema rows → AreRising listed.directory.entries
    → directory_from file rules schema.dimensions seen taken at ≡ Ok listed → HoldsVersion file schema listed.directory rows → IsTold schema rows at listed.directory
directory_told file rules schema rows seen taken at listed are rise is holds =
    let dims = schema.dimensions in
    let bytes = blob page_size file at.pages at.length in
    let s = directory_steps file rules dims seen taken at listed is in
    let same : s.directory ≡ listed.directory = ap (λ (l : Listed). l.directory) s.is in
    let rising : AreRising s.directory.entries = subst (λ (d : Directory). AreRising d.entries) (sym same) rise in
    let held : HoldsVersion file schema s.directory rows = subst (λ (d : Directory). HoldsVersion file schema d rows) (sym same) holds in
    let read = directory_taken (length dims) bytes s.directory (blamed_ok (slice_index at.pages 0) (directory_in (length dims) bytes) s.directory s.read) in
    let there = claimed_there file rules.first at.pages taken s.own s.claims in
    let all : AreListed dims (has_cell dims rows) (numbers s.directory.entries) = record { rising = rising; sized = all_sized (length dims) s.directory.entries read.each; listed = held.listed } in
    let lengths = entries_told file rules.sequence schema rows (slice_index at.pages 0) seen are.valid s.directory.entries s.own s.all s.payloads read.each held.payloads in
    subst (IsTold schema rows at) same (record {
      alike = λ own. directories_are_alike schema rows s.directory.entries at are all lengths own (sym (blob_size file at.pages at.length there own.count.0) ∙ read.size);
      of_rows = record { listed = all; lengths = lengths };
    })

-- ---- the versions of an array

abbrev HasRows : Schema → Version → Type 0
HasRows schema v = AreRowsOf schema v.rows × AreSound schema v.rows

abbrev Rises : Directory → Type 0
Rises directory = AreRising directory.entries

abbrev Holds : List ℕ → Schema → Version → Directory → Type 0
Holds file schema v directory = HoldsVersion file schema directory v.rows

abbrev pub IsOfVersion : Schema → Version → Directory → Type 0
IsOfVersion schema v directory = IsOf schema v.rows directory

record RowIsTold (schema : Schema) (blobs : List BlobAt) (versions : List Version) (row : List Directory) : Type 0 where
  alike : AllByRecursion IsBlob blobs → AllZip AreAlike blobs (map (λ v. directory_of schema v.rows) versions)
  of_rows : AllZip (IsOfVersion schema) versions row

row_told : (file : List ℕ) (rules : Rules) (schema : Schema) (blobs : List BlobAt) (seen : List DirEntry) (taken : List ℕ) (row : FoundRow) (versions : List Version) → AllByRecursion (HasRows schema) versions
    → AllByRecursion Rises row.directories → row_in file rules schema.dimensions seen taken blobs ≡ Ok row → AllZip (Holds file schema) versions row.directories → RowIsTold schema blobs versions row.directories
row_told file rules schema [] seen taken row [] has rise is zip =
    let none : [] ≡ row.directories = ap (λ (r : FoundRow). r.directories) (ok_is (record { directories = []; taken = taken }) row is) in
    subst (RowIsTold schema [] []) none (record { alike = λ own. tt; of_rows = tt })
row_told file rules schema [] seen taken row (v ∷ versions) has rise is zip =
    let none : [] ≡ row.directories = ap (λ (r : FoundRow). r.directories) (ok_is (record { directories = []; taken = taken }) row is) in
    absurd (subst (AllZip (Holds file schema) (v ∷ versions)) (sym none) zip)
row_told file rules schema (at ∷ blobs) seen taken row [] has rise is zip =
    let s = row_steps file rules schema.dimensions seen taken at blobs row is in
    let some : s.first.directory ∷ s.later.directories ≡ row.directories = ap (λ (r : FoundRow). r.directories) s.is in
    absurd (subst (AllZip (Holds file schema) []) (sym some) zip)
row_told file rules schema (at ∷ blobs) seen taken row (v ∷ versions) has rise is zip =
    let s = row_steps file rules schema.dimensions seen taken at blobs row is in
    let some : s.first.directory ∷ s.later.directories ≡ row.directories = ap (λ (r : FoundRow). r.directories) s.is in
    let held : AllZip (Holds file schema) (v ∷ versions) (s.first.directory ∷ s.later.directories) = subst (AllZip (Holds file schema) (v ∷ versions)) (sym some) zip in
    let rising : AllByRecursion Rises (s.first.directory ∷ s.later.directories) = subst (AllByRecursion Rises) (sym some) rise in
    let first = directory_told file rules schema v.rows seen taken at s.first has.0.0 rising.0 s.found held.0 in
    let more = row_told file rules schema blobs (s.first.directory.entries ++ seen) s.first.taken s.later versions has.1 rising.1 s.rest held.1 in
    subst (RowIsTold schema (at ∷ blobs) (v ∷ versions)) some
    (record { alike = λ own. (first.alike own.0, more.alike own.1); of_rows = ((has.0.0, first.of_rows), more.of_rows) })

-- ---- the arrays

abbrev own_array : Stored → CatalogArray
own_array a = record { entry = entry_of a; directories = map (λ v. directory_of a.schema v.rows) a.versions }

abbrev pub AreOfArray : Stored → List Directory → Type 0
AreOfArray a row = AllZip (IsOfVersion a.schema) a.versions row

pub record AreTold (arrays : List CatalogArray) (db : Database) (rows : List (List Directory)) : Type 0 where
  pub alike : AllByRecursion HasDirectories arrays → AllZip AreAlikeArrays arrays (map own_array db)
  pub of_rows : AllZip AreOfArray db rows

pub rows_told : (file : List ℕ) (rules : Rules) (arrays : List CatalogArray) (taken : List ℕ) (rows : List (List Directory)) (db : Database) → map (λ array. array.entry) arrays ≡ map entry_of db → HoldsArrays db
    → AllByRecursion (AllByRecursion Rises) rows → rows_in file rules taken arrays ≡ Ok rows → AllZip (HoldsVersions file) db rows → AreTold arrays db rows
rows_told file rules [] taken rows [] names has rise is zip = subst (AreTold [] []) (ok_is [] rows is) (record { alike = λ own. tt; of_rows = tt })
rows_told file rules [] taken rows (a ∷ db) names has rise is zip = absurd cc
rows_told file rules (array ∷ arrays) taken rows [] names has rise is zip = absurd cc
rows_told file rules (array ∷ arrays) taken rows (a ∷ db) names has rise is zip =
    let s = rows_steps file rules taken array arrays rows is in
    let entry : array.entry ≡ entry_of a = cc in
    let others : map (λ (x : CatalogArray). x.entry) arrays ≡ map entry_of db = cc in
    let found : row_in file rules a.schema.dimensions [] taken array.directories ≡ Ok s.row
    = subst (λ (e : NameEntry). row_in file rules e.schema.dimensions [] taken array.directories ≡ Ok s.row) entry s.found in
    let held : AllZip (HoldsVersions file) (a ∷ db) (s.row.directories ∷ s.later) = subst (AllZip (HoldsVersions file) (a ∷ db)) (sym s.is) zip in
    let rising : AllByRecursion (AllByRecursion Rises) (s.row.directories ∷ s.later) = subst (AllByRecursion (AllByRecursion Rises)) (sym s.is) rise in
    let first = row_told file rules a.schema array.directories [] taken s.row a.versions has.0 rising.0 found held.0 in
    let more = rows_told file rules arrays s.row.taken s.later db others has.1 rising.1 s.rest held.1 in
    subst (AreTold (array ∷ arrays) (a ∷ db)) s.is
    (record { alike = λ own. (record { entry = entry; directories = first.alike own.0.blobs }, more.alike own.1); of_rows = (first.of_rows, more.of_rows) })
