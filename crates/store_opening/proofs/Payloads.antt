-- The payloads that are listed as a file is opened are there, and have the bytes of then.
use Rattle.std.proofs.Common.{◌≡◌, ℕ, suc, ◌<◌, inr, List, [], ◌∷◌, length, map, Option, None, Some, IfSome, IsTrue, Ok, refl, sym, subst, arith}
use Rattle.std.specs.Prelude.{Contains}
use Rattle.std.specs.List.{AllByRecursion}
use Rattle.std.proofs.lemmas.List.{map-append}
use Rattle.cell_values.specs.declared.schema.Schema.{Schema}
use Rattle.chunk_map.specs.declared.directory.DirEntry.{DirEntry}
use Rattle.chunk_map.specs.declared.directory.Directory.{Directory}
use Rattle.logical_plan.specs.declared.names.NameEntry.{NameEntry}
use Rattle.logical_plan.specs.declared.names.Names.{Names}
use Rattle.plan_changes.specs.Changes.{entry_named}
use Rattle.version_catalog.specs.Catalogs.{names_in}
use Rattle.file_meaning.specs.Slots.{Slots}
use Rattle.file_meaning.specs.Opening.{are_pages, found_in}
use Rattle.file_meaning.specs.declared.meaning.found.Found.{Found}
use Rattle.file_meaning.proofs.Apart.{both_all}
use Rattle.store_versions.specs.Rows.{array_rows, first_rows}
use Rattle.store_versions.specs.Seen.{version_of}
use Rattle.store_versions.specs.Versions.{MadeVersion}
use Rattle.store_state.specs.Payloads.{HasItsPayloads, HasPayload, HavePayloads}
use Rattle.store_opening.specs.Opened.{versions_of}
use Rattle.store_opening.proofs.Lies.{HasPages, found_there}

-- ---- each version's directory

of_array : (P : Directory → Type 0) (name : List ℕ) (numbers : List ℕ) (row : List Directory) → AllByRecursion P row → AllByRecursion (λ (v : MadeVersion). P v.directory) (map version_of (array_rows name numbers row))
of_array P name [] row all = tt
of_array P name (n ∷ numbers) [] all = tt
of_array P name (n ∷ numbers) (directory ∷ row) all = (all.0, of_array P name numbers row all.1)

of_arrays : (P : Directory → Type 0) (arrays : List NameEntry) (rows : List (List Directory)) → AllByRecursion (AllByRecursion P) rows
    → AllByRecursion (λ (v : MadeVersion). P v.directory) (map version_of (first_rows arrays rows))
of_arrays P [] rows all = tt
of_arrays P (entry ∷ arrays) [] all = tt
of_arrays P (entry ∷ arrays) (row ∷ rows) all =
    let Q : MadeVersion → Type 0 = λ v. P v.directory in
    subst (AllByRecursion Q) (sym (map-append version_of (array_rows entry.name entry.versions row) (first_rows arrays rows)))
    (both_all Q (map version_of (array_rows entry.name entry.versions row)) (map version_of (first_rows arrays rows)) (of_array P entry.name entry.versions row all.0) (of_arrays P arrays rows all.1))

-- ---- what is listed

first_in : {A : Type 0} (x : A) (xs : List A) → Contains (x ∷ xs) x
first_in x xs = (0, omega arith, refl)

later_in : {A : Type 0} (x y : A) (xs : List A) → Contains xs y → Contains (x ∷ xs) y
later_in x y xs c = (suc c.0, (let lt = c.1 in omega (arith, lt)), c.2)

module _ (first : List MadeVersion) (file : List ℕ) where
  entries_had : (schema : Schema) (v : MadeVersion) → Contains first v → (entries : List DirEntry) → ((e : DirEntry) → Contains entries e → Contains v.directory.entries e)
      → AllByRecursion (λ e. IsTrue (are_pages file e.pages)) entries → AllByRecursion (HasPayload first file file schema) entries
  entries_had schema v made [] lists are = tt
  entries_had schema v made (e ∷ entries) lists are = (
    record { pages = are.0; bytes = inr (record { listed = record { version = v; made = made; lists = lists e (first_in e entries) }; same = refl }) },
    entries_had schema v made entries (λ d c. lists d (later_in e d entries c)) are.1,
  )

  by_entry : (o : Option NameEntry) (directory : Directory) → ((schema : Schema) → HasItsPayloads first file file schema directory) → IfSome o (λ entry. HasItsPayloads first file file entry.schema directory)
  by_entry None directory each = tt
  by_entry (Some entry) directory each = each entry.schema

  versions_had : (names : Names) (versions : List MadeVersion) → ((v : MadeVersion) → Contains versions v → Contains first v) → AllByRecursion (λ v. HasPages file v.directory) versions
      → HavePayloads first file file names versions
  versions_had names [] made are = tt
  versions_had names (v ∷ versions) made are = (
    by_entry (entry_named names.arrays v.name) v.directory (λ schema. entries_had schema v (made v (first_in v versions)) v.directory.entries (λ e c. c) are.0),
    versions_had names versions (λ w c. made w (later_in v w versions c)) are.1,
  )

-- those that are found are the opened file's own
pub found_payloads : (file : List ℕ) (slots : Slots) (found : Found) → found_in file slots ≡ Ok found → HavePayloads (versions_of found) file file (names_in found.catalog) (versions_of found)
found_payloads file slots found is =
    versions_had (versions_of found) file (names_in found.catalog) (versions_of found) (λ v c. c)
    (of_arrays (HasPages file) (names_in found.catalog).arrays found.directories (found_there file slots found is))
