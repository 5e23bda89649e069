-- The payloads of a file that stands for a database pass.
use Rattle.std.proofs.Common.{◌≡◌, ℕ, List, [], ◌∷◌, map, length, Result, sym, ap, subst}
use Rattle.std.specs.List.{AllByRecursion, AllZip}
use Rattle.cell_values.specs.declared.schema.Schema.{Schema}
use Rattle.array_rows.specs.Arrays.{AreRowsOf}
use Rattle.logical_plan.specs.Typing.{AreSound}
use Rattle.logical_plan.specs.declared.names.NameEntry.{NameEntry}
use Rattle.logical_plan.specs.declared.names.Names.{Names}
use Rattle.plan_changes.specs.Databases.{Database, Version, HoldsArrays, entry_of}
use Rattle.plan_changes.specs.Stored.{AreStored}
use Rattle.chunk_map.specs.declared.directory.DirEntry.{DirEntry}
use Rattle.chunk_map.specs.declared.directory.Directory.{Directory}
use Rattle.chunk_map.specs.Entries.{AreRising}
use Rattle.version_catalog.specs.declared.rules.catalog.CatalogArray.{CatalogArray}
use Rattle.file_meaning.specs.Standing.{HoldsVersion, HoldsVersions, HoldsFound, HoldsDatabase}
use Rattle.file_meaning.specs.declared.meaning.found.Found.{Found}
use Rattle.file_checking.specs.Checking.{pieces_in, AreOfBytes, PassesVersion, StandingFilesPass}
use Rattle.file_checking.proofs.Checked.{held_versions_check}

zip_map : {A B C : Type 0} (P : B → C → Type 0) (f : A → B) (xs : List A) (cs : List C) → AllZip P (map f xs) cs → AllZip (λ x c. P (f x) c) xs cs
zip_map P f [] [] all = tt
zip_map P f [] (c ∷ cs) all = absurd all
zip_map P f (x ∷ xs) [] all = absurd all
zip_map P f (x ∷ xs) (c ∷ cs) all = (all.0, zip_map P f xs cs all.1)

map_zip : {A B C : Type 0} (P : B → C → Type 0) (f : A → B) (xs : List A) (cs : List C) → AllZip (λ x c. P (f x) c) xs cs → AllZip P (map f xs) cs
map_zip P f [] [] all = tt
map_zip P f [] (c ∷ cs) all = absurd all
map_zip P f (x ∷ xs) [] all = absurd all
map_zip P f (x ∷ xs) (c ∷ cs) all = (all.0, map_zip P f xs cs all.1)

abbrev AreLong : Schema → Directory → Type 0
AreLong schema directory = AllByRecursion (λ (entry : DirEntry). length entry.at.items ≡ length schema.dimensions) directory.entries

versions_pass : (file : List ℕ) (schema : Schema) (vs : List Version) (row : List Directory) → AllZip (λ (version : Version) (directory : Directory). HoldsVersion file schema directory version.rows) vs row
    → AllByRecursion (λ v. AreRowsOf schema v.rows × AreSound schema v.rows) vs → AllByRecursion (λ (d : Directory). AreRising d.entries) row → AllByRecursion (λ (d : Directory). AreOfBytes (pieces_in file d)) row → AllByRecursion (AreLong schema) row
    → AllZip (λ (number : ℕ) (directory : Directory). PassesVersion file schema directory) (map (λ (v : Version). v.number) vs) row
versions_pass file schema [] [] holds rows rise small long = tt
versions_pass file schema [] (d ∷ row) holds rows rise small long = absurd holds
versions_pass file schema (v ∷ vs) [] holds rows rise small long = absurd holds
versions_pass file schema (v ∷ vs) (d ∷ row) holds rows rise small long = (
  record { rising = rise.0; bytes = small.0; passes = held_versions_check file schema d v.rows rise.0 small.0 long.0 (record { are = rows.0.0; sound = rows.0.1; holds = holds.0 }) },
  versions_pass file schema vs row holds.1 rows.1 rise.1 small.1 long.1,
)

abbrev PassEntry : List ℕ → NameEntry → List Directory → Type 0
PassEntry file entry row = AllZip (λ (number : ℕ) (directory : Directory). PassesVersion file entry.schema directory) entry.versions row

abbrev LongEntry : NameEntry → List Directory → Type 0
LongEntry entry row = AllByRecursion (AreLong entry.schema) row

arrays_pass : (file : List ℕ) (db : Database) (rows : List (List Directory)) → AllZip (HoldsVersions file) db rows → HoldsArrays db → AllByRecursion (AllByRecursion (λ (d : Directory). AreRising d.entries)) rows
    → AllByRecursion (AllByRecursion (λ (d : Directory). AreOfBytes (pieces_in file d))) rows → AllZip LongEntry (map entry_of db) rows → AllZip (PassEntry file) (map entry_of db) rows
arrays_pass file [] [] holds hold rise small long = tt
arrays_pass file [] (row ∷ rows) holds hold rise small long = absurd holds
arrays_pass file (a ∷ db) [] holds hold rise small long = absurd holds
arrays_pass file (a ∷ db) (row ∷ rows) holds hold rise small long =
    (versions_pass file a.schema a.versions row holds.0 hold.0 rise.0 small.0 long.0, arrays_pass file db rows holds.1 hold.1 rise.1 small.1 long.1)

pub standing_files_pass : StandingFilesPass
standing_files_pass file found db opens stands are =
    let holds : HoldsDatabase file db found = subst (λ (answer : Result Found ℕ). HoldsFound file db answer) opens stands.holds in
    let same : map (λ (array : CatalogArray). array.entry) found.catalog.arrays ≡ map entry_of db = ap (λ (names : Names). names.arrays) holds.names in
    let long : AllZip LongEntry (map entry_of db) found.directories =
    subst (λ (entries : List NameEntry). AllZip LongEntry entries found.directories) same (map_zip LongEntry (λ (array : CatalogArray). array.entry) found.catalog.arrays found.directories are.long) in
    let passes : AllZip (PassEntry file) (map entry_of db) found.directories = arrays_pass file db found.directories holds.versions stands.database.rows are.rising are.bytes long in
    record {
      names = subst AreStored (sym holds.names) stands.database.names;
      versions = zip_map (PassEntry file) (λ (array : CatalogArray). array.entry) found.catalog.arrays found.directories (subst (λ (entries : List NameEntry). AllZip (PassEntry file) entries found.directories) (sym same) passes);
    }
