-- The directories follow a change as the versions do.
use Rattle.std.proofs.Common.{◌≡◌, ◌∙◌, ℕ, Bool, true, false, cond, ◌&&◌, nat_eq, List, [], ◌∷◌, Option, None, Some, refl, ap, sym, subst}
use Rattle.std.specs.Prelude.{IsTrue}
use Rattle.std.specs.List.{filter, list_any}
use Rattle.std.proofs.lemmas.Bool.{or_parts}
use Rattle.chunk_map.specs.declared.directory.Directory.{Directory}
use Rattle.logical_plan.specs.declared.names.NameEntry.{NameEntry}
use Rattle.logical_plan.specs.declared.names.Names.{Names}
use Rattle.file_meaning.specs.Change.{Change}
use Rattle.file_meaning.specs.Change.TheVariants.{Create, Store, Insert, Remove, RemoveVersions}
use Rattle.file_meaning.specs.Allowed.{names_allow}
use Rattle.file_meaning.specs.Changes.{is_named, has_array, name_of, next_of, names_after}
use Rattle.version_reaper.specs.PageSets.{holds}
use Rattle.file_meaning.specs.Catalog.{Catalog}
use Rattle.file_meaning.specs.Catalogs.{names_in}
use Rattle.file_meaning.specs.Changed.{has_its_directory, after_change}
use Rattle.file_meaning.specs.Records.{entries_of}
use Rattle.store_versions.proofs.Tests.{none_weaker}
use Rattle.file_meaning.specs.Next.{Made, Rows, blob_of, without_row, rows_after}
use Rattle.store_versions.specs.Versions.{MadeVersion, HaveDirectories, is_of, is_numbered, versions_after}
use Rattle.store_state.specs.Rows.{directories_in, AreInOrder, IsMadeWith}
use Rattle.store_state.specs.RowsLaws.{StandInOrder, DirectoriesFollow, OrdersFollow}
use Rattle.store_state.proofs.Filters.{itself}
use Rattle.store_state.proofs.Items.{without_items, lists_after, items_after, Stand, rows_follow, orders_follow}

abbrev pub name_of_version : MadeVersion → List ℕ
name_of_version v = v.name

abbrev pub number_of_version : MadeVersion → ℕ
number_of_version v = v.version

abbrev pub directory_of_version : MadeVersion → Directory
directory_of_version v = v.directory

-- ---- what stands

last_true : (b t : Bool) → t ≡ true → (b && t) ≡ false → b ≡ false
last_true true t is none = absurd cc
last_true false t is none = refl

-- where a name has no number there is no version
none_left : (n : List ℕ) (versions : List MadeVersion) → ((number : ℕ) → list_any (is_numbered n number) versions ≡ false) → filter (is_of n) versions ≡ []
none_left n [] none = refl
none_left n (v ∷ versions) none =
    let here = (or_parts (is_numbered n v.version v) (list_any (is_numbered n v.version) versions) (none v.version)).0 in
    ap (λ (b : Bool). cond b (v ∷ filter (is_of n) versions) (filter (is_of n) versions)) (last_true (is_of n v) (nat_eq v.version v.version) (itself v.version) here)
    ∙ none_left n versions (λ number. (or_parts (is_numbered n number v) (list_any (is_numbered n number) versions) (none number)).1)

first_true : (b c : Bool) → (b && c) ≡ true → b ≡ true
first_true true c is = refl
first_true false c is = absurd cc

pub none_of : (names : Names) (versions : List MadeVersion) (n : List ℕ) → HaveDirectories names versions → has_array names.arrays n ≡ false → filter (is_of n) versions ≡ []
none_of names versions n have none =
    none_left n versions (λ number. sym (have n number)
    ∙ none_weaker (λ entry. is_named n entry && holds entry.versions number) (is_named n) (λ entry. first_true (is_named n entry) (holds entry.versions number)) names.arrays none)

pub versions_stand : (catalog : Catalog) (versions : List MadeVersion) → StandInOrder catalog versions → Stand name_of_version number_of_version versions (entries_of catalog.arrays)
versions_stand catalog versions stand = record { stored = stand.stored; none = λ n. none_of (names_in catalog) versions n stand.have; order = stand.order }

-- ---- what a change makes

abbrev new_version : Names → Change → Directory → MadeVersion
new_version names change directory = record { name = name_of change; version = next_of names.arrays (name_of change); directory = directory }

after_is : (names : Names) (change : Change) (directory : Directory) (versions : List MadeVersion)
    → versions_after names change directory versions ≡ items_after name_of_version number_of_version change (new_version names change directory) versions
after_is names (Create n schema) directory versions = refl
after_is names (Store n schema plan) directory versions = refl
after_is names (Insert n schema plan) directory versions = refl
after_is names (Remove n) directory versions = refl
after_is names (RemoveVersions n below) directory versions = refl

pub has_its : (change : Change) (made : Option Made) (directory : Directory) → IsMadeWith change made directory → has_its_directory change (blob_of made) ≡ true
has_its (Create n schema) None directory of = refl
has_its (Create n schema) (Some made) directory of = absurd of
has_its (Store n schema plan) None directory of = absurd of
has_its (Store n schema plan) (Some made) directory of = refl
has_its (Insert n schema plan) None directory of = absurd of
has_its (Insert n schema plan) (Some made) directory of = refl
has_its (Remove n) None directory of = refl
has_its (Remove n) (Some made) directory of = absurd of
has_its (RemoveVersions n below) None directory of = refl
has_its (RemoveVersions n below) (Some made) directory of = absurd of

left_is : (n : List ℕ) (entries : List NameEntry) (rows : Rows) → without_items n entries rows ≡ without_row n entries rows
left_is n [] rows = refl
left_is n (entry ∷ entries) [] = refl
left_is n (entry ∷ entries) (row ∷ rows) = by_test (is_named n entry) (left_is n entries rows)
  where
    by_test : (b : Bool) → without_items n entries rows ≡ without_row n entries rows
        → cond b (without_items n entries rows) (row ∷ without_items n entries rows) ≡ cond b (without_row n entries rows) (row ∷ without_row n entries rows)
    by_test true later = later
    by_test false later = ap (λ (rs : Rows). row ∷ rs) later

lists_are : (entries : List NameEntry) (change : Change) (made : Option Made) (directory : Directory) (rows : Rows) → IsMadeWith change made directory
    → lists_after entries change directory rows ≡ rows_after entries change made rows
lists_are entries (Create n schema) made directory rows of = refl
lists_are entries (Store n schema plan) None directory rows of = absurd of
lists_are entries (Store n schema plan) (Some made) directory rows of = ap (λ (d : Directory). lists_after entries (Store n schema plan) d rows) (sym of)
lists_are entries (Insert n schema plan) None directory rows of = absurd of
lists_are entries (Insert n schema plan) (Some made) directory rows of = ap (λ (d : Directory). lists_after entries (Insert n schema plan) d rows) (sym of)
lists_are entries (Remove n) made directory rows of = left_is n entries rows
lists_are entries (RemoveVersions n below) made directory rows of = refl

pub directories_changed : (catalog : Catalog) (versions : List MadeVersion) (change : Change) (made : Option Made) (directory : Directory) → StandInOrder catalog versions
    → IsTrue (names_allow (names_in catalog) change) → IsMadeWith change made directory
    → directories_in (after_change catalog change (blob_of made)) (versions_after (names_in catalog) change directory versions) ≡ lists_after (entries_of catalog.arrays) change directory (directories_in catalog versions)
directories_changed catalog versions change made directory stand ok of =
    ap (directories_in (after_change catalog change (blob_of made))) (after_is (names_in catalog) change directory versions)
    ∙ rows_follow name_of_version number_of_version directory_of_version catalog.arrays versions change (blob_of made) (new_version (names_in catalog) change directory)
    (versions_stand catalog versions stand) ok (has_its change made directory of) refl

pub directories_follow : DirectoriesFollow
directories_follow catalog versions change made directory stand ok of =
    directories_changed catalog versions change made directory stand ok of ∙ lists_are (entries_of catalog.arrays) change made directory (directories_in catalog versions) of

pub orders_stay : OrdersFollow
orders_stay catalog versions change directory stand ok =
    subst (AreInOrder (names_after (names_in catalog) change)) (sym (after_is (names_in catalog) change directory versions))
    (orders_follow name_of_version number_of_version (entries_of catalog.arrays) versions change (new_version (names_in catalog) change directory) (versions_stand catalog versions stand) ok refl refl)
