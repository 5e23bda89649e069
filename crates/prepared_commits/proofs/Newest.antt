-- The directory of the newest version of an array, as a store knows it.
use Rattle.std.proofs.Common.{◌≡◌, ◌∙◌, ℕ, suc, ◌-◌, Bool, true, false, cond, ◌&&◌, ◌||◌, nat_eq, List, [], ◌∷◌, map, length, Option, None, Some, IfSome, IsTrue, refl, ap, sym, subst, arith}
use Rattle.std.specs.Prelude.{slice_index_or}
use Rattle.std.specs.List.{AllByRecursion, AllZip, filter, find, flat_map, list_any}
use Rattle.std.specs.Option.{option_map}
use Rattle.std.specs.Str.{bytes_eq}
use Rattle.std.proofs.lemmas.Bool.{and_from, and_parts, eq-eqb, or_left, or_right}
use Rattle.std.proofs.lemmas.Slice.Eq.{bytes_eq-Decides}
use Rattle.cell_values.specs.declared.schema.Schema.{Schema}
use Rattle.chunk_map.specs.declared.directory.DirEntry.{DirEntry}
use Rattle.chunk_map.specs.declared.directory.Directory.{Directory}
use Rattle.chunk_map.specs.Entries.{AreRising}
use Rattle.logical_plan.specs.declared.names.NameEntry.{NameEntry}
use Rattle.logical_plan.specs.declared.names.Names.{Names}
use Rattle.plan_changes.specs.Changes.{entry_named, is_named, last_of, newest_or, newest_of}
use Rattle.version_catalog.specs.declared.rules.catalog.CatalogArray.{CatalogArray}
use Rattle.version_catalog.specs.declared.rules.catalog.Catalog.{Catalog}
use Rattle.version_catalog.specs.Catalogs.{names_in}
use Rattle.version_reaper.specs.PageSets.{holds}
use Rattle.event_core.specs.declared.state.VersionPages.{VersionPages}
use Rattle.event_core.specs.Agree.{can_name}
use Rattle.event_core.specs.History.{is_pages_of}
use Rattle.event_core.specs.Pages.{is_newest}
use Rattle.event_core.proofs.Tests.{any_weaker}
use Rattle.store_state.proofs.Parts.{front_all, rest_all}
use Rattle.store_state.specs.Premises.{row_of}
use Rattle.store_state.specs.LaidPremises.{last_of_row}
use Rattle.store_versions.specs.Versions.{HaveDirectories, MadeVersion, directory_of, is_numbered, is_of}
use Rattle.store_state.specs.RowsLaws.{NewestAreLast, StandInOrder}
use Rattle.store_state.specs.Rows.{directories_in}
use Rattle.store_state.specs.Inner.Keeping.{AreDirectoriesOf, HasItsPages, IsDirectoryOf}
use Rattle.store_state.proofs.Finds.{any_found, found_in_all}
use Rattle.prepared_commits.specs.Needs.{or_empty}

same_name : (a b : List ℕ) → bytes_eq a b ≡ true → a ≡ b
same_name a b e = (bytes_eq-Decides a b).0 e

-- ---- its schema

empty_is : (schema : Schema) → IsDirectoryOf schema (record { entries = [] })
empty_is schema = record { spelled = record { count = omega arith; each = tt; rising = tt }; cores = tt }

-- R holds of each version's directory and its array's schema
abbrev pub EachSuits : (Schema → Directory → Type 0) → Names → List MadeVersion → Type 0
EachSuits R names versions = AllByRecursion (λ v. IfSome (entry_named names.arrays v.name) (λ entry. R entry.schema v.directory)) versions

newest_is_of : (R : Schema → Directory → Type 0) → ((schema : Schema) → R schema (record { entries = [] })) → (names : Names) (versions : List MadeVersion) (name : List ℕ) (n : ℕ) (entry : NameEntry)
    → EachSuits R names versions → entry_named names.arrays name ≡ Some entry → R entry.schema (or_empty (directory_of name n versions))
newest_is_of R empty names versions name n entry all named = by_found (find (is_numbered name n) versions) refl
  where
    by_found : (o : Option MadeVersion) → find (is_numbered name n) versions ≡ o → R entry.schema (or_empty (option_map (λ v. v.directory) o))
    by_found None e = empty entry.schema
    by_found (Some v) e =
        let f = found_in_all (λ (w : MadeVersion). IfSome (entry_named names.arrays w.name) (λ entry. R entry.schema w.directory)) (is_numbered name n) versions v all e in
        let both = and_parts (bytes_eq v.name name) (nat_eq v.version n) f.passes in
        subst (λ (o : Option NameEntry). IfSome o (λ entry. R entry.schema v.directory)) (ap (entry_named names.arrays) (same_name v.name name both.0) ∙ named) f.holds

some_passes : {A : Type 0} (t : A → Bool) (xs : List A) (x : A) → find t xs ≡ Some x → list_any t xs ≡ true
some_passes t [] x e = absurd cc
some_passes t (y ∷ xs) x e = by_test (t y) e (some_passes t xs x)
  where
    by_test : (b : Bool) → cond b (Some y) (find t xs) ≡ Some x → (find t xs ≡ Some x → list_any t xs ≡ true) → (b || list_any t xs) ≡ true
    by_test true e later = refl
    by_test false e later = later e

-- a version that is found is one of an array that stands
array_of : (names : Names) (versions : List MadeVersion) (name : List ℕ) (n : ℕ) (v : MadeVersion) → HaveDirectories names versions → find (is_numbered name n) versions ≡ Some v
    → (entry : NameEntry) × (entry_named names.arrays name ≡ Some entry)
array_of names versions name n v have e =
    let can : can_name names name n ≡ true = have name n ∙ some_passes (is_numbered name n) versions v e in
    any_found (is_named name) names.arrays
    (any_weaker (λ (entry : NameEntry). is_named name entry && holds entry.versions n) (is_named name) (λ entry both. (and_parts (is_named name entry) (holds entry.versions n) both).0) names.arrays can)

-- so it does of the newest one's, with a schema that is that of its array, if that stands
pub newest_suits : (R : Schema → Directory → Type 0) → ((schema : Schema) → R schema (record { entries = [] })) → (names : Names) (versions : List MadeVersion) (name : List ℕ) (n : ℕ) (schema : Schema)
    → HaveDirectories names versions → EachSuits R names versions → ((entry : NameEntry) → entry_named names.arrays name ≡ Some entry → entry.schema ≡ schema)
    → R schema (or_empty (directory_of name n versions))
newest_suits R empty names versions name n schema have all own = by_found (find (is_numbered name n) versions) refl
  where
    by_found : (o : Option MadeVersion) → find (is_numbered name n) versions ≡ o → R schema (or_empty (option_map (λ v. v.directory) o))
    by_found None e = empty schema
    by_found (Some v) e =
        let entry = array_of names versions name n v have e in
        subst (λ (o : Option MadeVersion). R schema (or_empty (option_map (λ v. v.directory) o))) e
        (subst (λ (schema : Schema). R schema (or_empty (directory_of name n versions))) (own entry.0 entry.1) (newest_is_of R empty names versions name n entry.0 all entry.1))

-- it is a directory of its array's schema
pub newest_fits : (names : Names) (versions : List MadeVersion) (name : List ℕ) (n : ℕ) (schema : Schema) → HaveDirectories names versions → AreDirectoriesOf names versions
    → ((entry : NameEntry) → entry_named names.arrays name ≡ Some entry → entry.schema ≡ schema) → IsDirectoryOf schema (or_empty (directory_of name n versions))
newest_fits names versions name n schema have all own = newest_suits IsDirectoryOf empty_is names versions name n schema have all own

-- its entries rise, also where nothing is known of its array
pub newest_rises : (names : Names) (versions : List MadeVersion) (name : List ℕ) (n : ℕ) → HaveDirectories names versions → AreDirectoriesOf names versions → AreRising (or_empty (directory_of name n versions)).entries
newest_rises names versions name n have all = by_found (find (is_numbered name n) versions) refl
  where
    by_found : (o : Option MadeVersion) → find (is_numbered name n) versions ≡ o → AreRising (or_empty (option_map (λ v. v.directory) o)).entries
    by_found None e = tt
    by_found (Some v) e =
        let entry = array_of names versions name n v have e in
        subst (λ (o : Option MadeVersion). AreRising (or_empty (option_map (λ v. v.directory) o)).entries) e (newest_is_of IsDirectoryOf empty_is names versions name n entry.0 all entry.1).spelled.rising

-- ---- its pages

all_nested : (P : ℕ → Type 0) (entries : List DirEntry) → AllByRecursion P (flat_map (λ entry. entry.pages) entries) → AllByRecursion (λ entry. AllByRecursion P entry.pages) entries
all_nested P [] all = tt
all_nested P (e ∷ entries) all = (front_all P e.pages (flat_map (λ entry. entry.pages) entries) all, all_nested P entries (rest_all P e.pages (flat_map (λ entry. entry.pages) entries) all))

all_more : (P Q : ℕ → Type 0) (pages : List ℕ) → ((page : ℕ) → P page → Q page) → AllByRecursion P pages → AllByRecursion Q pages
all_more P Q [] f all = tt
all_more P Q (page ∷ pages) f all = (f page all.0, all_more P Q pages f all.1)

abbrev IsOfVersion : List ℕ → ℕ → List VersionPages → ℕ → Type 0
IsOfVersion name n pages page = list_any (λ p. is_pages_of name p && nat_eq p.version n && holds p.pages page) pages ≡ true

version_pages : (name : List ℕ) (n : ℕ) (pages : List VersionPages) (versions : List MadeVersion) (v : MadeVersion) → AllZip HasItsPages pages versions → find (is_numbered name n) versions ≡ Some v
    → AllByRecursion (IsOfVersion name n pages) (flat_map (λ entry. entry.pages) v.directory.entries)
version_pages name n [] [] v zip e = absurd cc
version_pages name n [] (w ∷ versions) v zip e = absurd zip
version_pages name n (p ∷ pages) [] v zip e = absurd zip
version_pages name n (p ∷ pages) (w ∷ versions) v zip e = by_test (is_numbered name n w) refl e (version_pages name n pages versions v zip.1)
  where
    by_test : (b : Bool) → is_numbered name n w ≡ b → cond b (Some w) (find (is_numbered name n) versions) ≡ Some v
        → (find (is_numbered name n) versions ≡ Some v → AllByRecursion (IsOfVersion name n pages) (flat_map (λ entry. entry.pages) v.directory.entries))
        → AllByRecursion (IsOfVersion name n (p ∷ pages)) (flat_map (λ entry. entry.pages) v.directory.entries)
    by_test true is e later =
        let same : w ≡ v = cc in
        let both = and_parts (bytes_eq w.name name) (nat_eq w.version n) is in
        let named : is_pages_of name p ≡ true = ap (λ (m : List ℕ). bytes_eq m name) zip.0.name ∙ both.0 in
        let numbered : nat_eq p.version n ≡ true = ap (λ (m : ℕ). nat_eq m n) zip.0.version ∙ both.1 in
        subst (λ (x : MadeVersion). AllByRecursion (IsOfVersion name n (p ∷ pages)) (flat_map (λ entry. entry.pages) x.directory.entries)) same
        (all_more (λ (page : ℕ). IsTrue (holds p.pages page)) (IsOfVersion name n (p ∷ pages)) (flat_map (λ entry. entry.pages) w.directory.entries)
        (λ page held. or_left (is_pages_of name p && nat_eq p.version n && holds p.pages page) (list_any (λ q. is_pages_of name q && nat_eq q.version n && holds q.pages page) pages)
        (and_from (is_pages_of name p && nat_eq p.version n) (holds p.pages page) (and_from (is_pages_of name p) (nat_eq p.version n) named numbered) held))
        zip.0.payloads)
    by_test false is e later =
        all_more (IsOfVersion name n pages) (IsOfVersion name n (p ∷ pages)) (flat_map (λ entry. entry.pages) v.directory.entries)
        (λ page there. or_right (is_pages_of name p && nat_eq p.version n && holds p.pages page) (list_any (λ q. is_pages_of name q && nat_eq q.version n && holds q.pages page) pages) there) (later e)

-- its payloads lie in the pages of the array's newest version
pub newest_shares : (names : Names) (pages : List VersionPages) (versions : List MadeVersion) (name : List ℕ) → AllZip HasItsPages pages versions
    → AllByRecursion (λ entry. AllByRecursion (λ page. is_newest names pages name page ≡ true) entry.pages) (or_empty (directory_of name (newest_of names.arrays name) versions)).entries
newest_shares names pages versions name zip = by_found (find (is_numbered name (newest_of names.arrays name)) versions) refl
  where
    by_found : (o : Option MadeVersion) → find (is_numbered name (newest_of names.arrays name)) versions ≡ o
        → AllByRecursion (λ entry. AllByRecursion (λ page. is_newest names pages name page ≡ true) entry.pages) (or_empty (option_map (λ v. v.directory) o)).entries
    by_found None e = tt
    by_found (Some v) e = all_nested (λ (page : ℕ). is_newest names pages name page ≡ true) v.directory.entries (version_pages name (newest_of names.arrays name) pages versions v zip e)

-- ---- it is found

last_behind : (n m : ℕ) (ns : List ℕ) → last_of (n ∷ m ∷ ns) ≡ last_of (m ∷ ns)
last_behind n m ns =
    let a : length (n ∷ m ∷ ns) - 1 ≡ suc (length ns) = omega arith in
    let b : length (m ∷ ns) - 1 ≡ length ns = omega arith in
    ap (λ (k : ℕ). slice_index_or (n ∷ m ∷ ns) k 0) a ∙ sym (ap (λ (k : ℕ). slice_index_or (m ∷ ns) k 0) b)

abbrev numbers_of : List MadeVersion → List ℕ
numbers_of versions = map (λ v. v.version) versions

abbrev has_number : ℕ → List MadeVersion → Bool
has_number n versions = list_any (λ v. nat_eq v.version n) versions

last_in : (v : MadeVersion) (versions : List MadeVersion) → has_number (last_of (numbers_of (v ∷ versions))) (v ∷ versions) ≡ true
last_in v [] = or_left (nat_eq v.version v.version) false (eq-eqb v.version v.version refl)
last_in v (w ∷ versions) =
    let last = last_of (numbers_of (v ∷ w ∷ versions)) in
    or_right (nat_eq v.version last) (has_number last (w ∷ versions)) (subst (λ (n : ℕ). has_number n (w ∷ versions) ≡ true) (sym (last_behind v.version w.version (numbers_of versions))) (last_in w versions))

numbered_of : (name : List ℕ) (n : ℕ) (versions : List MadeVersion) → has_number n (filter (is_of name) versions) ≡ list_any (is_numbered name n) versions
numbered_of name n [] = refl
numbered_of name n (v ∷ versions) = by_test (is_of name v) (numbered_of name n versions)
  where
    by_test : (b : Bool) → has_number n (filter (is_of name) versions) ≡ list_any (is_numbered name n) versions
        → has_number n (cond b (v ∷ filter (is_of name) versions) (filter (is_of name) versions)) ≡ ((b && nat_eq v.version n) || list_any (is_numbered name n) versions)
    by_test true later = ap (λ (b : Bool). nat_eq v.version n || b) later
    by_test false later = later

none_passes : {A : Type 0} (t : A → Bool) (xs : List A) → find t xs ≡ None → list_any t xs ≡ false
none_passes t [] e = refl
none_passes t (y ∷ xs) e = by_test (t y) e (none_passes t xs)
  where
    by_test : (b : Bool) → cond b (Some y) (find t xs) ≡ None → (find t xs ≡ None → list_any t xs ≡ false) → (b || list_any t xs) ≡ false
    by_test true e later = absurd cc
    by_test false e later = later e

abbrev entries_of : List CatalogArray → List NameEntry
entries_of arrays = map (λ array. array.entry) arrays

abbrev row_in : List MadeVersion → CatalogArray → List Directory
row_in versions array = map (λ v. v.directory) (filter (is_of array.entry.name) versions)

own_row : (entry : NameEntry) (name : List ℕ) (versions : List MadeVersion) → entry.name ≡ name → numbers_of (filter (is_of entry.name) versions) ≡ entry.versions
    → find (is_numbered name (last_of entry.versions)) versions ≡ None → (own : List MadeVersion) → filter (is_of entry.name) versions ≡ own → last_of_row (map (λ v. v.directory) own) ≡ record { entries = [] }
own_row entry name versions same order none [] is = refl
own_row entry name versions same order none (v ∷ own) is =
    let last = last_of entry.versions in
    let numbers : numbers_of (v ∷ own) ≡ entry.versions = ap numbers_of (sym is) ∙ order in
    let there : has_number last (v ∷ own) ≡ true = subst (λ (ns : List ℕ). has_number (last_of ns) (v ∷ own) ≡ true) numbers (last_in v own) in
    let mine : list_any (is_numbered name last) versions ≡ true
    = ap (λ (m : List ℕ). list_any (is_numbered m last) versions) (sym same) ∙ sym (numbered_of entry.name last versions) ∙ ap (has_number last) is ∙ there in
    let bad : true ≡ false = sym mine ∙ none_passes (is_numbered name last) versions none in
    absurd cc

none_last : (name : List ℕ) (versions : List MadeVersion) (arrays : List CatalogArray) → AllByRecursion (λ entry. numbers_of (filter (is_of entry.name) versions) ≡ entry.versions) (entries_of arrays)
    → find (is_numbered name (newest_of (entries_of arrays) name)) versions ≡ None → last_of_row (row_of name (entries_of arrays) (map (row_in versions) arrays)) ≡ record { entries = [] }
none_last name versions [] order none = refl
none_last name versions (a ∷ arrays) order none = by_test (is_named name a.entry) refl none (none_last name versions arrays order.1)
  where
    by_test : (b : Bool) → is_named name a.entry ≡ b → find (is_numbered name (newest_or (cond b (Some a.entry) (find (is_named name) (entries_of arrays))))) versions ≡ None
        → (find (is_numbered name (newest_of (entries_of arrays) name)) versions ≡ None → last_of_row (row_of name (entries_of arrays) (map (row_in versions) arrays)) ≡ record { entries = [] })
        → last_of_row (cond b (row_in versions a) (row_of name (entries_of arrays) (map (row_in versions) arrays))) ≡ record { entries = [] }
    by_test true is none later = own_row a.entry name versions (same_name a.entry.name name is) order.0 none (filter (is_of a.entry.name) versions) refl
    by_test false is none later = later none

pub newest_is_last : NewestAreLast → (catalog : Catalog) (versions : List MadeVersion) (name : List ℕ) → StandInOrder catalog versions
    → or_empty (directory_of name (newest_of (names_in catalog).arrays name) versions) ≡ last_of_row (row_of name (names_in catalog).arrays (directories_in catalog versions))
newest_is_last last catalog versions name stand = by_found (find (is_numbered name (newest_of (names_in catalog).arrays name)) versions) refl
  where
    by_found : (o : Option MadeVersion) → find (is_numbered name (newest_of (names_in catalog).arrays name)) versions ≡ o
        → or_empty (option_map (λ v. v.directory) o) ≡ last_of_row (row_of name (names_in catalog).arrays (directories_in catalog versions))
    by_found None e = sym (none_last name versions catalog.arrays stand.order e)
    by_found (Some v) e = sym (last catalog versions name v.directory stand (ap (option_map (λ (w : MadeVersion). w.directory)) e))
