-- Each version that can be named has a directory.
use Rattle.std.proofs.Common.{◌≡◌, ◌∙◌, ℕ, Bool, true, false, not, ◌&&◌, ◌||◌, if◌then◌else◌, nat_eq, nat_lt, List, [], ◌∷◌, ◌++◌, length, map, drop, get_or, refl, ap, sym, arith}
use Rattle.std.specs.List.{filter, list_any, list_all}
use Rattle.std.specs.Str.{bytes_eq}
use Rattle.std.proofs.lemmas.Bool.{and_parts, and_from, eqb-true}
use Rattle.std.proofs.lemmas.List.{map-append}
use Rattle.std.proofs.lemmas.List.Folds.{list_any-append, list_all-append}
use Rattle.std.proofs.lemmas.Map.Views.{any-filter_same}
use Rattle.std.proofs.lemmas.Slice.Eq.{bytes_eq-Decides}
use Rattle.plan_changes.specs.NameEntry.{NameEntry}
use Rattle.plan_changes.specs.Names.{Names}
use Rattle.plan_changes.specs.declared.change.Change.{Change}
use Rattle.plan_changes.specs.declared.change.Change.TheVariants.{Create, Store, Insert, Remove, RemoveVersions}
use Rattle.plan_changes.specs.Changes.{is_named, next_of}
use Rattle.version_reaper.specs.PageSets.{holds}
use Rattle.chunk_map.specs.declared.directory.Directory.{Directory}
use Rattle.event_core.specs.declared.entry.Entry.TheVariants.{Pin, Unpin, Commit, Reap}
use Rattle.event_core.specs.declared.state.VersionPages.{VersionPages}
use Rattle.event_core.specs.declared.state.Core.{Core}
use Rattle.event_core.specs.Agree.{has_version}
use Rattle.event_core.specs.History.{History, names_at, pages_at, pages_after, is_pages_of}
use Rattle.event_core.specs.Legal.{BeginsWithNames, IsOrdered}
use Rattle.event_core.proofs.Tests.{both_not}
use Rattle.store_versions.proofs.Legal.{ordered_versions_have_pages}
use Rattle.store_versions.specs.declared.row.VersionRow.{VersionRow}
use Rattle.store_versions.specs.Laws.{BasesAreSeen, BasesHaveDirectories, NamedVersionsHaveDirectories}
use Rattle.store_versions.specs.Rows.{is_seen, first_row, array_rows, first_rows}
use Rattle.store_versions.specs.Seen.{version_of, is_past}
use Rattle.store_versions.specs.Versions.{MadeVersion, Directories, is_numbered, versions_after, versions_at}

-- ---- the opening

all_array : (p : VersionRow → Bool) (h : (name : List ℕ) (number : ℕ) (directory : Directory) → p (first_row name number directory) ≡ true) (name numbers : List ℕ) (directories : List Directory) →
    list_all p (array_rows name numbers directories) ≡ true
all_array p h name [] directories = refl
all_array p h name (number ∷ numbers) [] = refl
all_array p h name (number ∷ numbers) (directory ∷ directories) =
    and_from (p (first_row name number directory)) (list_all p (array_rows name numbers directories)) (h name number directory) (all_array p h name numbers directories)

all_first : (p : VersionRow → Bool) (h : (name : List ℕ) (number : ℕ) (directory : Directory) → p (first_row name number directory) ≡ true) (entries : List NameEntry) (directories : List (List Directory)) →
    list_all p (first_rows entries directories) ≡ true
all_first p h [] directories = refl
all_first p h (entry ∷ entries) [] = refl
all_first p h (entry ∷ entries) (row ∷ others) =
    list_all-append p (array_rows entry.name entry.versions row) (first_rows entries others)
    ∙ and_from (list_all p (array_rows entry.name entry.versions row)) (list_all p (first_rows entries others)) (all_array p h entry.name entry.versions row) (all_first p h entries others)

kept_if : {A : Type 0} (b : Bool) (x : A) (xs ys : List A) → b ≡ true → xs ≡ ys → (if b then x ∷ xs else xs) ≡ x ∷ ys
kept_if true x xs ys e same = ap (λ zs. x ∷ zs) same
kept_if false x xs ys e same = absurd (both_not false refl e)

filter_whole : {A : Type 0} (p : A → Bool) (xs : List A) → list_all p xs ≡ true → filter p xs ≡ xs
filter_whole p [] all = refl
filter_whole p (x ∷ xs) all = kept_if (p x) x (filter p xs) xs (and_parts (p x) (list_all p xs) all).0 (filter_whole p xs (and_parts (p x) (list_all p xs) all).1)

pub bases_are_seen : BasesAreSeen
bases_are_seen given base directories first = record {
  now = ap (map version_of) (filter_whole (is_seen 0) (first_rows base.names.arrays directories) (all_first (is_seen 0) (λ name number directory. refl) base.names.arrays directories)) ∙ sym first;
  pinned = tt;
  past = all_first (is_past 0) (λ name number directory. refl) base.names.arrays directories;
}

no_number : (b : Bool) → (b && false) ≡ false
no_number true = refl
no_number false = refl

one_of_two : (c a b : Bool) → ((c && a) || (c && b)) ≡ (c && (a || b))
one_of_two true a b = refl
one_of_two false a b = refl

array_made : (name n : List ℕ) (v : ℕ) (numbers : List ℕ) (directories : List Directory) → length numbers ≡ length directories →
    (bytes_eq name n && holds numbers v) ≡ list_any (is_numbered n v) (map version_of (array_rows name numbers directories))
array_made name n v [] directories e = no_number (bytes_eq name n)
array_made name n v (number ∷ numbers) [] e = let bad : ⊥ = omega (arith, e) in absurd bad
array_made name n v (number ∷ numbers) (directory ∷ directories) e =
    sym (one_of_two (bytes_eq name n) (nat_eq number v) (holds numbers v))
    ∙ ap (λ b. (bytes_eq name n && nat_eq number v) || b) (array_made name n v numbers directories (omega (arith, e)))

pub bases_have_directories_of : (entries : List NameEntry) (directories : List (List Directory)) → map (λ entry. length entry.versions) entries ≡ map (λ row. length row) directories → (n : List ℕ) (v : ℕ) →
    list_any (λ entry. is_named n entry && holds entry.versions v) entries ≡ list_any (is_numbered n v) (map version_of (first_rows entries directories))
bases_have_directories_of [] directories e n v = refl
bases_have_directories_of (entry ∷ entries) [] e n v = let bad : ⊥ = omega (arith, ap length e) in absurd bad
bases_have_directories_of (entry ∷ entries) (row ∷ others) e n v =
    ap (λ b. b || list_any (λ entry. is_named n entry && holds entry.versions v) entries) (array_made entry.name n v entry.versions row (ap (λ xs. get_or xs 0 0) e))
    ∙ ap (λ b. list_any (is_numbered n v) (map version_of (array_rows entry.name entry.versions row)) || b) (bases_have_directories_of entries others (ap (drop 1) e) n v)
    ∙ sym (list_any-append (is_numbered n v) (map version_of (array_rows entry.name entry.versions row)) (map version_of (first_rows entries others)))
    ∙ ap (list_any (is_numbered n v)) (sym (map-append version_of (array_rows entry.name entry.versions row) (first_rows entries others)))

pub bases_have_directories : BasesHaveDirectories
bases_have_directories names directories e n v = bases_have_directories_of names.arrays directories e n v

-- ---- after a history

abbrev has_made : List MadeVersion → List ℕ → ℕ → Bool
has_made versions n v = list_any (is_numbered n v) versions

abbrev is_pages : List ℕ → ℕ → VersionPages → Bool
is_pages n v pages = is_pages_of n pages && nat_eq pages.version v

same_name : (a b : List ℕ) → bytes_eq a b ≡ true → a ≡ b
same_name a b e = (bytes_eq-Decides a b).0 e

-- a test on name and number alone, at one of this name and number
at_number : (t : List ℕ → ℕ → Bool) (name n : List ℕ) (version v : ℕ) → (bytes_eq name n && nat_eq version v) ≡ true → t name version ≡ t n v
at_number t name n version v e =
    let both : (bytes_eq name n ≡ true) × (nat_eq version v ≡ true) = and_parts (bytes_eq name n) (nat_eq version v) e in
    ap (λ m. t m version) (same_name name n both.0) ∙ ap (t n) (eqb-true version v both.1)

both_left : (t : List ℕ → ℕ → Bool) (pages : List VersionPages) (versions : List MadeVersion) (n : List ℕ) (v : ℕ) → has_version pages n v ≡ has_made versions n v →
    has_version (filter (λ p. t p.name p.version) pages) n v ≡ has_made (filter (λ m. t m.name m.version) versions) n v
both_left t pages versions n v same =
    any-filter_same (is_pages n v) (λ p. t p.name p.version) (t n v) (λ p e. at_number t p.name n p.version v e) pages
    ∙ ap (λ b. t n v && b) same
    ∙ sym (any-filter_same (is_numbered n v) (λ m. t m.name m.version) (t n v) (λ m e. at_number t m.name n m.version v e) versions)

both_more : (name : List ℕ) (number : ℕ) (used : List ℕ) (directory : Directory) (pages : List VersionPages) (versions : List MadeVersion) (n : List ℕ) (v : ℕ) → has_version pages n v ≡ has_made versions n v →
    has_version (pages ++ record { name = name; version = number; pages = used } ∷ []) n v ≡ has_made (versions ++ record { name = name; version = number; directory = directory } ∷ []) n v
both_more name number used directory pages versions n v same =
    list_any-append (is_pages n v) pages (record { name = name; version = number; pages = used } ∷ [])
    ∙ ap (λ b. b || ((bytes_eq name n && nat_eq number v) || false)) same
    ∙ sym (list_any-append (is_numbered n v) versions (record { name = name; version = number; directory = directory } ∷ []))

both_after : (names : Names) (change : Change) (used : List ℕ) (directory : Directory) (pages : List VersionPages) (versions : List MadeVersion) (n : List ℕ) (v : ℕ) → has_version pages n v ≡ has_made versions n v →
    has_version (pages_after names change used pages) n v ≡ has_made (versions_after names change directory versions) n v
both_after names (Create name schema) used directory pages versions n v same = same
both_after names (Store name schema plan) used directory pages versions n v same = both_more name (next_of names.arrays name) used directory pages versions n v same
both_after names (Insert name schema plan) used directory pages versions n v same = both_more name (next_of names.arrays name) used directory pages versions n v same
both_after names (Remove name) used directory pages versions n v same = both_left (λ m k. not (bytes_eq m name)) pages versions n v same
both_after names (RemoveVersions name below) used directory pages versions n v same = both_left (λ m k. not (bytes_eq m name && nat_lt k below)) pages versions n v same

both_at : (base : Core) (given : Directories) (h : History) (n : List ℕ) (v : ℕ) → has_version base.pages n v ≡ has_made given.first n v → has_version (pages_at base h) n v ≡ has_made (versions_at base given h) n v
both_at base given [] n v same = same
both_at base given (Pin s ∷ before) n v same = both_at base given before n v same
both_at base given (Unpin s ∷ before) n v same = both_at base given before n v same
both_at base given (Commit s change used ∷ before) n v same =
    both_after (names_at base before) change used.version (given.made (length before)) (pages_at base before) (versions_at base given before) n v (both_at base given before n v same)
both_at base given (Reap ∷ before) n v same = both_at base given before n v same

begins : (base : Core) (h : History) → IsOrdered base h → BeginsWithNames base
begins base [] ordered = ordered
begins base (entry ∷ before) ordered = begins base before ordered.0

pub named_versions_have_directories : NamedVersionsHaveDirectories
named_versions_have_directories given base h ordered first n v =
    ordered_versions_have_pages base h ordered n v
    ∙ both_at base given h n v (sym ((begins base h ordered).pages n v) ∙ first n v)
