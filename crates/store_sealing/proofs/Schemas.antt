-- After a change each version has a directory of its array's schema, and pages with its payloads'.
use Rattle.std.proofs.Common.{◌≡◌, ◌∙◌, ℕ, zero, suc, ◌+◌, Bool, true, false, not, ◌&&◌, if◌then◌else◌, nat_eq, nat_lt, List, [], ◌∷◌, ◌++◌, map, Option, None, Some, IsTrue, refl, ap, sym, subst}
use Rattle.std.specs.Prelude.{IfSome}
use Rattle.std.specs.List.{AllByRecursion, AllZip, filter, find, flat_map, insert, list_any}
use Rattle.std.specs.Str.{bytes_eq}
use Rattle.std.specs.Cmp.Lexicographic.{bytes_decides}
use Rattle.std.proofs.lemmas.Bool.{and_parts, or_parts, or_left, or_right, not-true, eq-eqb}
use Rattle.std.proofs.lemmas.List.Folds.{list_any-append}
use Rattle.cell_values.specs.Schemas.{is_valid}
use Rattle.cell_values.specs.declared.schema.Schema.{Schema}
use Rattle.chunk_map.specs.declared.directory.Directory.{Directory}
use Rattle.logical_plan.specs.Query.{Query}
use Rattle.logical_plan.specs.declared.names.NameEntry.{NameEntry}
use Rattle.logical_plan.specs.declared.names.Names.{Names}
use Rattle.plan_changes.specs.declared.change.Change.{Change}
use Rattle.plan_changes.specs.declared.change.Change.TheVariants.{Create, Store, Insert, Remove, RemoveVersions}
use Rattle.plan_changes.specs.Allowed.{has_room}
use Rattle.plan_changes.specs.Changes.{is_named, has_array, entry_named, name_of, next_of, place_of, new_entry, with_array, with_absent, with_version, without_below, arrays_after, names_after}
use Rattle.plan_changes.specs.Typed.{FitsInto, IsTypedFor}
use Rattle.plan_changes.proofs.Stays.{entries_stay}
use Rattle.version_catalog.specs.declared.rules.catalog.BlobAt.{BlobAt}
use Rattle.version_reaper.specs.PageSets.{holds}
use Rattle.file_meaning.specs.Opening.{version_pages}
use Rattle.event_core.specs.declared.state.VersionPages.{VersionPages}
use Rattle.event_core.specs.History.{is_pages_of, pages_after}
use Rattle.event_core.proofs.Tests.{none_weaker}
use Rattle.store_versions.specs.Versions.{MadeVersion, HaveDirectories, is_of, is_numbered, versions_after}
use Rattle.store_versions.proofs.Seen.{all_two}
use Rattle.prepared_commits.specs.Keeping.{IsDirectoryOf, HasItsPages}
use Rattle.prepared_commits.proofs.Lists.{all_push, all_filter}
use Rattle.store_sealing.proofs.Lists.{zip_push, zip_filter}

-- R holds of a version's directory and its array's schema, if an array has its name
abbrev Suits : (Schema → Directory → Type 0) → List NameEntry → MadeVersion → Type 0
Suits R arrays v = IfSome (find (is_named v.name) arrays) (λ entry. R entry.schema v.directory)

-- ---- what is found of an array

module _ (P : Schema → Type 0) (t : NameEntry → Bool) where
  abbrev Finds : List NameEntry → Type 0
  Finds arrays = IfSome (find t arrays) (λ entry. P entry.schema)

  -- among changed arrays
  finds_changed : (f : NameEntry → NameEntry) → ((e : NameEntry) → t (f e) ≡ t e) → ((e : NameEntry) → (f e).schema ≡ e.schema) → (arrays : List NameEntry) →
      Finds arrays → Finds (map f arrays)
  finds_changed f same schema [] is = tt
  finds_changed f same schema (e ∷ es) is = by_test (t e) refl (λ rest. finds_changed f same schema es rest) is
    where
      by_test : (b : Bool) → t e ≡ b → (Finds es → Finds (map f es)) → IfSome (if b then Some e else find t es) (λ entry. P entry.schema) → Finds (map f (e ∷ es))
      by_test true this more its =
          subst (λ (b : Bool). IfSome (if b then Some (f e) else find t (map f es)) (λ entry. P entry.schema)) (sym (same e ∙ this)) (subst P (sym (schema e)) its)
      by_test false other more rest =
          subst (λ (b : Bool). IfSome (if b then Some (f e) else find t (map f es)) (λ entry. P entry.schema)) (sym (same e ∙ other)) (more rest)

  -- among them and one more
  finds_inserted : (new : NameEntry) → P new.schema → (arrays : List NameEntry) (i : ℕ) → Finds arrays → Finds (insert arrays i new)
  finds_inserted new its [] zero is = by_test (t new)
    where
      by_test : (b : Bool) → IfSome (if b then Some new else None) (λ entry. P entry.schema)
      by_test true = its
      by_test false = tt
  finds_inserted new its [] (suc i) is = by_test (t new)
    where
      by_test : (b : Bool) → IfSome (if b then Some new else None) (λ entry. P entry.schema)
      by_test true = its
      by_test false = tt
  finds_inserted new its (e ∷ es) zero is = by_test (t new)
    where
      by_test : (b : Bool) → IfSome (if b then Some new else find t (e ∷ es)) (λ entry. P entry.schema)
      by_test true = its
      by_test false = is
  finds_inserted new its (e ∷ es) (suc i) is = by_test (t e) (λ rest. finds_inserted new its es i rest) is
    where
      by_test : (b : Bool) → (Finds es → Finds (insert es i new)) → IfSome (if b then Some e else find t es) (λ entry. P entry.schema) →
          IfSome (if b then Some e else find t (insert es i new)) (λ entry. P entry.schema)
      by_test true more here = here
      by_test false more rest = more rest

-- the arrays that have a name, once they are away
found_none : (name : List ℕ) (arrays : List NameEntry) → find (is_named name) (filter (λ e. not (is_named name e)) arrays) ≡ None
found_none name [] = refl
found_none name (e ∷ es) = by_test (is_named name e) refl (found_none name es)
  where
    by_test : (b : Bool) → is_named name e ≡ b → find (is_named name) (filter (λ e. not (is_named name e)) es) ≡ None →
        find (is_named name) (if not b then e ∷ filter (λ e. not (is_named name e)) es else filter (λ e. not (is_named name e)) es) ≡ None
    by_test true is rest = rest
    by_test false is rest =
        ap (λ (b : Bool). if b then Some e else find (is_named name) (filter (λ e. not (is_named name e)) es)) is ∙ rest

raised_name : (of name : List ℕ) (e : NameEntry) → is_named name (with_version of e) ≡ is_named name e
raised_name of name e = by_test (is_named of e)
  where
    by_test : (b : Bool) → is_named name (if b then record e { next = e.next + 1; versions = e.versions ++ e.next ∷ [] } else e) ≡ is_named name e
    by_test true = refl
    by_test false = refl

raised_schema : (of : List ℕ) (e : NameEntry) → (with_version of e).schema ≡ e.schema
raised_schema of e = by_test (is_named of e)
  where
    by_test : (b : Bool) → (if b then record e { next = e.next + 1; versions = e.versions ++ e.next ∷ [] } else e).schema ≡ e.schema
    by_test true = refl
    by_test false = refl

cut_name : (of : List ℕ) (below : ℕ) (name : List ℕ) (e : NameEntry) → is_named name (without_below of below e) ≡ is_named name e
cut_name of below name e = by_test (is_named of e)
  where
    by_test : (b : Bool) → is_named name (if b then record e { versions = filter (λ v. not (nat_lt v below)) e.versions } else e) ≡ is_named name e
    by_test true = refl
    by_test false = refl

cut_schema : (of : List ℕ) (below : ℕ) (e : NameEntry) → (without_below of below e).schema ≡ e.schema
cut_schema of below e = by_test (is_named of e)
  where
    by_test : (b : Bool) → (if b then record e { versions = filter (λ v. not (nat_lt v below)) e.versions } else e).schema ≡ e.schema
    by_test true = refl
    by_test false = refl

-- ---- versions of other arrays

other_way : (a b : List ℕ) → bytes_eq a b ≡ false → bytes_eq b a ≡ false
other_way a b apart = by_test (bytes_eq b a) refl
  where
    by_test : (t : Bool) → bytes_eq b a ≡ t → t ≡ false
    by_test false e = refl
    by_test true e =
        let same : b ≡ a = (bytes_decides b a).0 e in
        let yes : bytes_eq a b ≡ true = (bytes_decides a b).1 (sym same) in
        absurd cc

first_false : (b t : Bool) → t ≡ true → (b && t) ≡ false → b ≡ false
first_false true t is none = absurd cc
first_false false t is none = refl

first_true : (b c : Bool) → (b && c) ≡ true → b ≡ true
first_true true c is = refl
first_true false c is = absurd cc

none_named : (name : List ℕ) (versions : List MadeVersion) → ((number : ℕ) → list_any (is_numbered name number) versions ≡ false) →
    AllByRecursion (λ v. bytes_eq name v.name ≡ false) versions
none_named name [] none = tt
none_named name (v ∷ versions) none =
    let here = (or_parts (is_numbered name v.version v) (list_any (is_numbered name v.version) versions) (none v.version)).0 in (
      other_way v.name name (first_false (is_of name v) (nat_eq v.version v.version) (eq-eqb v.version v.version refl) here),
      none_named name versions (λ number. (or_parts (is_numbered name number v) (list_any (is_numbered name number) versions) (none number)).1),
    )

-- where no array has a name, no version is of it
absent : (names : Names) (name : List ℕ) (versions : List MadeVersion) → HaveDirectories names versions → has_array names.arrays name ≡ false →
    AllByRecursion (λ v. bytes_eq name v.name ≡ false) versions
absent names name versions have none =
    none_named name versions (λ number. sym (have name number)
    ∙ none_weaker (λ entry. is_named name entry && holds entry.versions number) (is_named name) (λ entry. first_true (is_named name entry) (holds entry.versions number)) names.arrays none)

stays : (R : Schema → Directory → Type 0) (names : Names) (change : Change) (v : MadeVersion) → bytes_eq (name_of change) v.name ≡ false → Suits R names.arrays v → Suits R (arrays_after names.arrays change) v
stays R names change v apart is = subst (λ (o : Option NameEntry). IfSome o (λ entry. R entry.schema v.directory)) (sym (entries_stay names change v.name apart)) is

-- ---- the version that a change makes

-- a directory of its schema, and pages with its own and its payloads'
pub record IsMadeIn (schema : Schema) (directory : Directory) (used : List ℕ) : Type 0 where
  pub rules : IsDirectoryOf schema directory
  pub own : BlobAt
  pub pages : used ≡ version_pages own directory

-- R holds of its directory, where it makes one
abbrev pub MakesSo : (Schema → Directory → Type 0) → Change → Directory → Type 0
MakesSo R (Create name schema) directory = Unit {0}
MakesSo R (Store name schema plan) directory = R schema directory
MakesSo R (Insert name schema plan) directory = R schema directory
MakesSo R (Remove name) directory = Unit {0}
MakesSo R (RemoveVersions name below) directory = Unit {0}

abbrev pub IsNew : Change → Directory → List ℕ → Type 0
IsNew (Create name schema) directory pages = Unit {0}
IsNew (Store name schema plan) directory pages = IsMadeIn schema directory pages
IsNew (Insert name schema plan) directory pages = IsMadeIn schema directory pages
IsNew (Remove name) directory pages = Unit {0}
IsNew (RemoveVersions name below) directory pages = Unit {0}

pub made_so : (change : Change) (directory : Directory) (used : List ℕ) → IsNew change directory used → MakesSo IsDirectoryOf change directory
made_so (Create name schema) directory used new = tt
made_so (Store name schema plan) directory used new = new.rules
made_so (Insert name schema plan) directory used new = new.rules
made_so (Remove name) directory used new = tt
made_so (RemoveVersions name below) directory used new = tt

fits_suits : (R : Schema → Directory → Type 0) (o : Option NameEntry) (schema : Schema) (plan : Query) (directory : Directory) → FitsInto o schema plan → R schema directory →
    IfSome o (λ entry. R entry.schema directory)
fits_suits R None schema plan directory fits is = tt
fits_suits R (Some entry) schema plan directory fits is = subst (λ (s : Schema). R s directory) fits.0 is

-- ---- after a change

raised : (R : Schema → Directory → Type 0) (name : List ℕ) (arrays : List NameEntry) (v : MadeVersion) → Suits R arrays v → Suits R (map (with_version name) arrays) v
raised R name arrays v is =
    finds_changed (λ schema. R schema v.directory) (is_named v.name) (with_version name) (raised_name name v.name) (raised_schema name) arrays is

cut : (R : Schema → Directory → Type 0) (name : List ℕ) (below : ℕ) (arrays : List NameEntry) (v : MadeVersion) → Suits R arrays v → Suits R (map (without_below name below) arrays) v
cut R name below arrays v is =
    finds_changed (λ schema. R schema v.directory) (is_named v.name) (without_below name below) (cut_name name below v.name) (cut_schema name below) arrays is

each : {A : Type 0} (P Q : A → Type 0) → ((x : A) → P x → Q x) → (xs : List A) → AllByRecursion P xs → AllByRecursion Q xs
each P Q f [] all = tt
each P Q f (x ∷ xs) all = (f x all.0, each P Q f xs all.1)

without : (R : Schema → Directory → Type 0) (names : Names) (name : List ℕ) (v : MadeVersion) → Suits R names.arrays v → Suits R (arrays_after names.arrays (Remove name)) v
without R names name v is = by_test (bytes_eq name v.name) refl
  where
    by_test : (b : Bool) → bytes_eq name v.name ≡ b → Suits R (arrays_after names.arrays (Remove name)) v
    by_test true e =
        let same : name ≡ v.name = (bytes_decides name v.name).0 e in
        let none : find (is_named v.name) (arrays_after names.arrays (Remove name)) ≡ None =
        subst (λ (n : List ℕ). find (is_named n) (filter (λ x. not (is_named name x)) names.arrays) ≡ None) same (found_none name names.arrays) in
        subst (λ (o : Option NameEntry). IfSome o (λ entry. R entry.schema v.directory)) (sym none) tt
    by_test false e = stays R names (Remove name) v e is

not_there : (a b c : Bool) → (a && (b && not c)) ≡ true → c ≡ false
not_there a b c ok = not-true c (and_parts b (not c) (and_parts a (b && not c) ok).1).1

module _ (R : Schema → Directory → Type 0) (names : Names) (versions : List MadeVersion) (directory : Directory) (have : HaveDirectories names versions) (now : AllByRecursion (Suits R names.arrays) versions) where
  others : (change : Change) → AllByRecursion (λ v. bytes_eq (name_of change) v.name ≡ false) versions → AllByRecursion (Suits R (arrays_after names.arrays change)) versions
  others change apart = all_two (λ v. bytes_eq (name_of change) v.name ≡ false) (Suits R names.arrays) (Suits R (arrays_after names.arrays change)) (stays R names change) versions apart now

  stored : (name : List ℕ) (schema : Schema) (plan : Query) (b : Bool) → has_array names.arrays name ≡ b → AllByRecursion (Suits R (arrays_after names.arrays (Store name schema plan))) versions
  stored name schema plan true has =
      let there : map (with_version name) (with_absent name schema names.arrays) ≡ map (with_version name) names.arrays =
      ap (λ (b : Bool). map (with_version name) (if b then names.arrays else with_array name schema names.arrays)) has in
      subst (λ (arrays : List NameEntry). AllByRecursion (Suits R arrays) versions) (sym there) (each (Suits R names.arrays) (Suits R (map (with_version name) names.arrays)) (raised R name names.arrays) versions now)
  stored name schema plan false has = others (Store name schema plan) (absent names name versions have has)

  new_stored : (name : List ℕ) (schema : Schema) (plan : Query) (b : Bool) → FitsInto (entry_named names.arrays name) schema plan → R schema directory →
      IfSome (find (is_named name) (map (with_version name) (if b then names.arrays else with_array name schema names.arrays))) (λ entry. R entry.schema directory)
  new_stored name schema plan true fits is =
      finds_changed (λ s. R s directory) (is_named name) (with_version name) (raised_name name name) (raised_schema name) names.arrays
      (fits_suits R (entry_named names.arrays name) schema plan directory fits is)
  new_stored name schema plan false fits is =
      finds_changed (λ s. R s directory) (is_named name) (with_version name) (raised_name name name) (raised_schema name) (with_array name schema names.arrays)
      (finds_inserted (λ s. R s directory) (is_named name) (new_entry name schema) is names.arrays (place_of names.arrays name)
      (fits_suits R (entry_named names.arrays name) schema plan directory fits is))

  pub suit_after : (change : Change) → IsTypedFor names change → MakesSo R change directory →
      AllByRecursion (Suits R (names_after names change).arrays) (versions_after names change directory versions)
  suit_after (Create name schema) typed new =
      others (Create name schema) (absent names name versions have (not_there (is_valid schema) (has_room names.arrays) (has_array names.arrays name) typed.0))
  suit_after (Store name schema plan) typed new =
      all_push (Suits R (arrays_after names.arrays (Store name schema plan))) versions (record { name = name; version = next_of names.arrays name; directory = directory })
      (stored name schema plan (has_array names.arrays name) refl)
      (new_stored name schema plan (has_array names.arrays name) typed.1.1 new)
  suit_after (Insert name schema plan) typed new =
      all_push (Suits R (arrays_after names.arrays (Insert name schema plan))) versions (record { name = name; version = next_of names.arrays name; directory = directory })
      (each (Suits R names.arrays) (Suits R (map (with_version name) names.arrays)) (raised R name names.arrays) versions now)
      (new_stored name schema plan true typed.1.1 new)
  suit_after (Remove name) typed new =
      all_filter (Suits R (arrays_after names.arrays (Remove name))) (λ v. not (is_of name v)) versions
      (each (Suits R names.arrays) (Suits R (arrays_after names.arrays (Remove name))) (without R names name) versions now)
  suit_after (RemoveVersions name below) typed new =
      all_filter (Suits R (arrays_after names.arrays (RemoveVersions name below))) (λ v. not (is_of name v && nat_lt v.version below)) versions
      (each (Suits R names.arrays) (Suits R (arrays_after names.arrays (RemoveVersions name below))) (cut R name below names.arrays) versions now)

-- ---- their pages

all_held : (pages : List ℕ) → AllByRecursion (λ page. IsTrue (holds pages page)) pages
all_held [] = tt
all_held (p ∷ pages) = (
  or_left (nat_eq p p) (holds pages p) (eq-eqb p p refl),
  each (λ page. IsTrue (holds pages page)) (λ page. IsTrue (holds (p ∷ pages) page)) (λ page held. or_right (nat_eq p page) (holds pages page) held) pages (all_held pages),
)

has_payloads : (name : List ℕ) (version : ℕ) (own : BlobAt) (directory : Directory) (pages : List ℕ) → pages ≡ version_pages own directory →
    HasItsPages (record { name = name; version = version; pages = pages }) (record { name = name; version = version; directory = directory })
has_payloads name version own directory pages are =
    let payloads : List ℕ = flat_map (λ entry. entry.pages) directory.entries in
    record {
      name = refl;
      version = refl;
      payloads = subst (λ (ps : List ℕ). AllByRecursion (λ page. IsTrue (holds ps page)) payloads) (sym are)
          (each (λ page. IsTrue (holds payloads page)) (λ page. IsTrue (holds (own.pages ++ payloads) page))
          (λ page held. list_any-append (λ other. nat_eq other page) own.pages payloads ∙ or_right (holds own.pages page) (holds payloads page) held) payloads (all_held payloads));
    }

pub pages_after_change : (names : Names) (change : Change) (used : List ℕ) (directory : Directory) (pages : List VersionPages) (versions : List MadeVersion) →
    IsNew change directory used → AllZip HasItsPages pages versions →
    AllZip HasItsPages (pages_after names change used pages) (versions_after names change directory versions)
pages_after_change names (Create name schema) used directory pages versions new all = all
pages_after_change names (Store name schema plan) used directory pages versions new all =
    zip_push HasItsPages pages versions _ _ all (has_payloads name (next_of names.arrays name) new.own directory used new.pages)
pages_after_change names (Insert name schema plan) used directory pages versions new all =
    zip_push HasItsPages pages versions _ _ all (has_payloads name (next_of names.arrays name) new.own directory used new.pages)
pages_after_change names (Remove name) used directory pages versions new all =
    zip_filter HasItsPages (λ p. not (is_pages_of name p)) (λ v. not (is_of name v)) (λ p v its. ap (λ (n : List ℕ). not (bytes_eq n name)) its.name) pages versions all
pages_after_change names (RemoveVersions name below) used directory pages versions new all =
    zip_filter HasItsPages (λ p. not (is_pages_of name p && nat_lt p.version below)) (λ v. not (is_of name v && nat_lt v.version below))
    (λ p v its. ap (λ (n : List ℕ). not (bytes_eq n name && nat_lt p.version below)) its.name ∙ ap (λ (n : ℕ). not (bytes_eq v.name name && nat_lt n below)) its.version) pages versions all
