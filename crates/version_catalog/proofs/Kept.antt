-- The names of a catalogue after a change, and that a record keeps the rules of a catalogue.
use Rattle.std.proofs.Common.{◌≡◌, ℕ, zero, suc, ◌+◌, ◌-◌, Bool, true, false, cond, not, ◌&&◌, ◌||◌, nat_lt, List, [], ◌∷◌, ◌++◌, map, length, drop, Option, Some, None, refl, sym, ap, subst, ◌∙◌, arith}
use Rattle.std.specs.List.{AllByRecursion, filter, insert, list_all, prefix_len, count_by}
use Rattle.std.proofs.lemmas.Bool.{and_parts, and_from, or_parts, not-true}
use Rattle.std.proofs.lemmas.List.{length-append, length-drop}
use Rattle.std.proofs.lemmas.List.Sums.{sum_by-cons}
use Rattle.cell_values.specs.Naming.{IsName}
use Rattle.cell_values.specs.declared.schema.Schema.{Schema}
use Rattle.plan_changes.specs.NameEntry.{NameEntry}
use Rattle.plan_changes.specs.declared.change.Change.{Change}
use Rattle.plan_changes.specs.declared.change.Change.TheVariants.{Create, Store, Insert, Remove, RemoveVersions}
use Rattle.plan_changes.specs.Allowed.{has_room, has_number}
use Rattle.plan_changes.specs.Changes.{is_named, has_array, new_entry, with_array, with_version, without_below, arrays_after}
use Rattle.plan_changes.specs.Stored.{is_before, AreStored}
use Rattle.plan_changes.proofs.FitLaws.{mapped}
use Rattle.plan_changes.proofs.NamesOf.{map_filter, prefix_map, map_insert, map_map}
use Rattle.plan_changes.proofs.StoredLaws.{all_inserted, all_less, add_array, add_version, take_out, cut_versions, stored_numbers}
use Rattle.file_items.specs.Spelling.{IsSpelled}
use Rattle.version_catalog.specs.declared.rules.catalog.BlobAt.{BlobAt}
use Rattle.version_catalog.specs.declared.rules.catalog.CatalogArray.{CatalogArray}
use Rattle.version_catalog.specs.declared.rules.catalog_record.CatalogRecord.TheVariants as entries
use Rattle.version_catalog.specs.Catalogs.{IsBlob, HasDirectories}
use Rattle.version_catalog.specs.Records.{entries_of, is_array, with_new, with_directory, from_version, without}
use Rattle.version_catalog.specs.Changed.{has_its_directory, changed, NamesAreKept, RecordsKeepCatalogs}

abbrev entry_of : CatalogArray → NameEntry
entry_of array = array.entry

abbrev new_array : List ℕ → Schema → CatalogArray
new_array name schema = record { entry = new_entry name schema; directories = [] }

-- ---- entries of changed arrays

pub new_named : (name : List ℕ) (schema : Schema) (arrays : List CatalogArray) → entries_of (with_new name schema arrays) ≡ with_array name schema (entries_of arrays)
new_named name schema arrays =
    map_insert entry_of arrays (prefix_len (λ array. is_before array.entry.name name) arrays) (new_array name schema)
    ∙ ap (λ (i : ℕ). insert (entries_of arrays) i (new_entry name schema)) (sym (prefix_map entry_of (λ entry. is_before entry.name name) arrays))

raised_by : (name : List ℕ) (directory : BlobAt) (a : CatalogArray) (b : Bool) → is_named name a.entry ≡ b
    → (cond b (record { entry = with_version name a.entry; directories = a.directories ++ directory ∷ [] }) a).entry ≡ with_version name a.entry
raised_by name directory a true e = refl
raised_by name directory a false e = sym (ap (λ (t : Bool). cond t (record { name = a.entry.name; schema = a.entry.schema; next = a.entry.next + 1; versions = a.entry.versions ++ a.entry.next ∷ [] }) a.entry) e)

raised_one : (name : List ℕ) (directory : BlobAt) (a : CatalogArray) → (with_directory name directory a).entry ≡ with_version name a.entry
raised_one name directory a = raised_by name directory a (is_named name a.entry) refl

pub raised_named : (name : List ℕ) (directory : BlobAt) (arrays : List CatalogArray) → entries_of (map (with_directory name directory) arrays) ≡ map (with_version name) (entries_of arrays)
raised_named name directory arrays = map_map entry_of (with_directory name directory) (with_version name) (raised_one name directory) arrays

cut_by : (name : List ℕ) (below : ℕ) (a : CatalogArray) (b : Bool) → is_named name a.entry ≡ b
    → (cond b (record { entry = without_below name below a.entry; directories = drop (count_by (λ version. nat_lt version below) a.entry.versions) a.directories }) a).entry ≡ without_below name below a.entry
cut_by name below a true e = refl
cut_by name below a false e =
    sym (ap (λ (t : Bool). cond t (record { name = a.entry.name; schema = a.entry.schema; next = a.entry.next; versions = filter (λ v. not (nat_lt v below)) a.entry.versions }) a.entry) e)

cut_one : (name : List ℕ) (below : ℕ) (a : CatalogArray) → (from_version name below a).entry ≡ without_below name below a.entry
cut_one name below a = cut_by name below a (is_named name a.entry) refl

pub cut_named : (name : List ℕ) (below : ℕ) (arrays : List CatalogArray) → entries_of (map (from_version name below) arrays) ≡ map (without_below name below) (entries_of arrays)
cut_named name below arrays = map_map entry_of (from_version name below) (without_below name below) (cut_one name below) arrays

pub without_named : (name : List ℕ) (arrays : List CatalogArray) → entries_of (without name arrays) ≡ filter (λ entry. not (is_named name entry)) (entries_of arrays)
without_named name arrays = map_filter entry_of (λ entry. not (is_named name entry)) arrays

absent_by : (name : List ℕ) (schema : Schema) (arrays : List CatalogArray) (b : Bool) → entries_of (cond b arrays (with_new name schema arrays)) ≡ cond b (entries_of arrays) (with_array name schema (entries_of arrays))
absent_by name schema arrays true = refl
absent_by name schema arrays false = new_named name schema arrays

changed_named : (arrays : List CatalogArray) (change : Change) (directory : Option BlobAt) → has_its_directory change directory ≡ true → entries_of (changed arrays change directory) ≡ arrays_after (entries_of arrays) change
changed_named arrays (Create name schema) directory fits = new_named name schema arrays
changed_named arrays (Store name schema plan) None fits = absurd cc
changed_named arrays (Store name schema plan) (Some directory) fits =
    raised_named name directory (cond (has_array (entries_of arrays) name) arrays (with_new name schema arrays)) ∙ ap (map (with_version name)) (absent_by name schema arrays (has_array (entries_of arrays) name))
changed_named arrays (Insert name schema plan) None fits = absurd cc
changed_named arrays (Insert name schema plan) (Some directory) fits = raised_named name directory arrays
changed_named arrays (Remove name) directory fits = without_named name arrays
changed_named arrays (RemoveVersions name below) directory fits = cut_named name below arrays

pub names_are_kept : NamesAreKept
names_are_kept catalog change directory fits = ap (λ (arrays : List NameEntry). record { arrays = arrays }) (changed_named catalog.arrays change directory fits)

-- ---- directories of changed arrays

blobs_and : (ds : List BlobAt) (d : BlobAt) → AllByRecursion IsBlob ds → IsBlob d → AllByRecursion IsBlob (ds ++ d ∷ [])
blobs_and [] d all is = (is, tt)
blobs_and (x ∷ ds) d all is = (all.0, blobs_and ds d all.1 is)

blobs_from : (ds : List BlobAt) (k : ℕ) → AllByRecursion IsBlob ds → AllByRecursion IsBlob (drop k ds)
blobs_from [] zero all = tt
blobs_from [] (suc k) all = tt
blobs_from (d ∷ ds) zero all = all
blobs_from (d ∷ ds) (suc k) all = blobs_from ds k all.1

-- as many versions go as are below
kept_by : (b : Bool) (n : ℕ) (left : List ℕ) (gone : ℕ) (count : ℕ) → length left + gone ≡ count → length (cond (not b) (n ∷ left) left) + (cond b 1 0 + gone) ≡ suc count
kept_by true n left gone count e = omega (arith, e)
kept_by false n left gone count e = omega (arith, e)

left_and_gone : (below : ℕ) (ns : List ℕ) → length (filter (λ v. not (nat_lt v below)) ns) + count_by (λ v. nat_lt v below) ns ≡ length ns
left_and_gone below [] = refl
left_and_gone below (n ∷ ns) =
    let step : count_by (λ v. nat_lt v below) (n ∷ ns) ≡ cond (nat_lt n below) 1 0 + count_by (λ v. nat_lt v below) ns = sum_by-cons (λ v. cond (nat_lt v below) 1 0) n ns in
    ap (λ (k : ℕ). length (filter (λ v. not (nat_lt v below)) (n ∷ ns)) + k) step
    ∙ kept_by (nat_lt n below) n (filter (λ v. not (nat_lt v below)) ns) (count_by (λ v. nat_lt v below) ns) (length ns) (left_and_gone below ns)

with_version_is : (name : List ℕ) (entry : NameEntry) → is_named name entry ≡ true → with_version name entry ≡ record { name = entry.name; schema = entry.schema; next = entry.next + 1; versions = entry.versions ++ entry.next ∷ [] }
with_version_is name entry e = ap (λ (t : Bool). cond t (record { name = entry.name; schema = entry.schema; next = entry.next + 1; versions = entry.versions ++ entry.next ∷ [] }) entry) e

without_below_is : (name : List ℕ) (below : ℕ) (entry : NameEntry) → is_named name entry ≡ true → without_below name below entry ≡ record { name = entry.name; schema = entry.schema; next = entry.next; versions = filter (λ v. not (nat_lt v below)) entry.versions }
without_below_is name below entry e = ap (λ (t : Bool). cond t (record { name = entry.name; schema = entry.schema; next = entry.next; versions = filter (λ v. not (nat_lt v below)) entry.versions }) entry) e

raise_by : (name : List ℕ) (directory : BlobAt) (a : CatalogArray) (b : Bool) → is_named name a.entry ≡ b → IsBlob directory → HasDirectories a
    → HasDirectories (cond b (record { entry = with_version name a.entry; directories = a.directories ++ directory ∷ [] }) a)
raise_by name directory a false e is has = has
raise_by name directory a true e is has =
    subst (λ (entry : NameEntry). HasDirectories (record { entry = entry; directories = a.directories ++ directory ∷ [] })) (sym (with_version_is name a.entry e))
    (record { one_each = length-append a.directories (directory ∷ []) ∙ ap (λ (n : ℕ). n + 1) has.one_each ∙ sym (length-append a.entry.versions (a.entry.next ∷ [])); blobs = blobs_and a.directories directory has.blobs is })

raise_one : (name : List ℕ) (directory : BlobAt) → IsBlob directory → (a : CatalogArray) → HasDirectories a → HasDirectories (with_directory name directory a)
raise_one name directory is a has = raise_by name directory a (is_named name a.entry) refl is has

shorten_by : (name : List ℕ) (below : ℕ) (a : CatalogArray) (b : Bool) → is_named name a.entry ≡ b → HasDirectories a
    → HasDirectories (cond b (record { entry = without_below name below a.entry; directories = drop (count_by (λ version. nat_lt version below) a.entry.versions) a.directories }) a)
shorten_by name below a false e has = has
shorten_by name below a true e has =
    let gone = count_by (λ version. nat_lt version below) a.entry.versions in
    let left : length (drop gone a.directories) ≡ length a.directories - gone = length-drop gone a.directories in
    subst (λ (entry : NameEntry). HasDirectories (record { entry = entry; directories = drop gone a.directories })) (sym (without_below_is name below a.entry e))
    (record { one_each = omega (arith, left, left_and_gone below a.entry.versions, has.one_each); blobs = blobs_from a.directories gone has.blobs })

shorten_one : (name : List ℕ) (below : ℕ) (a : CatalogArray) → HasDirectories a → HasDirectories (from_version name below a)
shorten_one name below a has = shorten_by name below a (is_named name a.entry) refl has

new_has_directories : (name : List ℕ) (schema : Schema) (arrays : List CatalogArray) → AllByRecursion HasDirectories arrays → AllByRecursion HasDirectories (with_new name schema arrays)
new_has_directories name schema arrays all =
    all_inserted HasDirectories (new_array name schema) arrays (prefix_len (λ array. is_before array.entry.name name) arrays) (record { one_each = refl; blobs = tt }) all

-- ---- records

abbrev Stored : List NameEntry → Type 0
Stored entries = AreStored (record { arrays = entries })

new_stored : (name : List ℕ) (schema : Schema) (arrays : List CatalogArray) → IsName name → IsSpelled schema → (not (has_array (entries_of arrays) name) && has_room (entries_of arrays)) ≡ true → Stored (entries_of arrays) → Stored (with_array name schema (entries_of arrays))
new_stored name schema arrays named is ok h =
    let a = and_parts (not (has_array (entries_of arrays) name)) (has_room (entries_of arrays)) ok in
    add_array name schema (entries_of arrays) named (record { attributes = is.attributes; dimensions = is.dimensions }) is.valid a.1 (not-true (has_array (entries_of arrays) name) a.0) h

other_has : (name : List ℕ) (e : NameEntry) → is_named name e ≡ false → has_number name e ≡ true
other_has name e apart = ap (λ (t : Bool). not t || nat_lt e.next 65536) apart

absent_numbers : (name : List ℕ) (es : List NameEntry) → has_array es name ≡ false → list_all (has_number name) es ≡ true
absent_numbers name [] none = refl
absent_numbers name (e ∷ es) none =
    let n = or_parts (is_named name e) (has_array es name) none in
    and_from (has_number name e) (list_all (has_number name) es) (other_has name e n.0) (absent_numbers name es n.1)

pub records_keep_catalogs : RecordsKeepCatalogs
records_keep_catalogs catalog (entries.Create name schema) is good ok = record {
  names = subst Stored (sym (new_named name schema catalog.arrays)) (new_stored name schema catalog.arrays good.0 good.1 ok is.names);
  each = new_has_directories name schema catalog.arrays is.each;
}
records_keep_catalogs catalog (entries.First name schema directory) is good ok =
    let a = and_parts (not (has_array (entries_of catalog.arrays) name)) (has_room (entries_of catalog.arrays)) ok in
    let none : has_array (entries_of catalog.arrays) name ≡ false = not-true (has_array (entries_of catalog.arrays) name) a.0 in
    let more : Stored (with_array name schema (entries_of catalog.arrays)) = new_stored name schema catalog.arrays good.0 good.1 ok is.names in
    let entries_are : entries_of (map (with_directory name directory) (with_new name schema catalog.arrays)) ≡ map (with_version name) (with_array name schema (entries_of catalog.arrays)) =
    raised_named name directory (with_new name schema catalog.arrays) ∙ ap (map (with_version name)) (new_named name schema catalog.arrays) in
    record {
      names = subst Stored (sym entries_are) (add_version name (with_array name schema (entries_of catalog.arrays)) (stored_numbers name schema (entries_of catalog.arrays) _ (absent_numbers name (entries_of catalog.arrays) none)) more);
      each = mapped HasDirectories HasDirectories (with_directory name directory) (raise_one name directory good.2) (with_new name schema catalog.arrays) (new_has_directories name schema catalog.arrays is.each);
    }
records_keep_catalogs catalog (entries.Next name directory) is good ok =
    let a = and_parts (has_array (entries_of catalog.arrays) name) (list_all (has_number name) (entries_of catalog.arrays)) ok in
    record {
      names = subst Stored (sym (raised_named name directory catalog.arrays)) (add_version name (entries_of catalog.arrays) a.1 is.names);
      each = mapped HasDirectories HasDirectories (with_directory name directory) (raise_one name directory good.1) catalog.arrays is.each;
    }
records_keep_catalogs catalog (entries.Remove name) is good ok = record {
  names = subst Stored (sym (without_named name catalog.arrays)) (take_out (λ entry. not (is_named name entry)) (entries_of catalog.arrays) is.names);
  each = all_less HasDirectories (λ array. not (is_array name array)) catalog.arrays is.each;
}
records_keep_catalogs catalog (entries.RemoveVersions name below) is good ok = record {
  names = subst Stored (sym (cut_named name below catalog.arrays)) (cut_versions name below (entries_of catalog.arrays) is.names);
  each = mapped HasDirectories HasDirectories (from_version name below) (shorten_one name below) catalog.arrays is.each;
}
