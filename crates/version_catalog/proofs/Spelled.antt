-- The record of a change has a spelling, and the change leaves a catalogue that has one.
use Rattle.std.proofs.Common.{◌≡◌, ℕ, suc, ◌-◌, ◌≤◌, Bool, true, false, cond, ◌&&◌, ◌||◌, not, nat_le, List, [], ◌∷◌, length, Option, Some, None, IsTrue, refl, sym, subst, arith}
use Rattle.std.specs.Prelude.{slice_index_or}
use Rattle.std.specs.List.{AllByRecursion, find, list_all}
use Rattle.std.proofs.lemmas.Bool.{and_parts, leb-true}
use Rattle.cell_values.specs.Naming.{IsName}
use Rattle.cell_values.specs.Schemas.{is_valid}
use Rattle.cell_values.specs.declared.schema.Schema.{Schema}
use Rattle.plan_changes.specs.NameEntry.{NameEntry}
use Rattle.plan_changes.specs.declared.change.Change.{Change}
use Rattle.plan_changes.specs.declared.change.Change.TheVariants.{Create, Store, Insert, Remove, RemoveVersions}
use Rattle.plan_changes.specs.Allowed.{has_room, has_number, names_allow}
use Rattle.plan_changes.specs.Changes.{is_named, has_array, last_of, newest_or, newest_of}
use Rattle.plan_changes.specs.Stored.{RiseBetween, HasNames, IsStored, HasItsNames}
use Rattle.file_items.specs.Spelling.{IsSpelled}
use Rattle.version_catalog.specs.declared.rules.catalog.BlobAt.{BlobAt}
use Rattle.version_catalog.specs.declared.rules.catalog.Catalog.{Catalog}
use Rattle.version_catalog.specs.declared.rules.catalog_record.CatalogRecord.{CatalogRecord}
use Rattle.version_catalog.specs.declared.rules.catalog_record.CatalogRecord.TheVariants as entries
use Rattle.version_catalog.specs.Catalogs.{IsBlob, IsCatalog, IsRecord, names_in}
use Rattle.version_catalog.specs.Records.{entries_of}
use Rattle.version_catalog.specs.Changed.{stored_by, record_for, after_change, IsItsBlob, ChangesHaveRecords, ChangesKeepCatalogs}
use Rattle.version_catalog.proofs.Kept.{records_keep_catalogs}
use Rattle.version_catalog.proofs.Recorded.{record_made, record_stands}

-- ---- numbers of versions are small

last_small : (low high : ℕ) (ns : List ℕ) → RiseBetween low high ns → last_of ns ≤ high
last_small low high [] h = omega arith
last_small low high (n ∷ []) h = omega (arith, h.1)
last_small low high (n ∷ m ∷ ns) h =
    let e : length (n ∷ m ∷ ns) - 1 ≡ suc (length (m ∷ ns) - 1) = omega arith in
    subst (λ (i : ℕ). slice_index_or (n ∷ m ∷ ns) i 0 ≤ high) (sym e) (last_small n high (m ∷ ns) h.2)

newest_small : (name : List ℕ) (es : List NameEntry) → AllByRecursion IsStored es → newest_of es name ≤ 65536
newest_small name [] all = omega arith
newest_small name (e ∷ es) all = by_test (is_named name e) (newest_small name es all.1)
  where
    by_test : (b : Bool) → newest_or (find (is_named name) es) ≤ 65536 → newest_or (cond b (Some e) (find (is_named name) es)) ≤ 65536
    by_test true later = omega (arith, last_small 0 e.next e.versions all.0.versions, all.0.next.1)
    by_test false later = later

-- ---- records

spelled : (schema : Schema) → is_valid schema ≡ true → HasNames schema → IsSpelled schema
spelled schema valid named = record { valid = valid; attributes = named.attributes; dimensions = named.dimensions }

same_record : (made entry : CatalogRecord) → record_made made ≡ record_made entry → IsRecord made → IsRecord entry
same_record made entry e is = let same : made ≡ entry = cc in subst IsRecord same is

stored_is : (b : Bool) (name : List ℕ) (schema : Schema) (directory : BlobAt) → IsName name → IsSpelled schema → IsBlob directory → IsRecord (cond b (entries.Next name directory) (entries.First name schema directory))
stored_is true name schema directory named is blob = (named, blob)
stored_is false name schema directory named is blob = (named, is, blob)

pub changes_have_records : ChangesHaveRecords
changes_have_records catalog (Create name schema) directory entry is named ok blob e =
    let valid = (and_parts (is_valid schema) (has_room (entries_of catalog.arrays) && not (has_array (entries_of catalog.arrays) name)) ok).0 in
    same_record (entries.Create name schema) entry e (named.0, spelled schema valid named.1)
changes_have_records catalog (Store name schema plan) None entry is named ok blob e = absurd cc
changes_have_records catalog (Store name schema plan) (Some directory) entry is named ok blob e =
    let valid = (and_parts (is_valid schema) ((has_array (entries_of catalog.arrays) name || has_room (entries_of catalog.arrays)) && list_all (has_number name) (entries_of catalog.arrays)) ok).0 in
    same_record (stored_by catalog name schema directory) entry e (stored_is (has_array (entries_of catalog.arrays) name) name schema directory named.0 (spelled schema valid named.1) blob)
changes_have_records catalog (Insert name schema plan) None entry is named ok blob e = absurd cc
changes_have_records catalog (Insert name schema plan) (Some directory) entry is named ok blob e = same_record (entries.Next name directory) entry e (named, blob)
changes_have_records catalog (Remove name) directory entry is named ok blob e = same_record (entries.Remove name) entry e named
changes_have_records catalog (RemoveVersions name below) directory entry is named ok blob e =
    let a = and_parts (has_array (entries_of catalog.arrays) name) (nat_le 1 below && nat_le below (newest_of (entries_of catalog.arrays) name)) ok in
    let b = and_parts (nat_le 1 below) (nat_le below (newest_of (entries_of catalog.arrays) name)) a.1 in
    let least : below ≤ newest_of (entries_of catalog.arrays) name = leb-true below (newest_of (entries_of catalog.arrays) name) b.1 in
    let small : newest_of (entries_of catalog.arrays) name ≤ 65536 = newest_small name (entries_of catalog.arrays) is.names.each in
    same_record (entries.RemoveVersions name below) entry e (named, omega (arith, least, small))

-- ---- catalogues

kept_by : (catalog : Catalog) (change : Change) (directory : Option BlobAt) (entry : CatalogRecord) → record_for catalog change directory ≡ record_made entry → IsCatalog catalog → HasItsNames change → IsTrue (names_allow (names_in catalog) change) → IsItsBlob directory
    → IsCatalog (after_change catalog change directory)
kept_by catalog change directory entry e is named ok blob =
    let stands = record_stands catalog change directory entry ok e in
    subst IsCatalog stands.same (records_keep_catalogs catalog entry is (changes_have_records catalog change directory entry is named ok blob e) stands.allowed)

pub changes_keep_catalogs : ChangesKeepCatalogs
changes_keep_catalogs catalog (Create name schema) directory is named ok has blob = kept_by catalog (Create name schema) directory (entries.Create name schema) refl is named ok blob
changes_keep_catalogs catalog (Store name schema plan) None is named ok has blob = absurd cc
changes_keep_catalogs catalog (Store name schema plan) (Some directory) is named ok has blob = kept_by catalog (Store name schema plan) (Some directory) (stored_by catalog name schema directory) refl is named ok blob
changes_keep_catalogs catalog (Insert name schema plan) None is named ok has blob = absurd cc
changes_keep_catalogs catalog (Insert name schema plan) (Some directory) is named ok has blob = kept_by catalog (Insert name schema plan) (Some directory) (entries.Next name directory) refl is named ok blob
changes_keep_catalogs catalog (Remove name) directory is named ok has blob = kept_by catalog (Remove name) directory (entries.Remove name) refl is named ok blob
changes_keep_catalogs catalog (RemoveVersions name below) directory is named ok has blob = kept_by catalog (RemoveVersions name below) directory (entries.RemoveVersions name below) refl is named ok blob
