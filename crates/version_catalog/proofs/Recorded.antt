-- The record of a change makes of the catalogue what the change does, and is allowed.
use Rattle.std.proofs.Common.{◌≡◌, ℕ, Bool, true, false, cond, not, ◌&&◌, ◌||◌, List, map, Option, Some, None, Result, Ok, Err, IfOk, IsTrue, refl, sym, ap, subst}
use Rattle.std.specs.List.{list_all}
use Rattle.std.proofs.lemmas.Bool.{and_parts, and_from}
use Rattle.cell_values.specs.declared.memory.Memory.{Memory}
use Rattle.cell_values.specs.declared.schema.Schema.{Schema}
use Rattle.cell_values.specs.Schemas.{is_valid}
use Rattle.plan_changes.specs.Query.{Query}
use Rattle.plan_changes.specs.declared.change.Change.{Change}
use Rattle.plan_changes.specs.declared.change.Change.TheVariants.{Create, Store, Insert, Remove, RemoveVersions}
use Rattle.plan_changes.specs.Allowed.{has_room, has_number, names_allow}
use Rattle.plan_changes.specs.Changes.{has_array}
use Rattle.version_catalog.specs.declared.rules.catalog.BlobAt.{BlobAt}
use Rattle.version_catalog.specs.declared.rules.catalog.CatalogArray.{CatalogArray}
use Rattle.version_catalog.specs.declared.rules.catalog.Catalog.{Catalog}
use Rattle.version_catalog.specs.declared.rules.catalog_record.CatalogRecord.{CatalogRecord}
use Rattle.version_catalog.specs.declared.rules.catalog_record.CatalogRecord.TheVariants as entries
use Rattle.version_catalog.specs.Catalogs.{names_in}
use Rattle.version_catalog.specs.Records.{entries_of, with_new, with_directory, is_allowed, after_record}
use Rattle.version_catalog.specs.Changed.{stored_by, record_for, after_change}

abbrev pub record_made : CatalogRecord → Option CatalogRecord
record_made entry = Some entry

-- what the record of a change does
pub record Stands (catalog : Catalog) (change : Change) (directory : Option BlobAt) (entry : CatalogRecord) : Type 0 where
  pub allowed : IsTrue (is_allowed catalog entry)
  pub same : after_record catalog entry ≡ after_change catalog change directory

pub create_stands : (catalog : Catalog) (name : List ℕ) (schema : Schema) (directory : Option BlobAt) → IsTrue (names_allow (names_in catalog) (Create name schema)) → Stands catalog (Create name schema) directory (entries.Create name schema)
create_stands catalog name schema directory ok =
    let a = and_parts (is_valid schema) (has_room (entries_of catalog.arrays) && not (has_array (entries_of catalog.arrays) name)) ok in
    let b = and_parts (has_room (entries_of catalog.arrays)) (not (has_array (entries_of catalog.arrays) name)) a.1 in
    record { allowed = and_from (not (has_array (entries_of catalog.arrays) name)) (has_room (entries_of catalog.arrays)) b.1 b.0; same = refl }

-- the arrays after a store, by whether an array has the name
abbrev stored_arrays : Catalog → List ℕ → Schema → BlobAt → Bool → List CatalogArray
stored_arrays catalog name schema directory b = map (with_directory name directory) (cond b catalog.arrays (with_new name schema catalog.arrays))

by_presence : (catalog : Catalog) (name : List ℕ) (schema : Schema) (plan : Query) (directory : BlobAt) (b : Bool) → has_array (entries_of catalog.arrays) name ≡ b
    → (b || has_room (entries_of catalog.arrays)) ≡ true → list_all (has_number name) (entries_of catalog.arrays) ≡ true
    → Stands catalog (Store name schema plan) (Some directory) (cond b (entries.Next name directory) (entries.First name schema directory))
by_presence catalog name schema plan directory true e room numbers = record {
  allowed = and_from (has_array (entries_of catalog.arrays) name) (list_all (has_number name) (entries_of catalog.arrays)) e numbers;
  same = ap (λ (t : Bool). record { arrays = stored_arrays catalog name schema directory t }) (sym e);
}
by_presence catalog name schema plan directory false e room numbers = record {
  allowed = and_from (not (has_array (entries_of catalog.arrays) name)) (has_room (entries_of catalog.arrays)) (ap not e) room;
  same = ap (λ (t : Bool). record { arrays = stored_arrays catalog name schema directory t }) (sym e);
}

pub store_stands : (catalog : Catalog) (name : List ℕ) (schema : Schema) (plan : Query) (directory : BlobAt) → IsTrue (names_allow (names_in catalog) (Store name schema plan))
    → Stands catalog (Store name schema plan) (Some directory) (stored_by catalog name schema directory)
store_stands catalog name schema plan directory ok =
    let a = and_parts (is_valid schema) ((has_array (entries_of catalog.arrays) name || has_room (entries_of catalog.arrays)) && list_all (has_number name) (entries_of catalog.arrays)) ok in
    let b = and_parts (has_array (entries_of catalog.arrays) name || has_room (entries_of catalog.arrays)) (list_all (has_number name) (entries_of catalog.arrays)) a.1 in
    by_presence catalog name schema plan directory (has_array (entries_of catalog.arrays) name) refl b.0 b.1

pub insert_stands : (catalog : Catalog) (name : List ℕ) (schema : Schema) (plan : Query) (directory : BlobAt) → IsTrue (names_allow (names_in catalog) (Insert name schema plan)) → Stands catalog (Insert name schema plan) (Some directory) (entries.Next name directory)
insert_stands catalog name schema plan directory ok = record { allowed = ok; same = refl }

pub remove_stands : (catalog : Catalog) (name : List ℕ) (directory : Option BlobAt) → IsTrue (names_allow (names_in catalog) (Remove name)) → Stands catalog (Remove name) directory (entries.Remove name)
remove_stands catalog name directory ok = record { allowed = ok; same = refl }

pub cut_stands : (catalog : Catalog) (name : List ℕ) (below : ℕ) (directory : Option BlobAt) → IsTrue (names_allow (names_in catalog) (RemoveVersions name below)) → Stands catalog (RemoveVersions name below) directory (entries.RemoveVersions name below)
cut_stands catalog name below directory ok = record { allowed = ok; same = refl }

some_is : (x y : CatalogRecord) → record_made x ≡ record_made y → x ≡ y
some_is x y e = cc

-- what the change's record does, whichever change it is
made_stands : (catalog : Catalog) (change : Change) (directory : Option BlobAt) (made entry : CatalogRecord) → Stands catalog change directory made → record_made made ≡ record_made entry → Stands catalog change directory entry
made_stands catalog change directory made entry stands e = subst (Stands catalog change directory) (some_is made entry e) stands

pub record_stands : (catalog : Catalog) (change : Change) (directory : Option BlobAt) (entry : CatalogRecord) → IsTrue (names_allow (names_in catalog) change) → record_for catalog change directory ≡ record_made entry → Stands catalog change directory entry
record_stands catalog (Create name schema) directory entry ok e = made_stands catalog (Create name schema) directory (entries.Create name schema) entry (create_stands catalog name schema directory ok) e
record_stands catalog (Store name schema plan) None entry ok e = absurd cc
record_stands catalog (Store name schema plan) (Some directory) entry ok e =
    made_stands catalog (Store name schema plan) (Some directory) (stored_by catalog name schema directory) entry (store_stands catalog name schema plan directory ok) e
record_stands catalog (Insert name schema plan) None entry ok e = absurd cc
record_stands catalog (Insert name schema plan) (Some directory) entry ok e = made_stands catalog (Insert name schema plan) (Some directory) (entries.Next name directory) entry (insert_stands catalog name schema plan directory ok) e
record_stands catalog (Remove name) directory entry ok e = made_stands catalog (Remove name) directory (entries.Remove name) entry (remove_stands catalog name directory ok) e
record_stands catalog (RemoveVersions name below) directory entry ok e = made_stands catalog (RemoveVersions name below) directory (entries.RemoveVersions name below) entry (cut_stands catalog name below directory ok) e

-- what is answered is the record
pub if_stands : (catalog : Catalog) (change : Change) (directory : Option BlobAt) (r : Result CatalogRecord Memory) → IsTrue (names_allow (names_in catalog) change)
    → IfOk r (λ entry. record_for catalog change directory ≡ record_made entry) → IfOk r (Stands catalog change directory)
if_stands catalog change directory (Ok entry) ok e = record_stands catalog change directory entry ok e
if_stands catalog change directory (Err memory) ok e = tt

pub if_allowed : (catalog : Catalog) (change : Change) (directory : Option BlobAt) (r : Result CatalogRecord Memory) → IfOk r (Stands catalog change directory) → IfOk r (λ entry. IsTrue (is_allowed catalog entry))
if_allowed catalog change directory (Ok entry) s = s.allowed
if_allowed catalog change directory (Err memory) s = tt

pub if_same : (catalog : Catalog) (change : Change) (directory : Option BlobAt) (r : Result CatalogRecord Memory) → IfOk r (Stands catalog change directory)
    → IfOk r (λ entry. after_record catalog entry ≡ after_change catalog change directory)
if_same catalog change directory (Ok entry) s = s.same
if_same catalog change directory (Err memory) s = tt
