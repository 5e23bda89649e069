-- The directories follow a change of the catalogue and of the database.
use Rattle.std.proofs.Common.{◌≡◌, ℕ, Bool, true, false, cond, ◌&&◌, ◌||◌, List, [], ◌∷◌, map, Option, Some, None, refl, sym, ◌∙◌, ap, subst}
use Rattle.std.specs.Prelude.{Ok}
use Rattle.std.specs.List.{AllByRecursion, AllZip, insert, list_all, prefix_len}
use Rattle.std.proofs.lemmas.Bool.{and_parts}
use Rattle.cell_values.specs.declared.datum.Row.{Row}
use Rattle.cell_values.specs.declared.schema.Schema.{Schema}
use Rattle.cell_values.specs.Schemas.{is_valid}
use Rattle.page_chain.specs.Places.{IsNone}
use Rattle.chunk_map.specs.declared.directory.Directory.{Directory}
use Rattle.chunk_map.specs.Entries.{AreRising}
use Rattle.plan_changes.specs.Query.{Query}
use Rattle.plan_changes.specs.NameEntry.{NameEntry}
use Rattle.plan_changes.specs.Names.{Names}
use Rattle.plan_changes.specs.declared.change.Change.{Change}
use Rattle.plan_changes.specs.declared.change.Change.TheVariants.{Create, Store, Insert, Remove, RemoveVersions}
use Rattle.plan_changes.specs.Allowed.{has_room, has_number}
use Rattle.plan_changes.specs.Changes.{has_array, place_of, new_entry, with_array, name_of}
use Rattle.plan_changes.specs.Databases.{Database, Stored, entry_of, new_rows, with_rows, with_stored, has_stored, after}
use Rattle.plan_changes.specs.Stored.{is_before, IsDatabase, NamesRise}
use Rattle.plan_changes.proofs.NamesOf.{prefix_map, map_insert, names_depend_on_no_row}
use Rattle.plan_changes.proofs.StoredLaws.{all_inserted, add_array, names_in}
use Rattle.version_catalog.specs.declared.rules.catalog.CatalogArray.{CatalogArray}
use Rattle.version_catalog.specs.Records.{entries_of, is_array as has_its_name, with_new, with_directory}
use Rattle.version_catalog.specs.Changed.{changed}
use Rattle.version_catalog.proofs.Kept.{new_named}
use Rattle.file_meaning.specs.Opening.{Rules, rows_in}
use Rattle.file_meaning.specs.Standing.{HoldsVersion, HoldsVersions}
use Rattle.file_meaning.proofs.More.{Beside}
use Rattle.file_meaning.specs.Next.{Made, blob_of, with_empty, with_made, rows_after}
use Rattle.file_meaning.specs.Premises.{MayChange, OfVersion, row_of, made_pages}
use Rattle.file_meaning.proofs.Free.{AreNamed, Differ, crossed}
use Rattle.file_meaning.proofs.Appended.{entries_in, IsNew}
use Rattle.file_meaning.proofs.Rows.{all_pages, rows_insert, rows_without, rows_made, new_pages, HasOnce, AreNew}
use Rattle.file_meaning.proofs.Cut.{rows_cut}
use Rattle.file_meaning.proofs.Held.{Suits, zip_insert, zip_without, zip_made, zip_cut}
use Rattle.file_meaning.proofs.Lists.{HasSchema, once_by, none_has, own_schema, row_absent, row_inserted, rows_length, pages_inserted, any_stored, length_map}

-- directories that were found beside `more`
pub record Before (extra file : List ℕ) (rules : Rules) (more less : List ℕ) (arrays : List CatalogArray) (rows : List (List Directory)) : Type 0 where
  pub is : rows_in file rules more arrays ≡ Ok rows
  pub beside : Beside extra file more less
  pub apart : AllByRecursion (IsNone extra) (all_pages arrays rows)

-- the pages of a new version
pub record Fresh (extra file less pages stored : List ℕ) : Type 0 where
  pub named : AreNamed file less pages
  pub differ : Differ pages
  pub within : (p : ℕ) → IsNone extra p → IsNone pages p
  pub apart : AllByRecursion (IsNone stored) pages

abbrev new_array : List ℕ → Schema → CatalogArray
new_array name schema = record { entry = new_entry name schema; directories = [] }

abbrev place_in : List ℕ → List CatalogArray → ℕ
place_in name arrays = prefix_len (λ array. is_before array.entry.name name) arrays

same_place : (name : List ℕ) (arrays : List CatalogArray) → place_of (entries_of arrays) name ≡ place_in name arrays
same_place name arrays = prefix_map (λ (array : CatalogArray). array.entry) (λ entry. is_before entry.name name) arrays

-- ---- the catalogue's side

follow_create : (extra file : List ℕ) (rules : Rules) (more less : List ℕ) (arrays : List CatalogArray) (rows : List (List Directory)) (name : List ℕ) (schema : Schema) → Before extra file rules more less arrays rows
    → rows_in file rules less (with_new name schema arrays) ≡ Ok (with_empty name (entries_of arrays) rows)
follow_create extra file rules more less arrays rows name schema before =
    rows_insert extra file rules name schema arrays (place_in name arrays) more less rows before.is before.beside before.apart
    ∙ ap (λ (i : ℕ). Ok (insert rows i [])) (sym (same_place name arrays))

are_new : (file : List ℕ) (rules : Rules) (name : List ℕ) (schema : Schema) (made : Made) (arrays : List CatalogArray) → IsNew file rules schema.dimensions made.at made.directory → AllByRecursion (HasSchema name schema) (entries_of arrays) → AreNew file rules name made arrays
are_new file rules name schema made [] new same = tt
are_new file rules name schema made (array ∷ arrays) new same =
    (λ named. subst (λ (s : Schema). IsNew file rules s.dimensions made.at made.directory) (sym (same.0 named)) new, are_new file rules name schema made arrays new same.1)

follow_made : (extra file : List ℕ) (rules : Rules) (more less : List ℕ) (arrays : List CatalogArray) (rows : List (List Directory)) (name : List ℕ) (schema : Schema) (made : Made) → Before extra file rules more less arrays rows
    → Fresh extra file less (new_pages (entries_in (row_of name (entries_of arrays) rows)) made) (all_pages arrays rows) → HasOnce name (entries_of arrays) → AllByRecursion (HasSchema name schema) (entries_of arrays)
    → IsNew file rules schema.dimensions made.at made.directory
    → rows_in file rules less (map (with_directory name made.at) arrays) ≡ Ok (with_made name (Some made) (entries_of arrays) rows)
follow_made extra file rules more less arrays rows name schema made before fresh once same new =
    rows_made extra file rules name made (entries_in (row_of name (entries_of arrays) rows)) arrays more less rows before.is before.beside before.apart fresh.named fresh.differ fresh.within fresh.apart once refl
    (are_new file rules name schema made arrays new same)

follow_first : (extra file : List ℕ) (rules : Rules) (more less : List ℕ) (arrays : List CatalogArray) (rows : List (List Directory)) (name : List ℕ) (schema : Schema) (made : Made) → Before extra file rules more less arrays rows
    → Fresh extra file less (new_pages (entries_in (row_of name (entries_of arrays) rows)) made) (all_pages arrays rows) → has_array (entries_of arrays) name ≡ false → NamesRise (names_in (with_array name schema (entries_of arrays)))
    → IsNew file rules schema.dimensions made.at made.directory
    → rows_in file rules less (map (with_directory name made.at) (with_new name schema arrays)) ≡ Ok (with_made name (Some made) (with_array name schema (entries_of arrays)) (with_empty name (entries_of arrays) rows))
follow_first extra file rules more less arrays rows name schema made before fresh none rise new =
    let es = entries_of arrays in
    let i = place_in name arrays in
    let seen = entries_in (row_of name es rows) in
    let pages = new_pages seen made in
    let each = rows_length file rules arrays more rows before.is in
    let found = rows_insert extra file rules name schema arrays i more less rows before.is before.beside before.apart in
    let stored : all_pages (with_new name schema arrays) (insert rows i []) ≡ all_pages arrays rows = pages_inserted (new_array name schema) refl arrays rows i each in
    let named : entries_of (with_new name schema arrays) ≡ insert es i (new_entry name schema) = map_insert (λ (array : CatalogArray). array.entry) arrays i (new_array name schema) in
    let old : seen ≡ [] = ap entries_in (row_absent name es rows none) in
    let own : row_of name (entries_of (with_new name schema arrays)) (insert rows i []) ≡ []
    = ap (λ (xs : List NameEntry). row_of name xs (insert rows i [])) named ∙ row_inserted name schema es rows i (each ∙ sym (length_map (λ (array : CatalogArray). array.entry) arrays)) none in
    rows_made pages file rules name made seen (with_new name schema arrays) less less (insert rows i []) found (λ p apart names. names)
    (subst (AllByRecursion (IsNone pages)) (sym stored) (crossed (all_pages arrays rows) pages fresh.apart)) fresh.named fresh.differ (λ p apart. apart)
    (subst (λ (ps : List ℕ). AllByRecursion (IsNone ps) pages) (sym stored) fresh.apart)
    (subst (HasOnce name) (sym (new_named name schema arrays)) (once_by name (with_array name schema es) rise))
    (old ∙ sym (ap entries_in own))
    (all_inserted (λ (array : CatalogArray). has_its_name name array ≡ true → IsNew file rules array.entry.schema.dimensions made.at made.directory) (new_array name schema) arrays i (λ yes. new)
    (are_new file rules name schema made arrays new (none_has name schema es none)))
    ∙ ap (λ (xs : List NameEntry). Ok (with_made name (Some made) xs (insert rows i []))) (new_named name schema arrays)
    ∙ ap (λ (k : ℕ). Ok (with_made name (Some made) (with_array name schema es) (insert rows k []))) (sym (same_place name arrays))

follow_store : (extra file : List ℕ) (rules : Rules) (more less : List ℕ) (arrays : List CatalogArray) (rows : List (List Directory)) (name : List ℕ) (schema : Schema) (made : Made) → Before extra file rules more less arrays rows
    → Fresh extra file less (new_pages (entries_in (row_of name (entries_of arrays) rows)) made) (all_pages arrays rows) → HasOnce name (entries_of arrays) → AllByRecursion (HasSchema name schema) (entries_of arrays)
    → (has_array (entries_of arrays) name ≡ false → NamesRise (names_in (with_array name schema (entries_of arrays)))) → IsNew file rules schema.dimensions made.at made.directory → (b : Bool) → has_array (entries_of arrays) name ≡ b
    → rows_in file rules less (map (with_directory name made.at) (cond b arrays (with_new name schema arrays)))
    ≡ Ok (with_made name (Some made) (cond b (entries_of arrays) (with_array name schema (entries_of arrays))) (cond b rows (with_empty name (entries_of arrays) rows)))
follow_store extra file rules more less arrays rows name schema made before fresh once same rise new true has = follow_made extra file rules more less arrays rows name schema made before fresh once same new
follow_store extra file rules more less arrays rows name schema made before fresh once same rise new false has = follow_first extra file rules more less arrays rows name schema made before fresh has (rise has) new

-- what a version needs in the file
abbrev pub IsNewOf : List ℕ → Rules → Schema → List Row → Made → Type 0
IsNewOf file rules schema rows made = IsNew file rules schema.dimensions made.at made.directory

schema_of_store : (db : Database) (name : List ℕ) (schema : Schema) (plan : Query) → IsDatabase db → MayChange db (Store name schema plan) → AllByRecursion (HasSchema name schema) (map entry_of db)
schema_of_store db name schema plan is may = own_schema name schema plan (map entry_of db) (once_by name (map entry_of db) is.names.rising) may.typed.1.1

rise_of_store : (db : Database) (name : List ℕ) (schema : Schema) (plan : Query) → IsDatabase db → MayChange db (Store name schema plan) → has_array (map entry_of db) name ≡ false → NamesRise (names_in (with_array name schema (map entry_of db)))
rise_of_store db name schema plan is may none =
    let es = map entry_of db in
    let a = and_parts (is_valid schema) ((has_array es name || has_room es) && list_all (has_number name) es) may.typed.0 in
    let b = and_parts (has_array es name || has_room es) (list_all (has_number name) es) a.1 in
    let room : has_room es ≡ true = ap (λ (t : Bool). t || has_room es) (sym none) ∙ b.0 in
    (add_array name schema es may.named.0 may.named.1 a.0 room none is.names).rising

pub rows_follow : (extra file : List ℕ) (rules : Rules) (more less : List ℕ) (arrays : List CatalogArray) (rows : List (List Directory)) (db : Database) (change : Change) (made : Option Made) → Before extra file rules more less arrays rows
    → Fresh extra file less (made_pages (entries_in (row_of (name_of change) (entries_of arrays) rows)) made) (all_pages arrays rows) → IsDatabase db → MayChange db change → entries_of arrays ≡ map entry_of db
    → AllByRecursion (AllByRecursion (λ d. AreRising d.entries)) rows → OfVersion (IsNewOf file rules) db change made
    → rows_in file rules less (changed arrays change (blob_of made)) ≡ Ok (rows_after (entries_of arrays) change made rows)
rows_follow extra file rules more less arrays rows db (Create name schema) made before fresh is may names rising new = follow_create extra file rules more less arrays rows name schema before
rows_follow extra file rules more less arrays rows db (Store name schema plan) None before fresh is may names rising new = absurd new
rows_follow extra file rules more less arrays rows db (Store name schema plan) (Some made) before fresh is may names rising new =
    follow_store extra file rules more less arrays rows name schema made before fresh
    (subst (HasOnce name) (sym names) (once_by name (map entry_of db) is.names.rising))
    (subst (AllByRecursion (HasSchema name schema)) (sym names) (schema_of_store db name schema plan is may))
    (subst (λ (es : List NameEntry). has_array es name ≡ false → NamesRise (names_in (with_array name schema es))) (sym names) (rise_of_store db name schema plan is may)) new
    (has_array (entries_of arrays) name) refl
rows_follow extra file rules more less arrays rows db (Insert name schema plan) None before fresh is may names rising new = absurd new
rows_follow extra file rules more less arrays rows db (Insert name schema plan) (Some made) before fresh is may names rising new =
    let once = once_by name (map entry_of db) is.names.rising in
    follow_made extra file rules more less arrays rows name schema made before fresh (subst (HasOnce name) (sym names) once)
    (subst (AllByRecursion (HasSchema name schema)) (sym names) (own_schema name schema plan (map entry_of db) once may.typed.1.1)) new
rows_follow extra file rules more less arrays rows db (Remove name) made before fresh is may names rising new = rows_without extra file rules name arrays more less rows before.is before.beside before.apart
rows_follow extra file rules more less arrays rows db (RemoveVersions name below) made before fresh is may names rising new = rows_cut extra file rules name below arrays more less rows before.is before.beside before.apart rising

-- ---- the database's side

abbrev pub HoldsVersionOf : List ℕ → Schema → List Row → Made → Type 0
HoldsVersionOf file schema rows made = HoldsVersion file schema made.directory rows

suits_all : (file name : List ℕ) (schema : Schema) (rows : List Row) (made : Made) (db : Database) → HoldsVersion file schema made.directory rows → AllByRecursion (HasSchema name schema) (map entry_of db) → AllByRecursion (Suits file name made rows) db
suits_all file name schema rows made [] holds same = tt
suits_all file name schema rows made (a ∷ db) holds same =
    (λ named. subst (λ (s : Schema). HoldsVersion file s made.directory rows) (sym (same.0 named)) holds, suits_all file name schema rows made db holds same.1)

abbrev new_stored : List ℕ → Schema → Stored
new_stored name schema = record { name = name; schema = schema; next = 1; versions = [] }

zip_create : (file name : List ℕ) (schema : Schema) (db : Database) (rows : List (List Directory)) → AllZip (HoldsVersions file) db rows → AllZip (HoldsVersions file) (with_stored name schema db) (with_empty name (map entry_of db) rows)
zip_create file name schema db rows zip =
    subst (λ (i : ℕ). AllZip (HoldsVersions file) (with_stored name schema db) (insert rows i [])) (sym (prefix_map entry_of (λ entry. is_before entry.name name) db))
    (zip_insert (HoldsVersions file) db rows (prefix_len (λ a. is_before a.name name) db) (new_stored name schema) [] tt zip)

zip_store : (file name : List ℕ) (schema : Schema) (new : List Row) (made : Made) (db : Database) (rows : List (List Directory)) → HoldsVersion file schema made.directory new → AllByRecursion (HasSchema name schema) (map entry_of db)
    → AllZip (HoldsVersions file) db rows → (b c : Bool) → has_array (map entry_of db) name ≡ b → c ≡ b
    → AllZip (HoldsVersions file) (map (with_rows name new) (cond c db (with_stored name schema db))) (with_made name (Some made) (cond b (map entry_of db) (with_array name schema (map entry_of db))) (cond b rows (with_empty name (map entry_of db) rows)))
zip_store file name schema new made db rows holds same zip true true has agree = zip_made file name made new db rows (suits_all file name schema new made db holds same) zip
zip_store file name schema new made db rows holds same zip true false has agree = absurd cc
zip_store file name schema new made db rows holds same zip false true has agree = absurd cc
zip_store file name schema new made db rows holds same zip false false has agree =
    let named : map entry_of (with_stored name schema db) ≡ with_array name schema (map entry_of db) = ap (λ (n : Names). n.arrays) (names_depend_on_no_row db (Create name schema)) in
    let more : AllByRecursion (Suits file name made new) (with_stored name schema db)
    = all_inserted (Suits file name made new) (new_stored name schema) db (prefix_len (λ a. is_before a.name name) db) (λ yes. holds) (suits_all file name schema new made db holds same) in
    subst (λ (es : List NameEntry). AllZip (HoldsVersions file) (map (with_rows name new) (with_stored name schema db)) (with_made name (Some made) es (with_empty name (map entry_of db) rows))) named
    (zip_made file name made new (with_stored name schema db) (with_empty name (map entry_of db) rows) more (zip_create file name schema db rows zip))

pub versions_follow : (file : List ℕ) (db : Database) (change : Change) (made : Option Made) (rows : List (List Directory)) → IsDatabase db → MayChange db change → OfVersion (HoldsVersionOf file) db change made → AllZip (HoldsVersions file) db rows
    → AllZip (HoldsVersions file) (after db change) (rows_after (map entry_of db) change made rows)
versions_follow file db (Create name schema) made rows is may holds zip = zip_create file name schema db rows zip
versions_follow file db (Store name schema plan) None rows is may holds zip = absurd holds
versions_follow file db (Store name schema plan) (Some made) rows is may holds zip =
    zip_store file name schema (new_rows db (Store name schema plan)) made db rows holds (schema_of_store db name schema plan is may) zip (has_array (map entry_of db) name) (has_stored db name) refl (any_stored name db)
versions_follow file db (Insert name schema plan) None rows is may holds zip = absurd holds
versions_follow file db (Insert name schema plan) (Some made) rows is may holds zip =
    zip_made file name made (new_rows db (Insert name schema plan)) db rows
    (suits_all file name schema (new_rows db (Insert name schema plan)) made db holds (own_schema name schema plan (map entry_of db) (once_by name (map entry_of db) is.names.rising) may.typed.1.1)) zip
versions_follow file db (Remove name) made rows is may holds zip = zip_without (HoldsVersions file) name db rows zip
versions_follow file db (RemoveVersions name below) made rows is may holds zip = zip_cut file name below db rows is.names.each zip
