-- What is found, and the chunks of a change, are what a commit of it is handed.
use Rattle.std.proofs.Common.{◌≡◌, ℕ, Bool, true, false, cond, ◌||◌, List, [], ◌∷◌, Option, Some, None, refl, sym, ◌∙◌, ap, subst}
use Rattle.std.specs.Prelude.{Ok, IfSome}
use Rattle.std.specs.List.{list_all, find}
use Rattle.std.proofs.lemmas.Bool.{and_parts}
use Rattle.cell_values.specs.declared.schema.Schema.{Schema}
use Rattle.array_geom.specs.declared.chunk.Changed.{Changed}
use Rattle.chunk_map.specs.declared.directory.Directory.{Directory}
use Rattle.logical_plan.specs.declared.names.NameEntry.{NameEntry}
use Rattle.logical_plan.specs.declared.names.Names.{Names}
use Rattle.plan_changes.specs.declared.change.Change.{Change}
use Rattle.plan_changes.specs.declared.change.Change.TheVariants.{Create, Store, Insert, Remove, RemoveVersions}
use Rattle.plan_changes.specs.Allowed.{has_number}
use Rattle.plan_changes.specs.Changes.{is_named, has_array, entry_named, name_of}
use Rattle.plan_changes.specs.Databases.{Database, names_of, newest_rows}
use Rattle.plan_changes.specs.Typed.{FitsInto, IsTypedFor}
use Rattle.version_catalog.specs.declared.rules.catalog.Catalog.{Catalog}
use Rattle.file_meaning.specs.Slots.{Slots}
use Rattle.file_meaning.specs.Opening.{Rules, rows_in, sequence_of}
use Rattle.file_meaning.specs.declared.meaning.found.Found.{Found}
use Rattle.file_meaning.proofs.Elsewhere.{found_steps}
use Rattle.file_meaning.specs.NextLaws.{FoundDirectoriesRise}
use Rattle.file_meaning.specs.Premises.{StandsBy, row_of}
use Rattle.commit_pages.specs.Changes.{ComesWith}
use Rattle.commit_pages.specs.Laws.{IsNewest}
use Rattle.store_state.specs.LaidPremises.{IsNewestIn, newest_in, last_of_row}
use Rattle.store_state.specs.CostsLaws.{FoundCatalogsAreAlike, FoundDirectoriesAreOfTheirRows, FoundFilesAreOver}
use Rattle.store_state.proofs.FoundRows.{IsOf, AreTold, rows_told}
use Rattle.store_state.proofs.CostsNewest.{newest_told}

told : FoundDirectoriesRise → (file : List ℕ) (slots : Slots) (db : Database) (found : Found) → StandsBy file slots db found → AreTold found.catalog.arrays db found.directories
told rise file slots db found stands =
    let s = found_steps file slots found stands.finds in
    let rules : Rules = record { first = slots.current.root.first; sequence = sequence_of slots } in
    rows_told file rules found.catalog.arrays s.logged.taken found.directories db (ap (λ (n : Names). n.arrays) stands.holds.names) stands.database.rows (rise file slots db found stands)
    (subst (λ (k : Catalog). rows_in file rules s.logged.taken k.arrays ≡ Ok found.directories) s.catalog s.rows) stands.holds.versions

pub catalogs_are_alike : FoundDirectoriesRise → FoundCatalogsAreAlike
catalogs_are_alike rise file slots db found stands catalog = (told rise file slots db found stands).alike catalog.each

pub directories_are_of_rows : FoundDirectoriesRise → FoundDirectoriesAreOfTheirRows
directories_are_of_rows rise file slots db found change array stands has =
    subst (λ (names : Names). IsOf array.schema (newest_rows db (name_of change)) (last_of_row (row_of (name_of change) names.arrays found.directories))) (sym stands.holds.names)
    (newest_told (name_of change) array db found.directories stands.database.names.each has (told rise file slots db found stands).of_rows)

-- ---- a change

pub record IsThere (name : List ℕ) (es : List NameEntry) : Type 0 where
  pub array : NameEntry
  pub is : entry_named es name ≡ Some array

pub there : (name : List ℕ) (es : List NameEntry) → has_array es name ≡ true → IsThere name es
there name [] has = absurd cc
there name (e ∷ es) has = by_test (is_named name e) refl has (there name es)
  where
    by_test : (b : Bool) → is_named name e ≡ b → (b || has_array es name) ≡ true → (has_array es name ≡ true → IsThere name es) → IsThere name (e ∷ es)
    by_test true named is later = record { array = e; is = ap (λ (b : Bool). cond b (Some e) (find (is_named name) es)) named }
    by_test false named is later =
        let l = later is in
        record { array = l.array; is = ap (λ (b : Bool). cond b (Some e) (find (is_named name) es)) named ∙ l.is }

not_both : (b : Bool) → b ≡ true → b ≡ false → ⊥
not_both true e f = cc
not_both false e f = cc

before : FoundDirectoriesRise → (file : List ℕ) (slots : Slots) (db : Database) (found : Found) (change : Change) (changed : Option Changed) (newest : Directory) → StandsBy file slots db found
    → IsTypedFor (names_of db) change → ComesWith change changed → IfSome changed (λ some. some.whole ≡ false → IsNewestIn found change some.schema newest) → IsNewest db change changed newest
before rise file slots db found change None newest stands typed comes part = tt
before rise file slots db found (Create name schema) (Some some) newest stands typed comes part = absurd cc
before rise file slots db found (Store name schema plan) (Some some) newest stands typed comes part = λ is. absurd (not_both some.whole comes.1 is)
before rise file slots db found (Insert name schema plan) (Some some) newest stands typed comes part = λ is.
    let es = (names_of db).arrays in
    let has : has_array es name ≡ true = (and_parts (has_array es name) (list_all (has_number name) es) typed.0).0 in
    let t = there name es has in
    let fits : FitsInto (Some t.array) schema plan = subst (λ (o : Option NameEntry). FitsInto o schema plan) t.is typed.1.1 in
    let own : t.array.schema ≡ some.schema = sym fits.0 ∙ sym comes.0 in
    let of = directories_are_of_rows rise file slots db found (Insert name schema plan) t.array stands t.is in
    subst (λ (d : Directory). IsOf some.schema (newest_rows db name) d) (sym (part is).is)
    (subst (λ (s : Schema). IsOf s (newest_rows db name) (newest_in found (Insert name schema plan))) own of)
before rise file slots db found (Remove name) (Some some) newest stands typed comes part = absurd cc
before rise file slots db found (RemoveVersions name below) (Some some) newest stands typed comes part = absurd cc

pub files_are_over : FoundDirectoriesRise → FoundFilesAreOver
files_are_over rise file slots db found change changed newest stands catalog typed comes valid chunks part = record {
  database = stands.database;
  typed = typed;
  alike = catalogs_are_alike rise file slots db found stands catalog;
  comes = comes;
  valid = valid;
  chunks = chunks;
  before = before rise file slots db found change changed newest stands typed comes part;
}
