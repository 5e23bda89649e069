-- What a record and a new base have in common: the directories and the database after a change.
use Rattle.std.proofs.Common.{◌≡◌, ◌≢◌, ◌<◌, ◌≤◌, ◌⊎◌, inl, inr, ℕ, true, List, [], ◌∷◌, ◌++◌, map, Option, Some, None, refl, sym, ap, subst, arith}
use Rattle.std.specs.Prelude.{Ok, IsTrue}
use Rattle.std.specs.List.{AllByRecursion, AllZip}
use Rattle.cell_values.specs.declared.datum.Row.{Row}
use Rattle.cell_values.specs.declared.schema.Schema.{Schema}
use Rattle.page_chain.specs.Places.{IsNone, KeepsPages}
use Rattle.page_file.specs.Pages.{page_size, has_page, first_past}
use Rattle.page_file.specs.Chains.{names_page}
use Rattle.chunk_map.specs.declared.directory.DirEntry.{DirEntry}
use Rattle.chunk_map.specs.declared.directory.Directory.{Directory}
use Rattle.chunk_map.specs.Entries.{AreRising}
use Rattle.plan_changes.specs.NameEntry.{NameEntry}
use Rattle.plan_changes.specs.Names.{Names}
use Rattle.plan_changes.specs.declared.change.Change.{Change}
use Rattle.plan_changes.specs.declared.change.Change.TheVariants.{Create, Store, Insert, Remove, RemoveVersions}
use Rattle.plan_changes.specs.Changes.{name_of}
use Rattle.plan_changes.specs.Databases.{Database, entry_of, names_of, new_rows, after}
use Rattle.plan_changes.specs.Stored.{IsDatabase, IsStored}
use Rattle.plan_changes.proofs.DatabaseLaws.{changes_keep_databases}
use Rattle.version_catalog.specs.declared.rules.catalog.CatalogArray.{CatalogArray}
use Rattle.version_catalog.specs.declared.rules.catalog.Catalog.{Catalog}
use Rattle.version_catalog.specs.Catalogs.{names_in}
use Rattle.version_catalog.specs.Changed.{has_its_directory, changed, after_change}
use Rattle.version_catalog.proofs.DirectoryLaws.{follow_databases}
use Rattle.file_meaning.specs.Slots.{Slots}
use Rattle.file_meaning.specs.Opening.{are_pages, Rules, rows_in, found_in, sequence_of, stored_pages, pages_of}
use Rattle.file_meaning.specs.Standing.{HoldsVersions, HoldsDatabase}
use Rattle.file_meaning.specs.declared.meaning.found.Found.{Found}
use Rattle.file_meaning.proofs.Parts.{rest_all}
use Rattle.file_meaning.proofs.Apart.{both_all}
use Rattle.file_meaning.proofs.Elsewhere.{AreApart, AreThere, IsKept, found_again, FoundSteps, holds_still}
use Rattle.file_meaning.proofs.More.{Beside}
use Rattle.file_meaning.specs.NextLaws.{WritesLeaveStanding}
use Rattle.file_meaning.specs.Next.{Made, blob_of, rows_after}
use Rattle.file_meaning.specs.Premises.{StandsBy, MayChange, OfVersion, HoldsMade, seen_before, made_pages, row_of}
use Rattle.file_meaning.proofs.Free.{AreNamed, weaker, pair_all, none_cons, names_none, names_other, names_positive}
use Rattle.file_meaning.proofs.Later.{rows_later}
use Rattle.file_meaning.proofs.Taken.{ArePaged, rows_paged, found_named}
use Rattle.file_meaning.proofs.Appended.{entries_in, fresh_pages}
use Rattle.file_meaning.proofs.Follow.{Before, Fresh, rows_follow, versions_follow}
use Rattle.file_meaning.proofs.Lists.{all_row, all_entries}
use Rattle.file_meaning.proofs.Rising.{rows_rise}
use Rattle.file_meaning.proofs.Version.{AreKept, new_of, held_of, made_there}

not_zero : (p : ℕ) → 0 < p → 0 ≢ p
not_zero p more same = absurd (omega (arith, more, same))

-- neither page 0, nor the log page, nor one of the other pages written is found
pub slot_apart : (page : ℕ) (written old : List ℕ) (slots : Slots) (found : Found) → (page ≡ 0) ⊎ (page ≡ slots.current.root.log) → found_in old slots ≡ Ok found → AllByRecursion (IsNone written) (pages_of found)
    → AllByRecursion (IsNone (page ∷ written)) (pages_of found)
slot_apart page written old slots found which finds apart =
    let log = slots.current.root.log in
    weaker (λ p. (names_page page_size old (log ∷ []) p ≡ true) × IsNone written p) (IsNone (page ∷ written)) (λ p x. none_cons page written p (other which p x.0) x.1) (pages_of found)
    (pair_all (λ p. names_page page_size old (log ∷ []) p ≡ true) (IsNone written) (pages_of found) (found_named old slots found finds) apart)
  where
    other : (page ≡ 0) ⊎ (page ≡ slots.current.root.log) → (p : ℕ) → names_page page_size old (slots.current.root.log ∷ []) p ≡ true → page ≢ p
    other (inl zero_page) p names = subst (λ (q : ℕ). q ≢ p) (sym zero_page) (not_zero p (names_positive old (slots.current.root.log ∷ []) p names))
    other (inr log_page) p names = subst (λ (q : ℕ). q ≢ p) (sym log_page) (names_other old [] slots.current.root.log p names)

-- what was found is found in the new file, and is the database's there
pub record Again (written old new : List ℕ) (slots : Slots) (db : Database) (found : Found) : Type 0 where
  pub finds : found_in new slots ≡ Ok found
  pub holds : HoldsDatabase new db found
  pub kept : AllByRecursion (AllByRecursion (IsKept written old)) found.directories

pub again : (written old new : List ℕ) (slots : Slots) (db : Database) (found : Found) → KeepsPages written old new → AllByRecursion (IsNone written) (pages_of found) → StandsBy old slots db found → Again written old new slots db found
unfolding AreApart
again written old new slots db found keeps apart stands =
    let f = found_again written old new slots found keeps stands.finds apart in
    record { finds = f.again; holds = holds_still written old new keeps db found f.kept stands.holds; kept = f.kept }

seen_kept : (written old new : List ℕ) (rules : Rules) (taken : List ℕ) (arrays : List CatalogArray) (rows : List (List Directory)) (name : List ℕ) (es : List NameEntry) → AllByRecursion (AllByRecursion (IsKept written old)) rows
    → rows_in new rules taken arrays ≡ Ok rows → AreKept written old new (entries_in (row_of name es rows))
unfolding AreApart
seen_kept written old new rules taken arrays rows name es kept is =
    let row = row_of name es rows in
    record {
      paged = all_entries (λ e. are_pages new e.pages ≡ true) row (all_row (λ d. ArePaged new d.entries) name es rows (rows_paged new rules arrays taken rows is));
      there = all_entries (λ e. first_past page_size old e.pages ≡ None) row (all_row (λ d. AreThere old d.entries) name es rows
          (weaker (AllByRecursion (IsKept written old)) (AllByRecursion (λ d. AreThere old d.entries)) (λ ds all. weaker (IsKept written old) (λ d. AreThere old d.entries) (λ d k. k.there) ds all) rows kept));
      apart = all_entries (λ e. AllByRecursion (IsNone written) e.pages) row (all_row (λ d. AllByRecursion (λ e. AllByRecursion (IsNone written) e.pages) d.entries) name es rows
          (weaker (AllByRecursion (IsKept written old)) (AllByRecursion (λ d. AllByRecursion (λ e. AllByRecursion (IsNone written) e.pages) d.entries))
          (λ ds all. weaker (IsKept written old) (λ d. AllByRecursion (λ e. AllByRecursion (IsNone written) e.pages) d.entries) (λ d k. k.apart) ds all) rows kept));
    }

has_its : (P : Schema → List Row → Made → Type 0) (db : Database) (change : Change) (made : Option Made) → OfVersion P db change made → IsTrue (has_its_directory change (blob_of made))
has_its P db (Create name schema) None of = refl
has_its P db (Create name schema) (Some made) of = absurd of
has_its P db (Store name schema plan) None of = absurd of
has_its P db (Store name schema plan) (Some made) of = refl
has_its P db (Insert name schema plan) None of = absurd of
has_its P db (Insert name schema plan) (Some made) of = refl
has_its P db (Remove name) None of = refl
has_its P db (Remove name) (Some made) of = absurd of
has_its P db (RemoveVersions name below) None of = refl
has_its P db (RemoveVersions name below) (Some made) of = absurd of

pub leave_standing : WritesLeaveStanding
leave_standing page written old new slots db found which keeps apart stands =
    let a = again (page ∷ written) old new slots db found keeps (slot_apart page written old slots found which stands.finds apart) stands in
    record { finds = a.finds; database = stands.database; holds = a.holds }

-- the new file has all pages of the new version
pub pages_there : (old new : List ℕ) (sequence : ℕ) (seen : List DirEntry) (db : Database) (change : Change) (made : Option Made) → OfVersion (HoldsMade old new seen sequence) db change made
    → AllByRecursion (λ p. has_page page_size new p ≡ true) (made_pages seen made)
pages_there old new sequence seen db change None of = tt
pages_there old new sequence seen db (Create name schema) (Some made) of = absurd of
pages_there old new sequence seen db (Store name schema plan) (Some made) of =
    let all = made_there old new sequence seen schema (new_rows db (Store name schema plan)) made of in
    both_all (λ p. has_page page_size new p ≡ true) made.at.pages (fresh_pages seen made.directory.entries) all.0 all.1
pages_there old new sequence seen db (Insert name schema plan) (Some made) of =
    let all = made_there old new sequence seen schema (new_rows db (Insert name schema plan)) made of in
    both_all (λ p. has_page page_size new p ≡ true) made.at.pages (fresh_pages seen made.directory.entries) all.0 all.1
pages_there old new sequence seen db (Remove name) (Some made) of = absurd of
pages_there old new sequence seen db (RemoveVersions name below) (Some made) of = absurd of

-- the directories of a database's catalogue rise
pub directories_rise : (file : List ℕ) (rules : Rules) (taken : List ℕ) (db : Database) (found : Found) → IsDatabase db → names_in found.catalog ≡ names_of db → rows_in file rules taken found.catalog.arrays ≡ Ok found.directories
    → AllByRecursion (AllByRecursion (λ d. AreRising d.entries)) found.directories
directories_rise file rules taken db found database names is =
    rows_rise file rules found.catalog.arrays taken found.directories (subst (λ (n : Names). AllByRecursion IsStored n.arrays) (sym names) database.names.each) is

-- what is next in a file
pub record IsNext (new : List ℕ) (other : Rules) (less : List ℕ) (found : Found) (db : Database) (change : Change) (made : Option Made) : Type 0 where
  pub rows : rows_in new other less (changed found.catalog.arrays change (blob_of made)) ≡ Ok (rows_after (names_in found.catalog).arrays change made found.directories)
  pub database : IsDatabase (after db change)
  pub names : names_in (after_change found.catalog change (blob_of made)) ≡ names_of (after db change)
  pub versions : AllZip (HoldsVersions new) (after db change) (rows_after (names_in found.catalog).arrays change made found.directories)

fresh_named : (new less : List ℕ) (seen : List DirEntry) (made : Option Made) → AreNamed new less (made_pages seen made) → (m : Made) → made ≡ Some m → AreNamed new [] (fresh_pages seen m.directory.entries)
fresh_named new less seen made named m is =
    let all : AreNamed new less (m.at.pages ++ fresh_pages seen m.directory.entries) = subst (λ (o : Option Made). AreNamed new less (made_pages seen o)) is named in
    weaker (λ p. names_page page_size new less p ≡ true) (λ p. names_page page_size new [] p ≡ true) (λ p names. names_none new less p names) (fresh_pages seen m.directory.entries)
    (rest_all (λ p. names_page page_size new less p ≡ true) m.at.pages (fresh_pages seen m.directory.entries) all)

pub is_next : (written old new extra less : List ℕ) (slots : Slots) (found : Found) (db : Database) (change : Change) (made : Option Made) (other : Rules) → KeepsPages written old new → IsDatabase db → MayChange db change
    → (once_more : Again written old new slots db found) → (steps : FoundSteps new slots found) → sequence_of slots ≤ other.sequence → Beside extra new steps.logged.taken less → AllByRecursion (IsNone extra) (stored_pages found)
    → Fresh extra new less (made_pages (seen_before found change) made) (stored_pages found) → OfVersion (HoldsMade old new (seen_before found change) other.sequence) db change made → IsNext new other less found db change made
is_next written old new extra less slots found db change made other keeps database may once_more steps later beside apart fresh version =
    let rules : Rules = record { first = slots.current.root.first; sequence = sequence_of slots } in
    let arrays = found.catalog.arrays in
    let seen = seen_before found change in
    let is : rows_in new rules steps.logged.taken arrays ≡ Ok found.directories = subst (λ (k : Catalog). rows_in new rules steps.logged.taken k.arrays ≡ Ok found.directories) steps.catalog steps.rows in
    let before : Before extra new other steps.logged.taken less arrays found.directories
    = record { is = rows_later new rules other later arrays steps.logged.taken found.directories is; beside = beside; apart = apart } in
    let kept = seen_kept written old new rules steps.logged.taken arrays found.directories (name_of change) (names_in found.catalog).arrays once_more.kept is in
    let names : (names_in found.catalog).arrays ≡ map entry_of db = ap (λ (n : Names). n.arrays) once_more.holds.names in
    let rising = directories_rise new rules steps.logged.taken db found database once_more.holds.names is in
    record {
      rows = rows_follow extra new other steps.logged.taken less arrays found.directories db change made before fresh database may names rising
          (new_of written old new other seen db change made kept (fresh_named new less seen made fresh.named) database may version);
      database = changes_keep_databases db change database may.named may.typed may.stores may.sound;
      names = follow_databases db found.catalog change (blob_of made) once_more.holds.names (has_its (HoldsMade old new seen other.sequence) db change made version);
      versions = subst (λ (es : List NameEntry). AllZip (HoldsVersions new) (after db change) (rows_after es change made found.directories)) (sym names)
          (versions_follow new db change made found.directories database may (held_of written old new other.sequence seen db change made keeps kept version) once_more.holds.versions);
    }
