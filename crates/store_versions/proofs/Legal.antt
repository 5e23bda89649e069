-- What holds of ordered and of legal histories.
use Rattle.std.proofs.Common.{◌≡◌, ℕ, Bool, true, false, not, ◌||◌, List, [], ◌∷◌, refl, sym, ap, ◌∙◌, subst}
use Rattle.std.specs.Str.{bytes_eq}
use Rattle.std.proofs.lemmas.Bool.{and_from}
use Rattle.plan_changes.specs.NameEntry.{NameEntry}
use Rattle.plan_changes.specs.Names.{Names}
use Rattle.plan_changes.specs.declared.change.Change.{Change}
use Rattle.plan_changes.specs.Changes.{has_array}
use Rattle.plan_changes.specs.Databases.{Database, names_of}
use Rattle.plan_changes.specs.Stored.{NamesRise, AreStored}
use Rattle.plan_changes.specs.Typed.{IsTypedFor}
use Rattle.plan_changes.proofs.DatabaseLaws.{apart, changes_keep_databases}
use Rattle.plan_changes.proofs.NamesOf.{names_depend_on_no_row}
use Rattle.plan_changes.proofs.StoredLaws.{RiseAfter, names_in, after_next, tail_rises, changes_keep_names}
use Rattle.event_core.specs.declared.entry.Used.{Used}
use Rattle.event_core.specs.declared.entry.Entry.TheVariants.{Pin, Unpin, Commit, Reap}
use Rattle.event_core.specs.declared.state.Core.{Core}
use Rattle.event_core.specs.Agree.{are_unique}
use Rattle.event_core.specs.Allowed.{is_allowed}
use Rattle.event_core.specs.Cells.{at}
use Rattle.event_core.specs.History.{History, names_at}
use Rattle.event_core.specs.Legal.{Cost, BeginsAt, IsLegal, BeginsWithNames, IsOrdered}
use Rattle.store_versions.proofs.Agree.{name_refl, named_versions_have_pages, typed_then}
use Rattle.store_versions.proofs.Cells.{names_are_of_the_database}
use Rattle.store_versions.specs.LegalLaws.{LegalIsOrdered, OrderedIsAllowed, OrderedNamesAreStored, OrderedVersionsHavePages, LegalDatabases}

pub legal_is_ordered : LegalIsOrdered
legal_is_ordered cost db base [] legal = record { base = legal.base; names = subst AreStored (sym legal.names) legal.database.names; pages = legal.pages }
legal_is_ordered cost db base (entry ∷ before) legal = (legal_is_ordered cost db base before legal.0, legal.1, legal.2)

begins : (base : Core) (h : History) → IsOrdered base h → BeginsWithNames base
begins base [] ordered = ordered
begins base (entry ∷ before) ordered = begins base before ordered.0

all_allowed : (base : Core) (h : History) → IsOrdered base h → is_allowed base h ≡ true
all_allowed base [] ordered = refl
all_allowed base (entry ∷ before) ordered = and_from _ _ (all_allowed base before ordered.0) ordered.1

pub ordered_is_allowed : OrderedIsAllowed
ordered_is_allowed base h ordered = ((begins base h ordered).base, all_allowed base h ordered)

pub ordered_names_are_stored : OrderedNamesAreStored
ordered_names_are_stored base [] ordered = ordered.names
ordered_names_are_stored base (Pin s ∷ before) ordered = ordered_names_are_stored base before ordered.0
ordered_names_are_stored base (Unpin s ∷ before) ordered = ordered_names_are_stored base before ordered.0
ordered_names_are_stored base (Commit s change used ∷ before) ordered =
    changes_keep_names (names_at base before) change (ordered_names_are_stored base before ordered.0) ordered.2.1 (typed_then base before s change used (all_allowed base (Commit s change used ∷ before) ordered))
ordered_names_are_stored base (Reap ∷ before) ordered = ordered_names_are_stored base before ordered.0

-- ---- versions and their pages

not_so : (b : Bool) → (b ≡ true → ⊥) → b ≡ false
not_so true h = absurd (h refl)
not_so false h = refl

-- no name comes again behind it
not_behind : (name prev : List ℕ) (es : List NameEntry) → bytes_eq prev name ≡ true → RiseAfter prev es → has_array es name ≡ false
not_behind name prev [] e rise = refl
not_behind name prev (x ∷ es) e rise =
    ap (λ (b : Bool). b || has_array es name) (not_so (bytes_eq x.name name) (apart name prev x.name e rise.0)) ∙ not_behind name prev es e (after_next prev x es rise)

rising_are_unique : (es : List NameEntry) → NamesRise (names_in es) → are_unique es ≡ true
rising_are_unique [] rise = refl
rising_are_unique (e ∷ es) rise = and_from (not (has_array es e.name)) (are_unique es) (ap not (not_behind e.name e.name es (name_refl e.name) rise)) (rising_are_unique es (tail_rises e es rise))

pub ordered_versions_have_pages : OrderedVersionsHavePages
ordered_versions_have_pages base h ordered =
    let start = begins base h ordered in
    named_versions_have_pages base h (rising_are_unique base.names.arrays start.names.rising) start.pages (all_allowed base h ordered)

-- ---- databases

starts : (cost : Cost) (db : Database) (base : Core) (h : History) → IsLegal cost db base h → BeginsAt db base
starts cost db base [] legal = legal
starts cost db base (entry ∷ before) legal = starts cost db base before legal.0

-- a commit's change is typed for the database before it
pub typed_now : (cost : Cost) (db : Database) (base : Core) (s : ℕ) (change : Change) (used : Used) (before : History) → IsLegal cost db base (Commit s change used ∷ before) → IsTypedFor (names_of (at db before)) change
typed_now cost db base s change used before legal =
    subst (λ (names : Names). IsTypedFor names change) (sym (names_are_of_the_database names_depend_on_no_row db base before (starts cost db base before legal.0).names))
    (typed_then base before s change used (all_allowed base (Commit s change used ∷ before) (legal_is_ordered cost db base (Commit s change used ∷ before) legal)), legal.2.2)

pub legal_databases : LegalDatabases
legal_databases cost db base [] legal stores = legal.database
legal_databases cost db base (Pin s ∷ before) legal stores = legal_databases cost db base before legal.0 stores
legal_databases cost db base (Unpin s ∷ before) legal stores = legal_databases cost db base before legal.0 stores
legal_databases cost db base (Commit s change used ∷ before) legal stores =
    changes_keep_databases (at db before) change (legal_databases cost db base before legal.0 stores.0) legal.2.1 (typed_now cost db base s change used before legal) stores.1 legal.3.0
legal_databases cost db base (Reap ∷ before) legal stores = legal_databases cost db base before legal.0 stores
