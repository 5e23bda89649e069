-- A prepared commit is made of its parts.
use Rattle.std.proofs.Common.{◌≡◌, ◌∙◌, ◌<◌, ℕ, Bool, true, false, List, Option, None, Some, Result, Ok, Err, IfOk, IfSome, ap}
use Rattle.std.proofs.lemmas.Bool.{false≢true}
use Rattle.chunk_map.specs.declared.directory.DirEntry.{DirEntry}
use Rattle.chunk_map.specs.declared.directory.Directory.{Directory}
use Rattle.logical_plan.specs.declared.names.Names.{Names}
use Rattle.page_chain.specs.declared.slots.slots.slots.Target.{Target}
use Rattle.plan_changes.specs.declared.change.Change.{Change}
use Rattle.plan_changes.specs.declared.change.Change.TheVariants.{Create, Store, Insert, Remove, RemoveVersions}
use Rattle.plan_changes.specs.Changes.{name_of, next_of}
use Rattle.version_catalog.specs.declared.rules.catalog.Catalog.{Catalog}
use Rattle.event_core.specs.Apart.{makes_version}
use Rattle.event_core.specs.declared.entry.Entry.TheVariants.{Reap}
use Rattle.event_core.specs.History.{catalogue_at, names_at}
use Rattle.store_state.specs.Versions.{HasRisingNumbers, IsWritten}
use Rattle.store_state.specs.Written.{Written}
use Rattle.store_ledger.specs.Ledger.{LedgerState, history}
use Rattle.store_ledger.proofs.Pins.{one_more}
use Rattle.store_versions.specs.declared.ready.ReadyVersion.{ReadyVersion}
use Rattle.store_versions.specs.Rows.{IsReadyFor}
use Rattle.prepared_commits.specs.declared.commits.prepared.Prepared.{Prepared}
use Rattle.prepared_commits.specs.declared.parts.laying.Layout.{Layout}
use Rattle.prepared_commits.specs.Layouts.{IsLayout}
use Rattle.prepared_commits.specs.Parts.{IsPreparedAs, IsReadyAs, free_pages, reaped}

abbrev pub of_entries : List DirEntry → Directory
of_entries entries = record { entries = entries }

-- a reap changes no names
pub names_kept : (comes : Bool) (old new : LedgerState) → new ≡ reaped comes old → names_at new.base (history new) ≡ names_at old.base (history old)
names_kept true old new is = ap (λ (l : LedgerState). names_at l.base (history l)) is ∙ ap (names_at old.base) (one_more old.entries Reap)
names_kept false old new is = ap (λ (l : LedgerState). names_at l.base (history l)) is

pub prepared_as : {E : Type 0} (target : Target) (sequence : ℕ) (catalog : Catalog) (newest : Directory) (count : ℕ) (change : Change) (written : Option Written)
    (session : ℕ) (ledger : LedgerState) (layout : Layout) (answer : Result Prepared E)
    → IsLayout target sequence catalog (catalogue_at ledger.base (history ledger)) newest change written (free_pages ledger) layout
    → IfOk answer (IsReadyAs layout change session count ledger)
    → IfOk answer (IsPreparedAs target sequence catalog newest count change written session ledger)
prepared_as target sequence catalog newest count change written session ledger layout (Ok p) laid ready = record { layout = layout; laid = laid; ready = ready }
prepared_as target sequence catalog newest count change written session ledger layout (Err want) laid ready = tt

pub rising_numbers : (written : Option Written) → IfSome written IsWritten → IfSome written HasRisingNumbers
rising_numbers None is = tt
rising_numbers (Some written) is = is.rising

-- the version that a change makes is ready
pub ready_for : (names : Names) (change : Change) (count : ℕ) (ready : ReadyVersion) (name : List ℕ) (version : ℕ) → name ≡ name_of change
    → version ≡ next_of names.arrays name → ready.name ≡ name → ready.version ≡ version → count < ready.room → IsReadyFor names change count (Some ready)
ready_for names (Create own schema) count ready name version is next named numbered room = tt
ready_for names (Store own schema plan) count ready name version is next named numbered room =
    record { name = named ∙ is; version = numbered ∙ next ∙ ap (next_of names.arrays) is; room = room }
ready_for names (Insert own schema plan) count ready name version is next named numbered room =
    record { name = named ∙ is; version = numbered ∙ next ∙ ap (next_of names.arrays) is; room = room }
ready_for names (Remove own) count ready name version is next named numbered room = tt
ready_for names (RemoveVersions own below) count ready name version is next named numbered room = tt

-- where a change makes none
pub none_for : (names : Names) (change : Change) (count : ℕ) → false ≡ makes_version change → IsReadyFor names change count None
none_for names (Create own schema) count none = tt
none_for names (Store own schema plan) count none = absurd (false≢true none)
none_for names (Insert own schema plan) count none = absurd (false≢true none)
none_for names (Remove own) count none = tt
none_for names (RemoveVersions own below) count none = tt
