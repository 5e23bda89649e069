-- What a commit is prepared as over a catalogue, a table of versions and a ledger.
use Rattle.std.specs.Prelude.{◌≡◌, ◌≤◌, ◌<◌, ◌-◌, ◌^◌, ℕ, Bool, ◌&&◌, min, nat_lt, if◌then◌else◌, List, [], ◌∷◌, length, Option, Result, Ok, Err}
use Rattle.std.specs.Option.{option_map}
use Rattle.chunk_map.specs.declared.directory.Directory.{Directory}
use Rattle.logical_plan.specs.declared.names.Names.{Names}
use Rattle.page_chain.specs.declared.slots.slots.slots.Target.{Target}
use Rattle.plan_changes.specs.declared.change.Change.{Change}
use Rattle.plan_changes.specs.Changes.{name_of, newest_of}
use Rattle.version_catalog.specs.declared.rules.catalog.Catalog.{Catalog}
use Rattle.event_core.specs.declared.entry.Entry.TheVariants.{Reap}
use Rattle.event_core.specs.History.{catalogue_at, names_at}
use Rattle.event_core.specs.Pages.{free_at}
use Rattle.event_core.specs.Replay.{core_at}
use Rattle.store_ledger.specs.Ledger.{LedgerState, history, unused_pages, with_entries}
use Rattle.store_versions.specs.declared.row.VersionRow.{VersionRow}
use Rattle.store_versions.specs.Rows.{IsReadyFor}
use Rattle.store_versions.specs.Seen.{seen}
use Rattle.store_versions.specs.Versions.{directory_of}
use Rattle.store_state.specs.Written.{Written}
use Rattle.prepared_commits.specs.declared.commits.fault.PrepareFault.{PrepareFault}
use Rattle.prepared_commits.specs.declared.commits.fault.PrepareFault.TheVariants.{SequenceEnd, Full, Memory}
use Rattle.prepared_commits.specs.declared.commits.prepared.Prepared.{Prepared}
use Rattle.prepared_commits.specs.Needs.{or_empty}
use Rattle.prepared_commits.specs.Layouts.{IsLayout}
use Rattle.prepared_commits.specs.declared.parts.laying.Layout.{Layout}

-- the directory of the newest version of the array that a change is about, as a place sees it
abbrev pub newest_at : Names → List VersionRow → ℕ → Change → Directory
newest_at names rows place change = or_empty (directory_of (name_of change) (newest_of names.arrays (name_of change)) (seen place rows))

-- the ledger with a reap, if one came
abbrev pub reaped : Bool → LedgerState → LedgerState
reaped comes ledger = if comes then with_entries (Reap ∷ []) ledger else ledger

abbrev pub free_pages : LedgerState → List ℕ
free_pages ledger = free_at ledger.base (history ledger)

-- whether fewer pages are free than so many
abbrev pub is_short : ℕ → LedgerState → Bool
is_short needed ledger = nat_lt (length (free_pages ledger)) needed

-- A reap comes just where free pages are short. Where memory is short too, it may be missing
abbrev pub IsLeft : {A : Type 0} → ℕ → LedgerState → Result A PrepareFault → LedgerState → Type 0
IsLeft needed old (Ok x) new = new ≡ reaped (is_short needed old) old
IsLeft needed old (Err SequenceEnd) new = ⊥
IsLeft needed old (Err (Full most free)) new = new ≡ reaped (is_short needed old) old
IsLeft needed old (Err Memory) new = (comes : Bool) × (new ≡ reaped (comes && is_short needed old) old)

-- too few pages can be given: a commit takes more than nobody can name
pub record IsFull (count most rest : ℕ) (ledger : LedgerState) : Type 0 where
  pub needed : most ≡ min count (2 ^ 32 - 1)
  pub free : rest ≡ length (unused_pages ledger)
  pub less : length (unused_pages ledger) < count

abbrev pub IsFullFor : {A : Type 0} → ℕ → Result A PrepareFault → LedgerState → Type 0
IsFullFor needed (Ok x) ledger = needed ≤ length (free_pages ledger)
IsFullFor needed (Err SequenceEnd) ledger = ⊥
IsFullFor needed (Err (Full most free)) ledger = IsFull needed most free ledger
IsFullFor needed (Err Memory) ledger = Unit {0}

-- all of what is laid, and the entry and the version with all memory that they need
pub record IsReadyAs (layout : Layout) (change : Change) (session count : ℕ) (ledger : LedgerState) (p : Prepared) : Type 0 where
  pub base : p.base ≡ layout.base
  pub of : p.session ≡ session
  pub blobs : p.blobs ≡ layout.laid.blobs
  pub chain : p.chain ≡ layout.laid.chain
  pub next : p.catalog ≡ layout.laid.catalog
  pub commit : p.commit ≡ record { core = core_at ledger.base (history ledger); change = change; used = layout.laid.used }
  pub version : IsReadyFor (names_at ledger.base (history ledger)) change count p.version
  pub directory : option_map (λ ready. ready.directory) p.version ≡ layout.laid.directory

-- WHAT A COMMIT IS PREPARED AS
pub record IsPreparedAs (target : Target) (sequence : ℕ) (catalog : Catalog) (newest : Directory) (count : ℕ) (change : Change)
    (written : Option Written) (session : ℕ) (ledger : LedgerState) (p : Prepared) : Type 0 where
  pub layout : Layout
  pub laid : IsLayout target sequence catalog (catalogue_at ledger.base (history ledger)) newest change written (free_pages ledger) layout
  pub ready : IsReadyAs layout change session count ledger p
