-- How events grow.
use Rattle.std.specs.Prelude.{◌≡◌, ℕ, [], ◌∷◌, ◌++◌, length, IsTrue}
use Rattle.chunk_map.specs.declared.directory.Directory.{Directory}
use Rattle.plan_changes.specs.declared.change.Change.{Change}
use Rattle.event_core.specs.declared.entry.Entry.{Entry}
use Rattle.event_core.specs.declared.entry.Entry.TheVariants.{Commit}
use Rattle.event_core.specs.declared.entry.Used.{Used}
use Rattle.store_ledger.specs.declared.note.Note.{Note}
use Rattle.store_ledger.specs.Ledger.{with_entries as more_entries, with_fault}
use Rattle.store_opening.specs.Event.TheVariants.{Entered, Acknowledged, Noted}
use Rattle.store_opening.specs.Standings.{Standing, with_entries, with_notes}
use Rattle.array_store.specs.Growth.{AddsEvents, IsCounted, fault_events, is_plain}

-- one more entry that is no commit is the last event
abbrev pub EntriesAddEvents : Type 0 → Type 0
EntriesAddEvents D = (s : Standing D) (entry : Entry) → IsCounted s → IsTrue (is_plain entry) →
    AddsEvents (Entered entry ∷ []) s (with_entries (entry ∷ []) s)

-- one more commit is, with its moment and its directory
abbrev pub CommitsAddEvents : Type 0 → Type 0
CommitsAddEvents D = (s : Standing D) (session : ℕ) (change : Change) (used : Used) (moment : ℕ) (directory : Directory) → IsCounted s →
    AddsEvents (Acknowledged (Commit session change used) moment directory ∷ []) s (record s {
      ledger = more_entries (Commit session change used ∷ []) s.ledger;
      acked = s.acked ++ moment ∷ [];
      made = s.made ++ directory ∷ [];
    })

-- one more note, behind all entries, is
abbrev pub NotesAddEvents : Type 0 → Type 0
NotesAddEvents D = (s : Standing D) (note : Note) → note.after ≡ length s.ledger.entries →
    AddsEvents (Noted note ∷ []) s (with_notes (note ∷ []) s)

-- so is the note of a fault, where it is made
abbrev pub FaultsAddEvents : Type 0 → Type 0
FaultsAddEvents D = (s : Standing D) (session : ℕ) → AddsEvents (fault_events s.ledger session) s (record s { ledger = with_fault session s.ledger })
