-- What the start and the events of a store tell of it: all but its disk, and a change whose slot may stand open.
use Rattle.std.specs.Prelude.{◌≡◌, ℕ, Bool, true, not, List, [], ◌∷◌, map, None}
use Rattle.chunk_map.specs.declared.directory.Directory.{Directory}
use Rattle.event_core.specs.declared.entry.Entry.{Entry}
use Rattle.store_ledger.specs.declared.note.Note.{Note}
use Rattle.store_ledger.specs.Ledger.{LedgerState}
use Rattle.store_versions.specs.Versions.{MadeVersion}
use Rattle.prepared_commits.specs.Event.{Event}
use Rattle.prepared_commits.specs.Event.TheVariants.{Entered, Acknowledged, Noted}
use Rattle.prepared_commits.specs.Standings.{Standing}
use Rattle.array_store.specs.declared.store.start.FirstVersion.{FirstVersion}
use Rattle.array_store.specs.declared.store.start.Start.{Start}
use Rattle.array_store.specs.Growth.{is_plain}

-- the entries among events, the oldest first
abbrev pub entries_in : List Event → List Entry
entries_in [] = []
entries_in (Entered entry ∷ events) = entry ∷ entries_in events
entries_in (Acknowledged entry moment directory ∷ events) = entry ∷ entries_in events
entries_in (Noted note ∷ events) = entries_in events

-- the notes among them
abbrev pub notes_in : List Event → List Note
notes_in [] = []
notes_in (Entered entry ∷ events) = notes_in events
notes_in (Acknowledged entry moment directory ∷ events) = notes_in events
notes_in (Noted note ∷ events) = note ∷ notes_in events

-- the moments at which their commits were acknowledged
abbrev pub moments_in : List Event → List ℕ
moments_in [] = []
moments_in (Entered entry ∷ events) = moments_in events
moments_in (Acknowledged entry moment directory ∷ events) = moment ∷ moments_in events
moments_in (Noted note ∷ events) = moments_in events

-- the directories of the versions that these made
abbrev pub directories_in : List Event → List Directory
directories_in [] = []
directories_in (Entered entry ∷ events) = directories_in events
directories_in (Acknowledged entry moment directory ∷ events) = directory ∷ directories_in events
directories_in (Noted note ∷ events) = directories_in events

-- whether an event is no commit that wasn't acknowledged
abbrev pub is_sealed : Event → Bool
is_sealed (Entered entry) = is_plain entry
is_sealed (Acknowledged entry moment directory) = not (is_plain entry)
is_sealed (Noted note) = true

-- a version that the file had as it was opened
abbrev pub version_from : FirstVersion → MadeVersion
version_from first = record { name = first.name; version = first.version; directory = first.directory }

-- the ledger
abbrev pub ledger_of : {D : Type 0} → Start D → List Event → LedgerState
ledger_of start events = record { base = start.base; limit = start.limit; entries = entries_in events; notes = notes_in events }

-- THE STORE THAT A START AND EVENTS TELL. Of its disk and of a change in doubt they tell nothing: the disk that stands here is the opened one
abbrev pub told : {D : Type 0} → Start D → List Event → Standing D
told start events = record {
  disk = start.opened.disk;
  opened = start.opened;
  first = map version_from start.first;
  ledger = ledger_of start events;
  doubt = None;
  acked = moments_in events;
  made = directories_in events;
}

-- a store is the one that is told
abbrev pub IsTold : {D : Type 0} → Start D → List Event → Standing D → Type 0
IsTold start events s = s ≡ record (told start events) { disk = s.disk; doubt = s.doubt }
