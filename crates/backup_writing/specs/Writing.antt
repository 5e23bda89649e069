-- What goes out of a backup, and why no more does.
use Rattle.std.specs.Prelude.{◌≡◌, ◌≤◌, ℕ, List, ◌++◌, map, Some, Result, Ok, Err}
use Rattle.std.specs.List.{AllByRecursion}
use Rattle.cell_values.specs.Schemas.{IsValid}
use Rattle.sha2.specs.Hashers.{Holds256}
use Rattle.cell_values.specs.declared.schema.Schema.{Schema}
use Rattle.afl_outside.specs.Counts.{Rose}
use Rattle.afl_outside.specs.Sink.{SinkState, Takes}
use Rattle.logical_plan.specs.declared.names.NameEntry.{NameEntry}
use Rattle.logical_plan.specs.declared.parts.Leaf.{Leaf}
use Rattle.logical_plan.specs.Meaning.{Database}
use Rattle.plan_changes.specs.Databases.{Stored, Version, names_of, rows_of}
use Rattle.plan_changes.specs.Stored.{IsDatabase}
use Rattle.backup_format.specs.Backups.{backup}
use Rattle.chunk_source.specs.Source.{SourceState, Reads}
use Rattle.chunk_source.specs.declared.sources.fault.SourceFault.{SourceFault}
use Rattle.chunk_source.specs.declared.sources.fault.SourceFault.TheVariants as faults
use Rattle.backup_format.specs.Pieces.{PiecesArray, array_of}
use Rattle.backup_format.specs.Spelling.{spell_arrays, signed}
use Rattle.backup_writing.specs.declared.digest_sink.DigestSink.{DigestSink}
use Rattle.backup_writing.specs.declared.stop.WriteStop.{WriteStop}
use Rattle.backup_writing.specs.declared.stop.WriteStop.TheVariants as stops

-- ---- what is told

abbrev pub leaf_of : List ℕ → Schema → ℕ → Leaf
leaf_of name schema number = record { name = name; version = number; schema = schema }

-- a version with the rows that a database has of it
abbrev pub version_in : List ℕ → Database → ℕ → Version
version_in name db number = record { number = number; rows = db name number }

abbrev pub stored_in : Database → NameEntry → Stored
stored_in db entry = record { name = entry.name; schema = entry.schema; next = entry.next; versions = map (version_in entry.name db) entry.versions }

abbrev pub array_pieces : Database → NameEntry → PiecesArray
array_pieces db entry = array_of (stored_in db entry)

-- THE BYTES OF A BACKUP, before the digest: of these names, with the rows of a database
abbrev pub backup_text : List NameEntry → Database → List ℕ
backup_text entries db = spell_arrays (map (array_pieces db) entries)

-- so the backup of a database is that of its names with its rows
abbrev pub BackupsAreOfDatabases : Type 0
BackupsAreOfDatabases = (db : List Stored) → IsDatabase db → signed (backup_text (names_of db).arrays (rows_of db)) ≡ backup db

-- a source has each version of an array, whose schema is valid and whose versions have numbers from 1
pub record ReadsEach (source : SourceState) (entry : NameEntry) : Type 0 where
  pub valid : IsValid entry.schema
  pub each : AllByRecursion (λ (number : ℕ). (1 ≤ number) × Reads source (leaf_of entry.name entry.schema number)) entry.versions

-- ---- what goes out

module _ {K : Type 0} (sink_of : K → SinkState) (tells : Database → Type 0) (text : Database → List ℕ) where
  -- a text went out whole
  pub record Wrote (old new : DigestSink K) : Type 0 where
    pub bytes : List ℕ
    pub takes : Takes (sink_of old.sink) (sink_of new.sink) bytes
    pub holds : (m : List ℕ) → Holds256 old.digest m → Holds256 new.digest (m ++ bytes)
    pub told : (db : Database) → tells db → bytes ≡ text db

  -- a front of it went out
  pub record Broke (old new : DigestSink K) : Type 0 where
    pub bytes : List ℕ
    pub takes : Takes (sink_of old.sink) (sink_of new.sink) bytes
    pub front : (db : Database) → tells db → (rest : List ℕ) × (text db ≡ bytes ++ rest)

  abbrev pub Writes : {A : Type 0} → Result A WriteStop → DigestSink K → DigestSink K → Type 0
  Writes (Ok x) old new = Wrote old new
  Writes (Err stop) old new = Broke old new

-- ---- why no more does

abbrev pub stop_of : SourceFault → WriteStop
stop_of faults.Failed = stops.Source
stop_of (faults.Damaged page) = stops.Damaged page
stop_of faults.Memory = stops.Memory

-- the sink's count or the source's rose; the source says so of that page
abbrev pub HasCause : SinkState → SinkState → SourceState → SourceState → WriteStop → Type 0
HasCause sink sink' source source' stops.Sink = Rose sink.faults sink'.faults
HasCause sink sink' source source' stops.Source = Rose source.faults source'.faults
HasCause sink sink' source source' (stops.Damaged page) = source'.damaged ≡ Some page
HasCause sink sink' source source' stops.Memory = Unit {0}

-- of a sink alone
abbrev pub IsSinkFault : SinkState → SinkState → WriteStop → Type 0
IsSinkFault sink sink' stops.Sink = Rose sink.faults sink'.faults
IsSinkFault sink sink' stops.Source = ⊥
IsSinkFault sink sink' (stops.Damaged page) = ⊥
IsSinkFault sink sink' stops.Memory = Unit {0}

-- of a source alone
abbrev pub IsSourceFault : SourceState → SourceState → WriteStop → Type 0
IsSourceFault source source' stops.Sink = ⊥
IsSourceFault source source' stops.Source = Rose source.faults source'.faults
IsSourceFault source source' (stops.Damaged page) = source'.damaged ≡ Some page
IsSourceFault source source' stops.Memory = Unit {0}

-- ---- all of it

module _ (tells : Database → Type 0) (text : Database → List ℕ) (old new : SinkState) where
  pub record GoesWhole : Type 0 where
    pub bytes : List ℕ
    pub takes : Takes old new bytes
    pub told : (db : Database) → tells db → bytes ≡ text db

  pub record GoesFront : Type 0 where
    pub bytes : List ℕ
    pub takes : Takes old new bytes
    pub front : (db : Database) → tells db → (rest : List ℕ) × (text db ≡ bytes ++ rest)

abbrev pub Goes : (Database → Type 0) → (Database → List ℕ) → Result (Unit {0}) WriteStop → SinkState → SinkState → Type 0
Goes tells text (Ok x) old new = GoesWhole tells text old new
Goes tells text (Err stop) old new = GoesFront tells text old new
