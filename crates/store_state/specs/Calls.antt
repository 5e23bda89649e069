-- What the calls of a store say.
use Rattle.std.specs.Prelude.{◌≡◌, ℕ, List, [], map, slice_index, Option, None, Some, IfSome, Result, Ok, Err}
use Rattle.arrayvec.specs.ArrayVec.{ArrayVec}
use Rattle.cell_values.specs.declared.schema.Schema.{Schema}
use Rattle.afl_outside.specs.Counts.{Rose}
use Rattle.afl_outside.specs.Disk.{DiskState}
use Rattle.array_geom.specs.declared.chunk.Chunk.{Chunk}
use Rattle.page_chain.specs.Pages.{page_size, blob, first_past}
use Rattle.chunk_rle.specs.Chunks.{chunk_payload}
use Rattle.chunk_rle.specs.Frames.{frame_of}
use Rattle.chunk_map.specs.declared.directory.DirEntry.{DirEntry}
use Rattle.chunk_map.specs.declared.directory.Directory.{Directory}
use Rattle.chunk_map.specs.Entries.{entry_at}
use Rattle.file_meaning.specs.Source.{version_chunks}
use Rattle.logical_plan.specs.declared.names.Names.{Names}
use Rattle.logical_plan.specs.declared.parts.Leaf.{Leaf}
use Rattle.plan_changes.specs.Changes.{entry_named}
use Rattle.plan_changes.specs.Typed.{IsVersionOf}
use Rattle.plan_changes.specs.Databases.{Database}
use Rattle.event_core.specs.Cells.{at}
use Rattle.event_core.specs.History.{History, up_to}
use Rattle.store_ledger.specs.Ledger.{LedgerState, history, with_fault}
use Rattle.store_versions.specs.Versions.{directory_of}
use Rattle.store_state.specs.Standings.{Standing, versions_after}
use Rattle.store_state.specs.declared.state.fault.ReadFault.{ReadFault}
use Rattle.store_state.specs.declared.state.fault.ReadFault.TheVariants.{Disk, Damaged, Memory}

-- the history when it had so many entries
abbrev pub history_at : {D : Type 0} → Standing D → ℕ → History
history_at s place = up_to place (history s.ledger)

-- the database when it had so many entries
abbrev pub database_with : {D : Type 0} → Database → Standing D → ℕ → Database
database_with db s place = at db (history_at s place)

-- a leaf is of a version that can be named, or of version 0 of an array without versions
abbrev pub IsLeafOf : Names → Leaf → Type 0
IsLeafOf names leaf = IsVersionOf leaf (entry_named names.arrays leaf.name)

-- ---- chunks

abbrev pub numbers_in : Option Directory → List (ArrayVec ℕ)
numbers_in None = []
numbers_in (Some directory) = map (λ entry. entry.at) directory.entries

-- the numbers of a leaf's chunks, as a place sees it
abbrev pub chunks_at : {D : Type 0} → Standing D → ℕ → Leaf → List (ArrayVec ℕ)
chunks_at s place leaf = version_chunks (λ name version. numbers_in (directory_of name version (versions_after s (history_at s place)))) leaf.name leaf.version

abbrev pub entry_in : Option Directory → List ℕ → Option DirEntry
entry_in None k = None
entry_in (Some directory) k = entry_at directory.entries k

-- where the payload of a leaf's chunk lies
abbrev pub payload_at : {D : Type 0} → Standing D → ℕ → Leaf → ArrayVec ℕ → Option DirEntry
payload_at s place leaf at = entry_in (directory_of leaf.name leaf.version (versions_after s (history_at s place))) at.items

-- what the bytes of an entry's payload spell, and what the file has of it
abbrev pub spelled_by : Schema → DirEntry → List ℕ → Result Chunk ℕ
spelled_by schema entry bytes = chunk_payload (frame_of schema entry.at.items) entry.at schema.attributes bytes

abbrev pub payload_in : List ℕ → Schema → DirEntry → Result Chunk ℕ
payload_in file schema entry = spelled_by schema entry (blob page_size file entry.pages entry.length)

-- a payload is whole: its pages lie within the file, and their bytes spell a chunk
pub record IsWhole (file : List ℕ) (schema : Schema) (entry : DirEntry) : Type 0 where
  pub within : first_past page_size file entry.pages ≡ None
  pub chunk : Chunk
  pub spells : payload_in file schema entry ≡ Ok chunk

-- what reading a payload answers: the chunk that it spells; or, where it isn't whole, its first page
abbrev pub IsRead : List ℕ → Schema → DirEntry → Result Chunk ReadFault → Type 0
IsRead file schema entry (Ok chunk) = (first_past page_size file entry.pages ≡ None) × (payload_in file schema entry ≡ Ok chunk)
IsRead file schema entry (Err Disk) = Unit {0}
IsRead file schema entry (Err (Damaged page)) = (page ≡ slice_index entry.pages 0) × ¬ IsWhole file schema entry
IsRead file schema entry (Err Memory) = Unit {0}

-- the payload that begins at this page isn't whole, as far as the disk tells its bytes
abbrev pub IsDamagedAt : ℕ → DirEntry → DiskState → Schema → Type 0
IsDamagedAt page entry disk schema = (page ≡ slice_index entry.pages 0) × IfSome disk.seen (λ file. ¬ IsWhole file schema entry)

-- Why a chunk can't be read: the disk failed, and its count rose; the payload that begins at this page isn't whole; or memory was short
abbrev pub IsUnread : DiskState → DiskState → Schema → Option DirEntry → ReadFault → Type 0
IsUnread old new schema entry Disk = Rose old.faults new.faults
IsUnread old new schema None (Damaged page) = ⊥
IsUnread old new schema (Some entry) (Damaged page) = IsDamagedAt page entry old schema
IsUnread old new schema entry Memory = Unit {0}

-- ---- notes

-- the note of a fault under a session's pin, where the count rose
pub record NotesFault (old new : DiskState) (session : ℕ) (before after : LedgerState) : Type 0 where
  pub rose : Rose old.faults new.faults → after ≡ with_fault session before
  pub still : ¬ Rose old.faults new.faults → after ≡ before
