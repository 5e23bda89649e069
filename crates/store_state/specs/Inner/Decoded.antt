-- What decoding a payload answers.
use Rattle.std.specs.Prelude.{◌≡◌, ℕ, List, slice_index, Result, Ok, Err}
use Rattle.cell_values.specs.declared.schema.Schema.{Schema}
use Rattle.array_geom.specs.declared.chunk.Chunk.{Chunk}
use Rattle.chunk_map.specs.declared.directory.DirEntry.{DirEntry}
use Rattle.store_state.specs.Calls.{spelled_by}
use Rattle.store_state.specs.declared.state.fault.ReadFault.{ReadFault}
use Rattle.store_state.specs.declared.state.fault.ReadFault.TheVariants.{Disk, Damaged, Memory}

-- the chunk that the bytes spell; or the payload's first page, where they spell none
abbrev pub IsDecoded : Schema → DirEntry → List ℕ → Result Chunk ReadFault → Type 0
IsDecoded schema entry bytes (Ok chunk) = spelled_by schema entry bytes ≡ Ok chunk
IsDecoded schema entry bytes (Err Disk) = ⊥
IsDecoded schema entry bytes (Err (Damaged page)) = (page ≡ slice_index entry.pages 0) × (wrong : ℕ) × (spelled_by schema entry bytes ≡ Err wrong)
IsDecoded schema entry bytes (Err Memory) = Unit {0}

-- damage is told by the payload's first page
abbrev pub IsToldBy : DirEntry → ReadFault → Type 0
IsToldBy entry Disk = Unit {0}
IsToldBy entry (Damaged page) = page ≡ slice_index entry.pages 0
IsToldBy entry Memory = Unit {0}
