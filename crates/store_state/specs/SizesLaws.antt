-- What is read of a list of numbers is as long as its spelling, also where they are no bytes.
use Rattle.std.specs.Prelude.{◌≡◌, ℕ, ◌<◌, ◌^◌, List, length, Ok}
use Rattle.std.specs.List.{AllByRecursion}
use Rattle.arrayvec.specs.ArrayVec.{ArrayVec}
use Rattle.array_geom.specs.declared.chunk.Chunk.{Chunk}
use Rattle.cell_values.specs.declared.schema.Attribute.{Attribute}
use Rattle.file_items.specs.Pages.{pages_needed}
use Rattle.chunk_rle.specs.Chunks.{chunk_payload, spelling as payload_spelling}
use Rattle.chunk_rle.specs.Frames.{Frame}
use Rattle.chunk_map.specs.declared.directory.DirEntry.{DirEntry}
use Rattle.chunk_map.specs.declared.directory.Directory.{Directory}
use Rattle.chunk_map.specs.Spelling.{spelling}
use Rattle.chunk_map.specs.Table.{directory_in}

-- an entry has a number for each dimension, and as many pages as its payload needs
pub record IsListedEntry (dims : ℕ) (entry : DirEntry) : Type 0 where
  pub sized : length entry.at.items ≡ dims
  pub count : length entry.pages ≡ pages_needed entry.length

-- what is read as a directory is as long as its spelling, and each entry is such a one
pub record IsRead (dims : ℕ) (bytes : List ℕ) (directory : Directory) : Type 0 where
  pub size : length bytes ≡ length (spelling directory)
  pub each : AllByRecursion (IsListedEntry dims) directory.entries

abbrev pub ReadDirectoriesAreAsLong : Type 0
ReadDirectoriesAreAsLong = (dims : ℕ) (bytes : List ℕ) (directory : Directory) → directory_in dims bytes ≡ Ok directory → IsRead dims bytes directory

-- what is read as a chunk of a frame of fewer than 2^64 places is as long as the chunk's one spelling
abbrev pub ReadPayloadsAreAsLong : Type 0
ReadPayloadsAreAsLong = (frame : Frame) (at : ArrayVec ℕ) (attributes : List Attribute) (bytes : List ℕ) (chunk : Chunk) → frame.volume < 2 ^ 64
    → chunk_payload frame at attributes bytes ≡ Ok chunk → length bytes ≡ length (payload_spelling attributes chunk)
