-- The version that a change makes, in pages: the payloads of the chunks that are written, and a directory.
use Rattle.std.specs.Prelude.{◌≡◌, ℕ, ◌+◌, ◌<◌, ◌≤◌, ◌^◌, List, [], ◌∷◌, ◌++◌, length, map, take, drop, replicate, if◌then◌else◌, Option, Some, None}
use Rattle.std.specs.List.{AllByRecursion}
use Rattle.std.specs.declared.cmp.Ordering.{Ordering}
use Rattle.std.specs.declared.cmp.Ordering.TheVariants.{Less, Equal, Greater}
use Rattle.arrayvec.specs.ArrayVec.{ArrayVec}
use Rattle.array_rows.specs.Boxes.{by_pairs}
use Rattle.array_geom.specs.declared.chunk.Changed.{Changed}
use Rattle.array_geom.specs.Link.{number_order, NumbersRise}
use Rattle.chunk_rle.specs.Chunks.{spelling as payload_spelling}
use Rattle.chunk_map.specs.declared.directory.DirEntry.{DirEntry}
use Rattle.chunk_map.specs.declared.directory.Directory.{Directory}
use Rattle.chunk_map.specs.Spelling.{spelling as directory_spelling}
use Rattle.page_chain.specs.Pages.{page_size, pages_for}
use Rattle.file_meaning.specs.BlobAt.{BlobAt}
use Rattle.file_meaning.specs.Opening.{version_pages}
use Rattle.page_file.specs.declared.commits.placed.Placed.{Placed}
use Rattle.page_file.specs.Commits.{pages_of, IsBlobSized}
use Rattle.commit_pages.specs.declared.pages.written.Written.{Written}
use Rattle.commit_pages.specs.declared.pages.version.NewVersion.{NewVersion}

-- ---- blobs

-- how many pages some bytes need as a blob
abbrev pub blob_count : List ℕ → ℕ
blob_count bytes = pages_for page_size (length bytes)

-- the first of these pages, as many as the bytes need
abbrev pub placed : List ℕ → List ℕ → Placed
placed pages bytes = record { pages = take (blob_count bytes) pages; bytes = bytes }

-- blobs one after the other in these pages
abbrev pub all_placed : List ℕ → List Placed → List Placed
all_placed pages [] = []
all_placed pages (one ∷ more) = placed pages one.bytes ∷ all_placed (drop (blob_count one.bytes) pages) more

-- Before its pages are known a blob has page 1 as often as it needs pages: which pages they are changes no length.
abbrev pub drafted : List ℕ → Placed
drafted bytes = record { pages = replicate (blob_count bytes) 1; bytes = bytes }

abbrev pub blob_at : Placed → BlobAt
blob_at one = record { length = length one.bytes; pages = one.pages }

-- ---- the chunks that a change writes

-- their numbers and their payloads, written by the commit of this sequence
abbrev pub draft : ℕ → Changed → Written
draft birth changed = record {
  whole = changed.whole;
  birth = birth;
  numbers = map (λ chunk. chunk.at) changed.chunks;
  payloads = map (λ chunk. drafted (payload_spelling changed.schema.attributes chunk)) changed.chunks;
}

abbrev pub draft_of : ℕ → Option Changed → Option Written
draft_of birth None = None
draft_of birth (Some changed) = Some (draft birth changed)

-- the payloads lie in the first of these pages, in the chunks' order
abbrev pub settled : List ℕ → Written → Written
settled pages written = record written { payloads = all_placed pages written.payloads }

-- the numbers of the chunks rise
abbrev pub HasRisingNumbers : Written → Type 0
HasRisingNumbers written = NumbersRise (map (λ at. at.items) written.numbers)

-- besides, each has a payload, which has as many pages as it needs
pub record IsWritten (written : Written) : Type 0 where
  pub rising : HasRisingNumbers written
  pub each : length written.payloads ≡ length written.numbers
  pub sized : AllByRecursion IsBlobSized written.payloads

-- what a directory may list: numbers for so many dimensions, a sequence and lengths of 64 bits
pub record CanBeListed (dims : ℕ) (written : Written) : Type 0 where
  pub birth : (1 ≤ written.birth) × (written.birth < 2 ^ 64)
  pub numbers : AllByRecursion (λ at. (length at.items ≡ dims) × AllByRecursion (λ k. k < 2 ^ 64) at.items) written.numbers
  pub bytes : AllByRecursion (λ one. (1 ≤ length one.bytes) × (length one.bytes < 2 ^ 64)) written.payloads

-- how many pages the payloads have
abbrev pub payload_count : Option Written → ℕ
payload_count None = 0
payload_count (Some written) = length (pages_of written.payloads)

-- ---- the directory

abbrev pub entry_of : ℕ → ArrayVec ℕ → Placed → DirEntry
entry_of birth at payload = record { at = at; length = length payload.bytes; birth = birth; pages = payload.pages }

abbrev pub entries_of : Written → List DirEntry
entries_of written = by_pairs (entry_of written.birth) written.numbers written.payloads

-- an entry in its place by its chunk, instead of the one that stood there
abbrev pub put_by : Ordering → DirEntry → DirEntry → List DirEntry → List DirEntry → List DirEntry
put_by Less new entry entries after = new ∷ entry ∷ entries
put_by Equal new entry entries after = new ∷ entries
put_by Greater new entry entries after = entry ∷ after

abbrev pub put_entry : DirEntry → List DirEntry → List DirEntry
put_entry new [] = new ∷ []
put_entry new (entry ∷ entries) = put_by (number_order new.at.items entry.at.items) new entry entries (put_entry new entries)

abbrev pub put_entries : List DirEntry → List DirEntry → List DirEntry
put_entries [] old = old
put_entries (entry ∷ fresh) old = put_entry entry (put_entries fresh old)

-- the directory of all chunks that there are, or of those of the newest version with the written ones in their places
unfoldable pub directory_of : Written → Directory → Directory
directory_of written newest = record { entries = if written.whole then entries_of written else put_entries (entries_of written) newest.entries }

abbrev pub directory_bytes : Written → Directory → List ℕ
directory_bytes written newest = directory_spelling (directory_of written newest)

-- ---- the version

-- its payloads lie in their pages, and its directory in the first of these
unfoldable pub version_in : List ℕ → Written → Directory → NewVersion
version_in pages written newest =
    let own = placed pages (directory_bytes written newest) in
    record {
      blobs = written.payloads ++ own ∷ [];
      directory = Some (directory_of written newest);
      at = Some (blob_at own);
      pages = version_pages (blob_at own) (directory_of written newest);
    }

-- no version, where the change makes none
abbrev pub no_version : NewVersion
no_version = record { blobs = []; directory = None; at = None; pages = [] }

-- the payloads in the first of these pages, and the directory in those behind them
abbrev pub new_version : List ℕ → Option Written → Directory → NewVersion
new_version pages None newest = no_version
new_version pages (Some written) newest = version_in (drop (length (pages_of written.payloads)) pages) (settled pages written) newest

-- ---- how many pages it takes

abbrev pub version_needs : Option Written → Directory → ℕ
version_needs None newest = 0
version_needs (Some written) newest = length (pages_of written.payloads) + blob_count (directory_bytes written newest)

-- the directory before its pages are known
abbrev pub draft_at : Option Written → Directory → Option BlobAt
draft_at None newest = None
draft_at (Some written) newest = Some (blob_at (drafted (directory_bytes written newest)))

abbrev pub count_at : Option BlobAt → ℕ
count_at None = 0
count_at (Some at) = length at.pages
