-- Pages of a file, and blobs, which lie in listed pages. A page is named by its number, from 0.
use Rattle.std.specs.Prelude.{◌≡◌, ◌≢◌, ℕ, ◌+◌, ◌-◌, ◌*◌, ◌<◌, List, ◌++◌, length, take, drop, replicate}
use Rattle.std.specs.Prelude.{slice_index, find, flat_map, Bool, not, nat_le, Option, Some, None, Result, Ok, Err}
use Rattle.std.specs.Int.{div_ceil}
use Rattle.page_chain.specs.declared.fault.BlobFault.{BlobFault}
use Rattle.page_chain.specs.declared.fault.BlobFault.TheVariants.{Disk, Damaged, Memory}

-- the bytes of a page
unfoldable pub page_size : ℕ
page_size = 4096

-- a page's bytes, as many of them as the file has
abbrev pub page_at : ℕ → List ℕ → ℕ → List ℕ
page_at size file page = take size (drop (size * page) file)

-- whether the file has all bytes of a page
abbrev pub has_page : ℕ → List ℕ → ℕ → Bool
has_page size file page = nat_le (size * (page + 1)) (length file)

-- how many pages are needed for so many bytes, where each has room for `room`
abbrev pub pages_for : ℕ → ℕ → ℕ
pages_for room count = div_ceil count room

-- pages that differ from one another
abbrev pub AreDistinct : List ℕ → Type 0
AreDistinct pages = (i j : ℕ) → i < j → j < length pages → slice_index pages i ≢ slice_index pages j

-- A blob of so many bytes: the first bytes of its pages, which follow one another in the order of the list.
abbrev pub blob : ℕ → List ℕ → List ℕ → ℕ → List ℕ
blob size file pages count = take count (flat_map (page_at size file) pages)

-- the first of the pages that passes the file's end
abbrev pub first_past : ℕ → List ℕ → List ℕ → Option ℕ
first_past size file pages = find (λ page. not (has_page size file page)) pages

-- What reading a blob answers: its bytes, or the first of its pages that passes the file's end.
abbrev pub IsBlobRead : List ℕ → List ℕ → ℕ → Result (List ℕ) BlobFault → Type 0
IsBlobRead file pages count (Ok bytes) = (first_past page_size file pages ≡ None) × (bytes ≡ blob page_size file pages count)
IsBlobRead file pages count (Err Disk) = Unit {0}
IsBlobRead file pages count (Err (Damaged page)) = first_past page_size file pages ≡ Some page
IsBlobRead file pages count (Err Memory) = Unit {0}

-- these bytes, and zeros behind them up to a length
abbrev pub padded : ℕ → List ℕ → List ℕ
padded room bytes = bytes ++ replicate (room - length bytes) 0

-- the piece of this number of bytes that are cut into pieces of `room` bytes, of which zeros fill the last
abbrev pub piece_of : ℕ → List ℕ → ℕ → List ℕ
piece_of room bytes number = padded room (take room (drop (number * room) bytes))

-- each page of the list has the piece of its number
abbrev pub HoldsPieces : ℕ → List ℕ → List ℕ → (ℕ → List ℕ) → Type 0
HoldsPieces size file pages piece = (k : ℕ) → k < length pages → page_at size file (slice_index pages k) ≡ piece k

-- the pages have these bytes as a blob
abbrev pub HoldsBlob : ℕ → List ℕ → List ℕ → List ℕ → Type 0
HoldsBlob size file pages bytes = HoldsPieces size file pages (piece_of size bytes)
