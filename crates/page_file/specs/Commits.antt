-- A commit as pages and bytes.
use Rattle.std.specs.Prelude.{◌≡◌, ℕ, ◌<◌, List, [], ◌∷◌, ◌++◌, length, slice_index}
use Rattle.std.specs.List.{AllByRecursion}
use Rattle.page_chain.specs.declared.slots.layout.roots.Root.{Root}
use Rattle.page_chain.specs.declared.slots.layout.logs.RecordAt.{RecordAt}
use Rattle.page_chain.specs.Pages.{page_size, pages_for, HoldsBlob}
use Rattle.page_chain.specs.Chains.{content_size, HoldsChain}
use Rattle.page_file.specs.declared.commits.placed.Placed.{Placed}

-- the pages of all, one after the other
abbrev pub pages_of : List Placed → List ℕ
pages_of [] = []
pages_of (one ∷ more) = one.pages ++ pages_of more

-- a blob has as many pages as its bytes need
abbrev pub IsBlobSized : Placed → Type 0
IsBlobSized one = length one.pages ≡ pages_for page_size (length one.bytes)

-- a chain has as many pages as its bytes need, and at least one
pub record IsChainSized (chain : Placed) : Type 0 where
  pub some : 0 < length chain.pages
  pub enough : length chain.pages ≡ pages_for (content_size page_size) (length chain.bytes)

-- the file has each blob's bytes in its pages
abbrev pub HoldsBlobs : List ℕ → List Placed → Type 0
HoldsBlobs file blobs = AllByRecursion (λ one. HoldsBlob page_size file one.pages one.bytes) blobs

-- the file has the blobs' bytes and the chain's in their pages
abbrev pub HoldsAll : List ℕ → List Placed → Placed → Type 0
HoldsAll file blobs chain = HoldsBlobs file blobs × HoldsChain page_size file chain.pages chain.bytes

-- the pages of a commit's blobs and of its chain
abbrev pub commit_pages : List Placed → Placed → List ℕ
commit_pages blobs chain = pages_of blobs ++ chain.pages

-- where a record lies
abbrev pub record_of : Placed → RecordAt
record_of chain = record { length = length chain.bytes; first = slice_index chain.pages 0 }

-- the root that names a catalogue and a log page
abbrev pub root_of : ℕ → Placed → ℕ → Root
root_of sequence chain log = record { sequence = sequence; length = length chain.bytes; first = slice_index chain.pages 0; log = log }

-- the pages of a commit of a new base: those of its blobs and of its chain, and its log page
abbrev pub base_pages : List Placed → Placed → ℕ → List ℕ
base_pages blobs chain log = commit_pages blobs chain ++ log ∷ []
