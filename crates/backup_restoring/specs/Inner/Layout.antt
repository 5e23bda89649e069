-- Where a restored database lies: from page 3 on the payloads of each version, one after the other, and its directory behind them; then the
-- catalogue's chain, and the log page.
use Rattle.std.specs.Prelude.{ℕ, zero, suc, ◌+◌, ◌<◌, ◌^◌, List, [], ◌∷◌, map, length, slice_index, sum_by}
use Rattle.page_chain.specs.Pages.{page_size, pages_for, HoldsBlob}
use Rattle.page_chain.specs.Chains.{content_size, HoldsChain}
use Rattle.page_chain.specs.declared.slots.layout.roots.Root.{Root}
use Rattle.chunk_map.specs.declared.directory.DirEntry.{DirEntry}
use Rattle.chunk_map.specs.declared.directory.Directory.{Directory}
use Rattle.chunk_map.specs.Spelling.{spelling as directory_spelling}
use Rattle.version_catalog.specs.declared.rules.catalog.BlobAt.{BlobAt}
use Rattle.version_catalog.specs.declared.rules.catalog.Catalog.{Catalog}
use Rattle.version_catalog.specs.declared.rules.catalog.CatalogArray.{CatalogArray}
use Rattle.version_catalog.specs.Spelling.{spelling as catalog_spelling}
use Rattle.backup_format.specs.Pieces.{Piece, PiecesVersion, PiecesArray}
use Rattle.backup_restoring.specs.Restores.{payload_pages, directory_length, directory_pages, version_pages, array_pages, catalogue_length}

-- so many pages from one on
abbrev pub pages_from : ℕ → ℕ → List ℕ
pages_from first zero = []
pages_from first (suc n) = first ∷ pages_from (first + 1) n

-- what is made of each of some that take so many pages, one after the other from a page on
abbrev pub laid : {A B : Type 0} → (A → ℕ) → (ℕ → A → B) → ℕ → List A → List B
laid size place first [] = []
laid size place first (x ∷ xs) = place first x ∷ laid size place (first + size x) xs

-- what holds of each of them, from its page on
abbrev pub AllLaid : {A : Type 0} → (A → ℕ) → (ℕ → A → Type 0) → ℕ → List A → Type 0
AllLaid size P first [] = Unit {0}
AllLaid size P first (x ∷ xs) = P first x × AllLaid size P (first + size x) xs

-- ---- a version

-- the entry of a payload, which commit 2 wrote
abbrev pub entry_at : ℕ → Piece → DirEntry
entry_at first piece = record { at = record { items = piece.at }; length = length piece.payload; birth = 2; pages = pages_from first (payload_pages piece) }

abbrev pub directory_at : ℕ → PiecesVersion → Directory
directory_at first version = record { entries = laid payload_pages entry_at first version.pieces }

-- the first page behind the payloads
abbrev pub behind_payloads : ℕ → PiecesVersion → ℕ
behind_payloads first version = first + sum_by payload_pages version.pieces

abbrev pub blob_at : ℕ → PiecesVersion → BlobAt
blob_at first version = record { length = directory_length version; pages = pages_from (behind_payloads first version) (directory_pages version) }

-- ---- an array

abbrev pub array_at : ℕ → PiecesArray → CatalogArray
array_at first array = record {
  entry = record { name = array.name; schema = array.schema; next = array.next; versions = map (λ (v : PiecesVersion). v.number) array.versions };
  directories = laid version_pages blob_at first array.versions;
}

abbrev pub row_at : ℕ → PiecesArray → List Directory
row_at first array = laid version_pages directory_at first array.versions

-- ---- the catalogue

abbrev pub catalog_of : List PiecesArray → Catalog
catalog_of arrays = record { arrays = laid array_pages array_at 3 arrays }

abbrev pub rows_of : List PiecesArray → List (List Directory)
rows_of arrays = laid array_pages row_at 3 arrays

-- the first page of the chain
abbrev pub behind_versions : List PiecesArray → ℕ
behind_versions arrays = 3 + sum_by array_pages arrays

abbrev pub chain_count : List PiecesArray → ℕ
chain_count arrays = pages_for (content_size page_size) (catalogue_length arrays)

abbrev pub chain_of : List PiecesArray → List ℕ
chain_of arrays = pages_from (behind_versions arrays) (chain_count arrays)

abbrev pub log_of : List PiecesArray → ℕ
log_of arrays = behind_versions arrays + chain_count arrays

-- the root that names them
abbrev pub root_of : List PiecesArray → Root
root_of arrays = record { sequence = 2; length = catalogue_length arrays; first = slice_index (chain_of arrays) 0; log = log_of arrays }

-- ---- what a file holds there

abbrev pub HoldsPayload : List ℕ → ℕ → Piece → Type 0
HoldsPayload file first piece = HoldsBlob page_size file (pages_from first (payload_pages piece)) piece.payload

abbrev pub HoldsPayloads : List ℕ → ℕ → List Piece → Type 0
HoldsPayloads file = AllLaid payload_pages (HoldsPayload file)

-- the payloads of a version, and its directory
abbrev pub HoldsPieces : List ℕ → ℕ → PiecesVersion → Type 0
HoldsPieces file first version = HoldsPayloads file first version.pieces
    × HoldsBlob page_size file (pages_from (behind_payloads first version) (directory_pages version)) (directory_spelling (directory_at first version))

abbrev pub HoldsVersions : List ℕ → ℕ → List PiecesVersion → Type 0
HoldsVersions file = AllLaid version_pages (HoldsPieces file)

abbrev pub HoldsArray : List ℕ → ℕ → PiecesArray → Type 0
HoldsArray file first array = HoldsVersions file first array.versions

abbrev pub HoldsArrays : List ℕ → ℕ → List PiecesArray → Type 0
HoldsArrays file = AllLaid array_pages (HoldsArray file)

-- all that is restored, in pages whose numbers four bytes hold
pub record HoldsRestored (file : List ℕ) (arrays : List PiecesArray) : Type 0 where
  pub held : HoldsArrays file 3 arrays
  pub chained : HoldsChain page_size file (chain_of arrays) (catalog_spelling (catalog_of arrays))
  pub small : log_of arrays < 2 ^ 32
