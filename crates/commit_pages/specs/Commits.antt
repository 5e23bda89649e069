-- What a commit of a change writes, and what there is after it: on pages that are taken one after the other, the payloads in the chunks'
-- order, the directory, and then the record; or in its place the next catalogue, with a page for the log.
use Rattle.std.specs.Prelude.{ℕ, ◌+◌, List, [], ◌∷◌, ◌++◌, length, take, drop, Option, Some, None}
use Rattle.chunk_map.specs.declared.directory.Directory.{Directory}
use Rattle.page_chain.specs.Pages.{page_size, pages_for}
use Rattle.page_chain.specs.Chains.{content_size}
use Rattle.plan_changes.specs.declared.change.Change.{Change}
use Rattle.file_meaning.specs.BlobAt.{BlobAt}
use Rattle.file_meaning.specs.Catalog.{Catalog}
use Rattle.file_meaning.specs.CatalogRecord.{CatalogRecord}
use Rattle.file_meaning.specs.Spelling.{spell_record, spelling}
use Rattle.file_meaning.specs.Changed.{after_change, record_for}
use Rattle.page_file.specs.declared.commits.placed.Placed.{Placed}
use Rattle.page_file.specs.Commits.{pages_of}
use Rattle.commit_pages.specs.declared.pages.written.Written.{Written}
use Rattle.commit_pages.specs.declared.pages.version.NewVersion.{NewVersion}
use Rattle.commit_pages.specs.declared.pages.laid.Laid.{Laid}
use Rattle.commit_pages.specs.Versions.{draft_at, new_version, version_needs}

-- how many pages some bytes need as a chain
abbrev pub chain_count : List ℕ → ℕ
chain_count bytes = pages_for (content_size page_size) (length bytes)

-- the first of these pages, as many as the bytes need
abbrev pub chain_in : List ℕ → List ℕ → Placed
chain_in pages bytes = record { pages = take (chain_count bytes) pages; bytes = bytes }

-- ---- a record

abbrev pub spelled : Option CatalogRecord → List ℕ
spelled None = []
spelled (Some entry) = spell_record entry

-- the bytes of the change's record, with a directory that lies here
abbrev pub record_bytes : Catalog → Change → Option BlobAt → List ℕ
record_bytes catalog change at = spelled (record_for catalog change at)

-- HOW MANY PAGES a commit of a record takes
unfoldable pub record_needs : Catalog → Directory → Change → Option Written → ℕ
record_needs catalog newest change written = version_needs written newest + chain_count (record_bytes catalog change (draft_at written newest))

-- what is left of some pages behind those of a version's blobs
abbrev pub rest_of : NewVersion → List ℕ → List ℕ
rest_of version pages = drop (length (pages_of version.blobs)) pages

-- with a version whose blobs have the first of these pages, and the record in those behind them
abbrev pub with_record : Catalog → List ℕ → Change → NewVersion → List ℕ → Laid
with_record catalog catalogue change version pages =
    let chain = chain_in (rest_of version pages) (record_bytes catalog change version.at) in
    record {
      blobs = version.blobs;
      chain = chain;
      directory = version.directory;
      at = version.at;
      catalog = after_change catalog change version.at;
      used = record { version = version.pages; catalogue = catalogue ++ chain.pages };
    }

-- A COMMIT OF A RECORD over a catalogue that has these pages, and the newest version's directory
unfoldable pub record_laid : Catalog → List ℕ → Directory → Change → Option Written → List ℕ → Laid
record_laid catalog catalogue newest change written pages =
    with_record catalog catalogue change (new_version pages written newest) pages

-- ---- a new base

-- the bytes of the next catalogue
abbrev pub catalog_bytes : Catalog → Change → Option BlobAt → List ℕ
catalog_bytes catalog change at = spelling (after_change catalog change at)

-- HOW MANY PAGES a commit of a new base takes, beside the log page
unfoldable pub base_needs : Catalog → Directory → Change → Option Written → ℕ
base_needs catalog newest change written = version_needs written newest + chain_count (catalog_bytes catalog change (draft_at written newest))

abbrev pub with_base : Catalog → Change → NewVersion → List ℕ → ℕ → Laid
with_base catalog change version pages log =
    let chain = chain_in (rest_of version pages) (catalog_bytes catalog change version.at) in
    record {
      blobs = version.blobs;
      chain = chain;
      directory = version.directory;
      at = version.at;
      catalog = after_change catalog change version.at;
      used = record { version = version.pages; catalogue = chain.pages ++ log ∷ [] };
    }

-- A COMMIT OF A NEW BASE with this log page, over a catalogue and the newest version's directory
unfoldable pub base_laid : Catalog → Directory → Change → Option Written → List ℕ → ℕ → Laid
base_laid catalog newest change written pages log =
    with_base catalog change (new_version pages written newest) pages log
