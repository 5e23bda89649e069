-- What is laid of a commit in the first free pages.
use Rattle.std.specs.Prelude.{◌≡◌, ◌<◌, ◌^◌, ℕ, List, slice_index, take, Option, Some, None, IfSome}
use Rattle.std.specs.List.{AllByRecursion}
use Rattle.chunk_map.specs.declared.directory.Directory.{Directory}
use Rattle.chunk_map.specs.Spelling.{IsDirectory}
use Rattle.page_chain.specs.declared.slots.slots.slots.Target.{Target}
use Rattle.page_chain.specs.declared.slots.slots.slots.Target.TheVariants.{Root, Record}
use Rattle.plan_changes.specs.declared.change.Change.{Change}
use Rattle.version_catalog.specs.declared.rules.catalog.Catalog.{Catalog}
use Rattle.version_catalog.specs.Changed.{IsItsBlob}
use Rattle.page_file.specs.Commits.{IsBlobSized, IsChainSized}
use Rattle.store_state.specs.Laid.{Laid}
use Rattle.store_state.specs.Written.{Written}
use Rattle.store_state.specs.Commits.{record_needs, base_needs, record_laid, base_laid}
use Rattle.store_state.specs.Versions.{CanBeListed}
use Rattle.prepared_commits.specs.declared.commits.prepared.NewBase.{NewBase}
use Rattle.prepared_commits.specs.declared.parts.laying.Layout.{Layout}

-- how many pages the blobs and the chain take
abbrev pub blobs_need : Target → Catalog → Directory → Change → Option Written → ℕ
blobs_need Record catalog newest change written = record_needs catalog newest change written
blobs_need Root catalog newest change written = base_needs catalog newest change written

-- they take the first free pages, and the log page of a new base is the next one
abbrev pub base_by : Target → ℕ → Catalog → Directory → Change → Option Written → List ℕ → Option NewBase
base_by Record sequence catalog newest change written free = None
base_by Root sequence catalog newest change written free = Some
    (record { sequence = sequence; log = slice_index free (base_needs catalog newest change written) })

abbrev pub laid_by : Target → Catalog → List ℕ → Directory → Change → Option Written → List ℕ → Laid
laid_by Record catalog catalogue newest change written free =
    record_laid catalog catalogue newest change written (take (record_needs catalog newest change written) free)
laid_by Root catalog catalogue newest change written free =
    base_laid catalog newest change written (take (base_needs catalog newest change written) free) (slice_index free (base_needs catalog newest change written))

-- what is laid has a spelling, and each blob, and the chain, the pages that it needs
pub record IsSized (newest : Directory) (written : Option Written) (laid : Laid) : Type 0 where
  pub blobs : AllByRecursion IsBlobSized laid.blobs
  pub chain : IsChainSized laid.chain
  pub at : IsItsBlob laid.at
  pub rules : (dims : ℕ) → IsDirectory dims newest → IfSome written (CanBeListed dims) → IfSome laid.directory (IsDirectory dims)

-- WHAT IS LAID
pub record IsLayout (target : Target) (sequence : ℕ) (catalog : Catalog) (catalogue : List ℕ) (newest : Directory) (change : Change)
    (written : Option Written) (free : List ℕ) (layout : Layout) : Type 0 where
  pub laid : layout.laid ≡ laid_by target catalog catalogue newest change written free
  pub base : layout.base ≡ base_by target sequence catalog newest change written free
  pub sized : IsSized newest written layout.laid
  pub few : blobs_need target catalog newest change written < 2 ^ 32
