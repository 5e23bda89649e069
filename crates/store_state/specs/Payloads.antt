-- What an honest disk that told its bytes as it was opened has of each payload.
use Rattle.std.specs.Prelude.{◌≡◌, ℕ, ◌⊎◌, List, slice_index, Contains, Some, IfSome, IsTrue}
use Rattle.std.specs.List.{AllByRecursion}
use Rattle.afl_outside.specs.Disk.{DiskState, Moment}
use Rattle.cell_values.specs.declared.schema.Schema.{Schema}
use Rattle.page_chain.specs.Pages.{page_size, blob}
use Rattle.chunk_map.specs.declared.directory.DirEntry.{DirEntry}
use Rattle.chunk_map.specs.declared.directory.Directory.{Directory}
use Rattle.logical_plan.specs.declared.names.Names.{Names}
use Rattle.plan_changes.specs.Changes.{entry_named}
use Rattle.page_file.specs.Moments.{IsKnown}
use Rattle.file_meaning.specs.Opening.{are_pages}
use Rattle.event_core.specs.declared.state.Core.{Core}
use Rattle.event_core.specs.History.{History, names_at, open_pins}
use Rattle.store_versions.specs.Versions.{Directories, MadeVersion, versions_at}
use Rattle.store_state.specs.Calls.{IsWhole}
use Rattle.store_state.specs.Standings.{Standing}
use Rattle.store_state.specs.Inner.Keeping.{Keeping}

-- an honest disk told these bytes as it was opened, whatever they stand for
pub record HasTold (opened : DiskState) (file : List ℕ) : Type 0 where
  pub honest : IsTrue opened.honest
  pub tells : opened.seen ≡ Some file

-- the directory of some version lists an entry
pub record ListsEntry (versions : List MadeVersion) (entry : DirEntry) : Type 0 where
  pub version : MadeVersion
  pub made : Contains versions version
  pub lists : Contains version.directory.entries entry

-- DAMAGE: as the file was opened, a version listed a payload that begins at this page, and it wasn't whole
pub record WasDamagedAt (page : ℕ) (first : List MadeVersion) (file : List ℕ) (schema : Schema) : Type 0 where
  pub entry : DirEntry
  pub listed : ListsEntry first entry
  pub begins : page ≡ slice_index entry.pages 0
  pub damaged : ¬ IsWhole file schema entry

-- ---- payloads

-- a version listed this payload as the file was opened, and its bytes are those of then
pub record IsAsOpened (first : List MadeVersion) (file image : List ℕ) (entry : DirEntry) : Type 0 where
  pub listed : ListsEntry first entry
  pub same : blob page_size image entry.pages entry.length ≡ blob page_size file entry.pages entry.length

-- an image has a payload's pages, and it is whole there or as the file that was opened had it
pub record HasPayload (first : List MadeVersion) (file image : List ℕ) (schema : Schema) (entry : DirEntry) : Type 0 where
  pub pages : IsTrue (are_pages image entry.pages)
  pub bytes : IsWhole image schema entry ⊎ IsAsOpened first file image entry

abbrev pub HasItsPayloads : List MadeVersion → List ℕ → List ℕ → Schema → Directory → Type 0
HasItsPayloads first file image schema directory = AllByRecursion (HasPayload first file image schema) directory.entries

-- it has those of each version, by its array's schema
abbrev pub HavePayloads : List MadeVersion → List ℕ → List ℕ → Names → List MadeVersion → Type 0
HavePayloads first file image names versions = AllByRecursion (λ v. IfSome (entry_named names.arrays v.name)
    (λ entry. HasItsPayloads first file image entry.schema v.directory)) versions

-- those of the present, and of what each open pin sees
pub record HasPayloads (base : Core) (given : Directories) (file : List ℕ) (h : History) (image : List ℕ) : Type 0 where
  pub now : HavePayloads given.first file image (names_at base h) (versions_at base given h)
  pub pinned : AllByRecursion (λ pin. HavePayloads given.first file image (names_at base pin.before) (versions_at base given pin.before)) (open_pins h)

-- 'AT', ON AN HONEST DISK THAT TOLD THESE BYTES AS IT WAS OPENED: over a history
pub record HoldsPayloads {D : Type 0} (moment : D → Moment) (s : Standing D) (k : Keeping) (file : List ℕ) (h : History)
    (given : Directories) : Type 0 where
  pub bytes : List ℕ
  pub known : IsKnown k.slots bytes (moment s.disk)
  pub images : (image : List ℕ) → (moment s.disk).may_leave image → HasPayloads s.ledger.base given file h image
