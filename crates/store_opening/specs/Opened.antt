-- What opening a store answers.
use Rattle.std.specs.Prelude.{◌≡◌, ℕ, List, [], map, None, IfSome, IsTrue}
use Rattle.afl_outside.specs.Counts.{Rose}
use Rattle.afl_outside.specs.Disk.{DiskState, Moment, Only}
use Rattle.page_chain.specs.Opens.{OpensAs}
use Rattle.page_chain.specs.Inner.Runs.{OnlyReads}
use Rattle.page_chain.specs.declared.fault.OpenCause.{OpenCause}
use Rattle.page_chain.specs.declared.fault.OpenCause.TheVariants.{Disk, NotDatabase, Memory}
use Rattle.page_chain.specs.Puts.{OnlySyncs}
use Rattle.version_catalog.specs.Catalogs.{names_in}
use Rattle.file_meaning.specs.Opening.{IsWrongAt, Opens}
use Rattle.file_meaning.specs.declared.meaning.found.Found.{Found}
use Rattle.store_opening.specs.Bases.{base_core}
use Rattle.store_versions.specs.Rows.{first_rows}
use Rattle.store_versions.specs.Seen.{version_of}
use Rattle.store_versions.specs.Versions.{MadeVersion}
use Rattle.store_state.specs.declared.state.parts.StoreParts.{StoreParts}
use Rattle.store_state.specs.At.{standing}
use Rattle.store_state.specs.Standings.{Standing}
use Rattle.store_opening.specs.declared.opening.opening.Limits.{Limits}

-- a store to which nothing came yet, within its limits
pub record IsNew {D : Type 0} (limits : Limits) (s : Standing D) : Type 0 where
  pub entries : s.ledger.entries ≡ []
  pub notes : s.ledger.notes ≡ []
  pub history : s.ledger.limit ≡ limits.history
  pub pages : s.ledger.base.limit ≡ limits.pages
  pub doubt : s.doubt ≡ None
  pub acked : s.acked ≡ []
  pub made : s.made ≡ []

-- The file as it was opened is that behind its sync. It was only read since
pub record WasOpened {D : Type 0} (moment : D → Moment) (disk : D) (parts : StoreParts D) : Type 0 where
  pub synced : OnlySyncs (moment disk) (moment parts.opened.value.disk)
  -- of an honest disk that tells its bytes a crash then left these alone
  pub settled : IsTrue (moment parts.opened.value.disk).state.honest
      → IfSome (moment parts.opened.value.disk).state.seen (λ seen. Only seen (moment parts.opened.value.disk).may_leave)
  pub read : OnlyReads (moment parts.opened.value.disk) (moment parts.file.disk)
  pub slots : parts.file.slots ≡ parts.opened.value.slots

-- the versions that are found, each with its directory
abbrev pub versions_of : Found → List MadeVersion
versions_of found = map version_of (first_rows (names_in found.catalog).arrays found.directories)

-- what the store has is what these bytes open as: the root and its log, the catalogue, the versions and the base
pub record HasFound {D : Type 0} (moment : D → Moment) (limits : Limits) (file : List ℕ) (parts : StoreParts D) : Type 0 where
  pub found : Found
  pub opens : Opens file found
  pub slots : OpensAs parts.file.slots.current parts.file.slots.records file
  pub catalog : parts.catalog ≡ found.catalog
  pub versions : (standing moment parts).first ≡ versions_of found
  pub base : parts.ledger.base ≡ base_core found parts.file.slots.current.root.log limits.pages

-- a file that is wrong is told by the page at which it is
abbrev pub IsToldBy : List ℕ → OpenCause → Type 0
IsToldBy file Disk = Unit {0}
IsToldBy file (NotDatabase page) = IsWrongAt page file
IsToldBy file Memory = Unit {0}

-- the disk's fault comes only where its count rose
abbrev pub HasCause : OpenCause → DiskState → DiskState → Type 0
HasCause Disk old new = Rose old.faults new.faults
HasCause (NotDatabase page) old new = Unit {0}
HasCause Memory old new = Unit {0}
