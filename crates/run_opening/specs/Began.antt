-- How the store of a run was opened, and what is told where it wasn't.
use Rattle.std.specs.Prelude.{◌≡◌, ℕ, List, map, IfSome}
use Rattle.afl_outside.specs.Counts.{Rose}
use Rattle.afl_outside.specs.Disk.{DiskState, Moment}
use Rattle.array_store.specs.declared.store.start.Start.{Start}
use Rattle.array_store.specs.Starts.{first_of}
use Rattle.file_meaning.specs.Opening.{IsWrongAt, Opens}
use Rattle.file_meaning.specs.declared.meaning.found.Found.{Found}
use Rattle.page_chain.specs.declared.fault.OpenCause.{OpenCause}
use Rattle.page_chain.specs.declared.fault.OpenCause.TheVariants as causes
use Rattle.page_chain.specs.Opens.{OpensAs}
use Rattle.page_chain.specs.Puts.{OnlySyncs}
use Rattle.run_opening.specs.declared.reports.notices.Notice.{Notice}
use Rattle.run_opening.specs.declared.reports.notices.Notice.TheVariants as notices
use Rattle.store_opening.specs.Bases.{base_core}
use Rattle.store_opening.specs.declared.opening.opening.Limits.{Limits}
use Rattle.store_opening.specs.Opened.{versions_of}

abbrev pub notice_of_cause : OpenCause → Notice
notice_of_cause causes.Disk = notices.Disk
notice_of_cause (causes.NotDatabase page) = notices.NotDatabase page
notice_of_cause causes.Memory = notices.Memory

-- the disk's count rose; or what it told is no database, first at this page; or memory was short
abbrev pub TellsUnopened : Notice → DiskState → DiskState → Type 0
TellsUnopened notices.Memory old new = Unit {0}
TellsUnopened notices.Disk old new = Rose old.faults new.faults
TellsUnopened (notices.NotDatabase page) old new = IfSome old.seen (IsWrongAt page)
TellsUnopened _ old new = ⊥

-- the store has what these bytes open as: the root and its log, the versions and the base
pub record IsOpenedFrom {D : Type 0} (pages : ℕ) (file : List ℕ) (start : Start D) : Type 0 where
  pub found : Found
  pub opens : Opens file found
  pub slots : OpensAs start.opened.slots.current start.opened.slots.records file
  pub versions : start.first ≡ map first_of (versions_of found)
  pub base : start.base ≡ base_core found start.opened.slots.current.root.log pages

-- the store was opened over what the disk told, as what that opens as, within these limits
pub record BeganOver {D : Type 0} (moment : D → Moment) (disk : D) (limits : Limits) (start : Start D) : Type 0 where
  pub synced : OnlySyncs (moment disk) (moment start.opened.disk)
  pub entries : start.limit ≡ limits.history
  pub pages : start.base.limit ≡ limits.pages
  pub opened : IfSome (moment disk).state.seen (λ file. IsOpenedFrom limits.pages file start)
