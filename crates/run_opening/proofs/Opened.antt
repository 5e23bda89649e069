-- A store that was opened for a run.
use Rattle.std.proofs.Common.{◌∙◌, map, Option, Some, None, IfSome, ap, subst}
use Rattle.afl_outside.specs.Disk.{DiskState, Moment}
use Rattle.array_store.specs.Starts.{first_of, start_of}
use Rattle.page_chain.specs.declared.fault.OpenCause.{OpenCause}
use Rattle.page_chain.specs.declared.fault.OpenCause.TheVariants as causes
use Rattle.page_chain.specs.Opens.{OpensAs}
use Rattle.page_chain.specs.declared.slots.slots.slots.Slots.{Slots}
use Rattle.store_opening.specs.Bases.{base_core}
use Rattle.store_opening.specs.declared.opening.opening.Limits.{Limits}
use Rattle.store_opening.specs.Opened.{HasCause, HasFound, IsNew, IsToldBy, WasOpened}
use Rattle.store_state.specs.declared.state.parts.StoreParts.{StoreParts}
use Rattle.store_state.specs.At.{standing}
use Rattle.run_opening.specs.Began.{BeganOver, IsOpenedFrom, TellsUnopened, notice_of_cause}

if_some : {A : Type 0} (P Q : A → Type 0) (o : Option A) → ((x : A) → P x → Q x) → IfSome o P → IfSome o Q
if_some P Q None each some = tt
if_some P Q (Some x) each some = each x some

pub began_over : {D : Type 0} (moment : D → Moment) (disk : D) (limits : Limits) (parts : StoreParts D) → IsNew limits (standing moment parts) → WasOpened moment disk parts
    → IfSome (moment disk).state.seen (λ seen. HasFound moment limits seen parts) → BeganOver moment disk limits (start_of (standing moment parts))
began_over moment disk limits parts new opened told = record {
  synced = opened.synced;
  entries = new.history;
  pages = new.pages;
  opened = if_some (λ seen. HasFound moment limits seen parts) (λ file. IsOpenedFrom limits.pages file (start_of (standing moment parts))) (moment disk).state.seen
      (λ file has. record {
        found = has.found;
        opens = has.opens;
        slots = subst (λ (slots : Slots). OpensAs slots.current slots.records file) opened.slots has.slots;
        versions = ap (map first_of) has.versions;
        base = has.base ∙ ap (λ (slots : Slots). base_core has.found slots.current.root.log limits.pages) opened.slots;
      }) told;
}

pub tells : (cause : OpenCause) (old new : DiskState) → IfSome old.seen (λ seen. IsToldBy seen cause) → HasCause cause old new → TellsUnopened (notice_of_cause cause) old new
tells causes.Disk old new told has = has
tells (causes.NotDatabase page) old new told has = told
tells causes.Memory old new told has = tt
