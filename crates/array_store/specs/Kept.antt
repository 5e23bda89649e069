-- What a store keeps at each moment.
use Rattle.std.specs.Prelude.{◌⊎◌, IfSome}
use Rattle.afl_outside.specs.Counts.{Rose}
use Rattle.afl_outside.specs.Disk.{DiskGoesOn, DiskState, Moment}
use Rattle.store_opening.specs.StoreParts.{StoreParts}
use Rattle.store_opening.specs.At.{AreParts}

-- a call of the disk failed from one of its states to another
abbrev pub HasFailed : DiskState → DiskState → Type 0
HasFailed old new = Rose old.faults new.faults ⊎ Rose old.wants new.wants

-- its parts are those of a store, and its disk is the one that was opened, some calls later; a change is in doubt only where one of them failed
pub record IsStore {D : Type 0} (moment : D → Moment) (parts : StoreParts D) : Type 0 where
  pub at : AreParts moment parts
  pub goes_on : DiskGoesOn (moment parts.opened.value.disk).state (moment parts.file.disk).state
  pub doubt : IfSome parts.doubt (λ _. HasFailed (moment parts.opened.value.disk).state (moment parts.file.disk).state)
