-- The laws of commits that are sealed, or stop, together.
use Rattle.afl_outside.specs.Disk.{Moment}
use Rattle.store_sealing.specs.StepsLaws.{SealedStoresAreKept, StoppedStoresAreKept}
use Rattle.store_sealing.specs.CellsLaws.{CommitsPassBy, SealedCellsAreHeld, SealedImagesStand, SealedPayloadsAreHeld, StoppedCellsAreHeld, StoppedPayloadsAreHeld}

pub record CommitsHold {D : Type 0} (moment : D → Moment) : Type 0 where
  pub kept : SealedStoresAreKept moment
  pub stopped_kept : StoppedStoresAreKept moment
  pub had : SealedPayloadsAreHeld moment
  pub stopped_had : StoppedPayloadsAreHeld moment
  pub held : SealedCellsAreHeld moment
  pub stopped_held : StoppedCellsAreHeld moment
  pub stands : SealedImagesStand moment
  pub passes : CommitsPassBy moment
