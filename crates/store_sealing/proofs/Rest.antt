-- The laws on which those of a store's cells rest.
use Rattle.prepared_commits.specs.CostsLaws.{FoundFilesAreOver}
use Rattle.store_state.specs.LaidLaws.{OpenedFilesStand, OpenedRootsStand}
use Rattle.store_sealing.specs.ImagesLaws.{UntouchedImages, UnopenedImages, OpeningRecords, OpeningRoots, NextImages, LaidRecordsStand, LaidBasesStand, ImagesHaveStood}

pub record Rest : Type 0 where
  pub over : FoundFilesAreOver
  pub own : OpenedFilesStand
  pub torn : OpenedRootsStand
  pub untouched : UntouchedImages
  pub unopened : UnopenedImages
  pub opening_records : OpeningRecords
  pub opening_roots : OpeningRoots
  pub next : NextImages
  pub laid_records : LaidRecordsStand
  pub laid_bases : LaidBasesStand
  pub stood : ImagesHaveStood
