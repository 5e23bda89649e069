-- A store over whose image a commit may be written, a witness: the one that was just opened over a file of one array with two cells.
use Rattle.std.specs.Prelude.{[], ◌∷◌, None}
use Rattle.file_meaning.specs.Inner.FileExample.{database, file}
use Rattle.file_meaning.specs.declared.meaning.found.Found.{Found}
use Rattle.store_state.specs.Cells.{IsImage}
use Rattle.store_state.specs.Standings.{base_of, given_of}
use Rattle.store_state.specs.Worked.{worked_base, worked_slots, worked_store}
use Rattle.store_sealing.specs.Premises.{IsStore, MayBeWritten}

-- a record may be written in pages 5 and 6, and its entry in the log page
pub record AStoreMayBeWritten : Type 0 where
  pub found : Found
  pub store : IsStore (base_of worked_store) (given_of worked_store) database [] worked_slots found
  pub image : IsImage worked_base (given_of worked_store) database [] worked_slots None found file
  pub pages : MayBeWritten worked_base [] worked_slots 2 (5 ∷ 6 ∷ [])
