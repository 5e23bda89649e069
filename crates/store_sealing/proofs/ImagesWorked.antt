-- The worked store is one over whose image a commit may be written.
use Rattle.std.proofs.Common.{[], refl}
use Rattle.file_meaning.proofs.WorkedFiles.{file_stands}
use Rattle.file_meaning.specs.Inner.FileExample.{database, file}
use Rattle.store_state.specs.At.{IsAt}
use Rattle.store_state.specs.Cells.{HoldsCells}
use Rattle.store_state.specs.Standings.{given_of}
use Rattle.store_state.specs.Worked.{worked_keeping, worked_moment, worked_store}
use Rattle.store_sealing.specs.ImagesWorked.{AStoreMayBeWritten}

pub store_may_be_written : IsAt worked_moment worked_store worked_keeping → AStoreMayBeWritten
store_may_be_written x =
    let c : HoldsCells worked_moment worked_store worked_keeping database [] (given_of worked_store) [] = x.cells database (record { honest = refl; file = file; tells = refl; stands = file_stands }) in
    record {
      found = c.found;
      store = record {
        rows = worked_keeping.rows;
        catalog = worked_keeping.catalog;
        in_order = x.kept.in_order;
        versions = x.kept.versions;
        are_slots = x.kept.slots;
        database = c.database;
        is_found = c.is_found;
      };
      image = c.images file refl;
      pages = record { its = refl; unnamed = (refl, (refl, tt)) };
    }
