-- With what is laid of a commit an image stands for the next database.
use Rattle.std.proofs.Common.{ℕ, List, Option}
use Rattle.array_geom.specs.declared.chunk.Changed.{Changed}
use Rattle.page_chain.specs.Places.{other}
use Rattle.page_chain.specs.declared.slots.slots.slots.Slots.{Slots}
use Rattle.chunk_map.specs.declared.directory.Directory.{Directory}
use Rattle.plan_changes.specs.declared.change.Change.{Change}
use Rattle.plan_changes.specs.Databases.{Database}
use Rattle.file_meaning.specs.declared.meaning.found.Found.{Found}
use Rattle.event_core.specs.Bases.{Base}
use Rattle.event_core.specs.Cells.{at}
use Rattle.event_core.specs.History.{History}
use Rattle.store_state.specs.LaidLaws.{LaidRecordsMakeNext, LaidBasesMakeNext}
use Rattle.store_state.specs.LaidPremises.{IsCommit}
use Rattle.store_versions.specs.Versions.{Directories}
use Rattle.store_state.specs.Cells.{IsImage}
use Rattle.store_state.specs.Standings.{current_slots}
use Rattle.store_sealing.specs.ImagesLaws.{LaidRecordsStand, LaidBasesStand}

-- what is committed over one image is committed over each
commit_over : (base : Base) (given : Directories) (db : Database) (h : History) (slots : Slots) (doubt : Option Change) (found : Found) (any old : List ℕ) (change : Change) (changed : Option Changed) (newest : Directory)
    → IsCommit any (current_slots slots) (at db h) found change changed newest → IsImage base.core given db h slots doubt found old → IsCommit old (current_slots slots) (at db h) found change changed newest
commit_over base given db h slots doubt found any old change changed newest commit image = record {
  stands = record { finds = image.opens; database = commit.stands.database; holds = image.holds };
  may = commit.may;
  over = commit.over;
  catalog = commit.catalog;
  part = commit.part;
  sequence = commit.sequence;
}

pub laid_records_stand : LaidRecordsMakeNext → LaidRecordsStand
laid_records_stand make base given db h slots doubt found any old new change changed newest catalogue pages laid commit is image keeps holds =
    make old new (current_slots slots) (at db h) found change changed newest catalogue pages laid (commit_over base given db h slots doubt found any old change changed newest commit image) is keeps holds

pub laid_bases_stand : LaidBasesMakeNext → LaidBasesStand
laid_bases_stand make base given db h slots doubt found any old new change changed newest pages log laid commit is image keeps holds =
    make old new (current_slots slots) (at db h) found change changed newest pages log laid (other slots.current.side) (commit_over base given db h slots doubt found any old change changed newest commit image) is keeps holds
