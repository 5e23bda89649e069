-- What a place sees of a store.
use Rattle.std.specs.Prelude.{◌≡◌, ℕ, List, Some}
use Rattle.afl_outside.specs.Disk.{Moment}
use Rattle.plan_changes.specs.Databases.{Database, names_of}
use Rattle.plan_changes.specs.Stored.{AreStored, IsDatabase}
use Rattle.event_core.specs.Cells.{at}
use Rattle.event_core.specs.History.{History, names_at}
use Rattle.store_versions.specs.Seen.{seen}
use Rattle.store_versions.specs.Versions.{HaveDirectories}
use Rattle.store_state.specs.Payloads.{HavePayloads}
use Rattle.store_state.specs.Standings.{Standing, versions_after}
use Rattle.store_state.specs.Inner.Keeping.{Keeping, AreDirectoriesOf, LieIn}

-- in the table a place sees just the versions that could be named after what was before it, each with its directory
pub record Sees {D : Type 0} (s : Standing D) (k : Keeping) (place : ℕ) (before : History) : Type 0 where
  pub rows : seen place k.rows ≡ versions_after s before
  pub directories : AreDirectoriesOf (names_at s.ledger.base before) (versions_after s before)
  pub named : HaveDirectories (names_at s.ledger.base before) (versions_after s before)
  pub stored : AreStored (names_at s.ledger.base before)

-- and each lies in each image with the rows that it had. The disk tells its bytes
pub record SeesCells {D : Type 0} (moment : D → Moment) (s : Standing D) (db : Database) (before : History) : Type 0 where
  pub database : IsDatabase (at db before)
  pub names : names_of (at db before) ≡ names_at s.ledger.base before
  pub file : List ℕ
  pub tells : (moment s.disk).state.seen ≡ Some file
  pub lies : (image : List ℕ) → (moment s.disk).may_leave image → LieIn image (at db before) (versions_after s before)

-- the disk tells its bytes, and each image has its payloads
pub record SeesPayloads {D : Type 0} (moment : D → Moment) (s : Standing D) (file : List ℕ) (before : History) : Type 0 where
  pub bytes : List ℕ
  pub tells : (moment s.disk).state.seen ≡ Some bytes
  pub have : (image : List ℕ) → (moment s.disk).may_leave image → HavePayloads s.first file image (names_at s.ledger.base before) (versions_after s before)
