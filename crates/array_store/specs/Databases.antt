-- The databases that a store has, and their names.
use Rattle.std.specs.Prelude.{◌≡◌, ℕ, length}
use Rattle.afl_outside.specs.Disk.{Moment}
use Rattle.logical_plan.specs.declared.names.Names.{Names}
use Rattle.plan_changes.specs.Databases.{Database, names_of}
use Rattle.plan_changes.specs.Stored.{AreStored, IsDatabase}
use Rattle.event_core.specs.History.{names_at}
use Rattle.store_ledger.specs.declared.pinned.Pinned.{Pinned}
use Rattle.store_ledger.specs.Ledger.{IsOpenPin, history}
use Rattle.prepared_commits.specs.StoreParts.{StoreParts}
use Rattle.prepared_commits.specs.At.{AreParts, standing}
use Rattle.prepared_commits.specs.Calls.{database_with}
use Rattle.prepared_commits.specs.Standings.{BeganAs, Standing}

-- a database with these names
pub record IsDatabaseOf (db : Database) (names : Names) : Type 0 where
  pub database : IsDatabase db
  pub named : names_of db ≡ names

-- at a place a store has these names, and where the file began as a database, a database with them
pub record HasDatabase {D : Type 0} (moment : D → Moment) (s : Standing D) (place : ℕ) (names : Names) : Type 0 where
  pub stored : AreStored names
  pub database : (db : Database) → BeganAs (moment s.opened.disk).state db → IsDatabaseOf (database_with db s place) names

-- so it has behind all its entries, and under each open pin
pub record HasDatabases {D : Type 0} (moment : D → Moment) (parts : StoreParts D) : Type 0 where
  pub now : HasDatabase moment (standing moment parts) (length parts.ledger.entries) (names_at parts.ledger.base (history parts.ledger))
  pub pinned : (pinned : Pinned) → IsOpenPin parts.ledger pinned → HasDatabase moment (standing moment parts) pinned.place pinned.names

abbrev pub StoresHaveDatabases : {D : Type 0} → (D → Moment) → Type 0
StoresHaveDatabases {D} moment = (parts : StoreParts D) → AreParts moment parts → HasDatabases moment parts
