-- Which backups are restored.
use Rattle.std.specs.Prelude.{◌≡◌, ℕ, ◌≤◌, Ok}
use Rattle.plan_changes.specs.Databases.{Database}
use Rattle.plan_changes.specs.Stored.{IsDatabase}
use Rattle.backup_format.specs.Pieces.{pieces_of}
use Rattle.backup_format.specs.Backups.{backup, IsCounted}
use Rattle.backup_restoring.specs.Restores.{free_pages, restore_pages, restored_by}

-- the backup of a database that fits into so many pages is restored
abbrev pub BackupsAreRestored : Type 0
BackupsAreRestored = (pages : ℕ) (db : Database) → IsDatabase db → IsCounted db → restore_pages (pieces_of db) ≤ free_pages pages → restored_by pages (backup db) ≡ Ok tt
