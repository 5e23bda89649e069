-- Pieces and rows.
use Rattle.std.specs.Prelude.{◌≡◌, true, List, Ok, ◌<◌, ◌^◌, length}
use Rattle.std.specs.List.{AllByRecursion}
use Rattle.cell_values.specs.declared.datum.Row.{Row}
use Rattle.cell_values.specs.declared.schema.Schema.{Schema}
use Rattle.array_rows.specs.Arrays.{AreRowsOf}
use Rattle.array_geom.specs.Geometry.{ChunkNumber}
use Rattle.logical_plan.specs.Typing.{AreSound}
use Rattle.backup_format.specs.Pieces.{rising_numbers, stored_chunk, stored_payload, version_of}
use Rattle.backup_format.specs.Table.{chunk_in, fit_together, rows_of}
use Rattle.plan_changes.specs.Databases.{Database, Version}
use Rattle.plan_changes.specs.Stored.{IsDatabase}
use Rattle.backup_format.specs.Backups.{backup, IsCounted}

-- the payload of each piece is read as the chunk that is stored
abbrev pub AreReadAsStored : Schema → List Row → List ChunkNumber → Type 0
AreReadAsStored schema rows = AllByRecursion (λ k. chunk_in schema k (stored_payload schema rows k) ≡ Ok (stored_chunk schema rows k))

-- the pieces of a version's rows
pub record FitsTogether (schema : Schema) (version : Version) : Type 0 where
  pub read : AreReadAsStored schema version.rows (rising_numbers schema.dimensions version.rows)
  -- their cores hold these rows
  pub rows : rows_of schema (version_of schema version).pieces ≡ version.rows
  -- and no overlap is wrong
  pub fit : fit_together schema (version_of schema version).pieces ≡ true

abbrev pub VersionsFit : Type 0
VersionsFit = (schema : Schema) (version : Version) → AreRowsOf schema version.rows → AreSound schema version.rows → FitsTogether schema version

-- a backup is that of one database
abbrev pub BackupsAreOfOneDatabase : Type 0
BackupsAreOfOneDatabase = (db other : Database) → IsDatabase db → IsDatabase other → IsCounted db → IsCounted other → backup db ≡ backup other → db ≡ other

-- counts and lengths of a backup of fewer than 2^64 bytes can be said
abbrev pub ShortBackupsAreCounted : Type 0
ShortBackupsAreCounted = (db : Database) → length (backup db) < 2 ^ 64 → IsCounted db
