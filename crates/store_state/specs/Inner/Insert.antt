-- An insert over the file of one array with two cells: what the laws ask of it, and what they say.
use Rattle.std.specs.Prelude.{pos, false, List, [], ◌∷◌, codes, Some}
use Rattle.cell_values.specs.declared.datum.Row.{Row}
use Rattle.cell_values.specs.declared.datum.Cell.TheVariants.{Full}
use Rattle.cell_values.specs.declared.datum.Datum.TheVariants.{Int}
use Rattle.array_rows.specs.Rows.{placed}
use Rattle.array_geom.specs.declared.chunk.Changed.{Changed}
use Rattle.chunk_map.specs.declared.directory.Directory.{Directory}
use Rattle.logical_plan.specs.Query.{listed}
use Rattle.plan_changes.specs.declared.change.Change.{Change}
use Rattle.plan_changes.specs.declared.change.Change.TheVariants.{Insert}
use Rattle.plan_changes.specs.Databases.{names_of}
use Rattle.plan_changes.specs.Typed.{IsTypedFor}
use Rattle.version_catalog.specs.Catalogs.{IsCatalog}
use Rattle.file_meaning.specs.Standing.{stored_chunk}
use Rattle.file_meaning.specs.Inner.FileExample.{schema, database, file}
use Rattle.file_meaning.specs.Inner.NextExample.{entry, found, slots}
use Rattle.file_meaning.specs.Premises.{StandsBy}
use Rattle.commit_pages.specs.Changes.{ComesWith, AreValid, IsChangeOf}
use Rattle.commit_pages.specs.Laws.{IsOver}
use Rattle.store_state.specs.LaidPremises.{IsNewestIn}

-- 6 at 0, put into A
abbrev pub put : List Row
put = placed (pos 0 ∷ []) (Full (Int (pos 6) ∷ [])) ∷ []

abbrev pub change : Change
change = Insert (codes "A") schema (listed schema put)

-- then 6 at 0 and 7 at 1
abbrev pub rows : List Row
rows = placed (pos 0 ∷ []) (Full (Int (pos 6) ∷ [])) ∷ placed (pos 1 ∷ []) (Full (Int (pos 7) ∷ [])) ∷ []

-- they are in one chunk
abbrev pub changed : Changed
changed = record { schema = schema; whole = false; chunks = stored_chunk schema rows (0 ∷ []) ∷ [] }

abbrev pub newest : Directory
newest = record { entries = entry ∷ [] }

-- all that the law asks, and what it says
pub record AnInsertIsOverItsFile : Type 0 where
  pub stands : StandsBy file slots database found
  pub catalog : IsCatalog found.catalog
  pub typed : IsTypedFor (names_of database) change
  pub comes : ComesWith change (Some changed)
  pub valid : AreValid changed
  pub chunks : IsChangeOf database change changed
  pub part : IsNewestIn found change schema newest
  pub over : IsOver database change found.catalog (Some changed) newest
