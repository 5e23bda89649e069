-- What is known of a store over whose images a commit is written.
use Rattle.std.specs.Prelude.{◌≡◌, ℕ, List, false}
use Rattle.std.specs.List.{AllByRecursion}
use Rattle.page_chain.specs.Standing.{target_page}
use Rattle.page_chain.specs.declared.slots.slots.slots.Slots.{Slots}
use Rattle.plan_changes.specs.Databases.{Database}
use Rattle.plan_changes.specs.Stored.{IsDatabase}
use Rattle.version_catalog.specs.declared.rules.catalog.Catalog.{Catalog}
use Rattle.version_catalog.specs.Catalogs.{names_in}
use Rattle.file_meaning.specs.declared.meaning.found.Found.{Found}
use Rattle.event_core.specs.declared.state.Core.{Core}
use Rattle.event_core.specs.Bases.{Base}
use Rattle.event_core.specs.Cells.{at}
use Rattle.event_core.specs.History.{History, names_at}
use Rattle.event_core.specs.Pages.{is_live}
use Rattle.store_state.specs.Rows.{AreInOrder}
use Rattle.store_versions.specs.declared.row.VersionRow.{VersionRow}
use Rattle.store_versions.specs.Versions.{Directories, versions_at}
use Rattle.store_state.specs.Cells.{IsFound}
use Rattle.store_state.specs.Kept.{IsInOrder, AreVersions, AreSlots}

-- WHAT A STORE KEEPS BESIDE ITS IMAGES: its history, its versions and its slots go together, there is a database, and this is found of its file
pub record IsStore (base : Base) (given : Directories) (db : Database) (h : History) (slots : Slots) (found : Found) : Type 0 where
  pub rows : List VersionRow
  pub catalog : Catalog
  pub in_order : IsInOrder base.core h
  pub versions : AreVersions base.core given h rows
  pub are_slots : AreSlots base h slots
  pub database : IsDatabase (at db h)
  pub is_found : IsFound base.core given h catalog slots.current.root.log found

-- THE PAGES THAT A COMMIT WRITES: the one in which its slot lies, and others that nobody can name
pub record MayBeWritten (base : Core) (h : History) (slots : Slots) (page : ℕ) (pages : List ℕ) : Type 0 where
  pub its : page ≡ target_page slots.target slots
  pub unnamed : AllByRecursion (λ other. is_live base h other ≡ false) pages

-- what is found has the names after a history, and the versions, each in its place
pub record IsFoundInOrder (base : Core) (given : Directories) (h : History) (log : ℕ) (found : Found) : Type 0 where
  pub catalog : Catalog
  pub is_found : IsFound base given h catalog log found
  pub names : names_in catalog ≡ names_at base h
  pub in_order : AreInOrder (names_at base h) (versions_at base given h)
