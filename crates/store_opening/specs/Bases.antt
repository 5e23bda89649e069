-- The base of a store's history, of what is found in its file.
use Rattle.std.specs.Prelude.{ℕ, not, ◌==◌, if◌then◌else◌, List, [], ◌∷◌, ◌++◌}
use Rattle.std.specs.List.{filter}
use Rattle.array_rows.specs.Boxes.{by_pairs}
use Rattle.chunk_map.specs.declared.directory.Directory.{Directory}
use Rattle.version_catalog.specs.declared.rules.catalog.CatalogArray.{CatalogArray}
use Rattle.version_catalog.specs.Catalogs.{names_in}
use Rattle.version_reaper.specs.PageSets.{pages_below}
use Rattle.event_core.specs.declared.state.VersionPages.{VersionPages}
use Rattle.event_core.specs.declared.state.Core.{Core}
use Rattle.event_core.specs.Replay.{is_core_live}
use Rattle.file_meaning.specs.Opening.{all_of, version_pages}
use Rattle.file_meaning.specs.declared.meaning.found.Found.{Found}

abbrev pub pages_named : List ℕ → ℕ → List ℕ → VersionPages
pages_named name version pages = record { name = name; version = version; pages = pages }

-- the pages of an array's versions: of each, those of its directory and of the payloads that this lists
abbrev pub array_pages : CatalogArray → List Directory → List VersionPages
array_pages array row = by_pairs (pages_named array.entry.name) array.entry.versions (by_pairs version_pages array.directories row)

abbrev pub versions_pages : Found → List VersionPages
versions_pages found = all_of (by_pairs array_pages found.catalog.arrays found.directories)

-- the log page, which a file of format 1 doesn't have
abbrev pub log_pages : ℕ → List ℕ
log_pages log = if log == 0 then [] else log ∷ []

-- the pages of the catalogue, with the log page: of the base's chain, that page, and those of the records
abbrev pub catalogue_with : Found → ℕ → List ℕ
catalogue_with found log = found.chain ++ log_pages log ++ all_of found.logged

-- a base with no pins and no entries whose free pages are all from 1 below the limit that are not live
abbrev pub with_free : Core → Core
with_free core = record core { free = filter (λ page. not (is_core_live core page)) (pages_below core.limit) }

abbrev pub base_core : Found → ℕ → ℕ → Core
base_core found log limit =
    with_free (record {
      names = names_in found.catalog;
      pages = versions_pages found;
      catalogue = catalogue_with found log;
      pins = [];
      free = [];
      limit = limit;
      entries = 0;
    })
