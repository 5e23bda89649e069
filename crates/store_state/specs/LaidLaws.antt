-- What a commit lays carries a file from one database to the next.
use Rattle.std.specs.Prelude.{◌≡◌, ℕ, ◌+◌, List, [], ◌∷◌, ◌++◌, Option, false, IsTrue}
use Rattle.std.specs.List.{AllByRecursion}
use Rattle.array_geom.specs.declared.chunk.Changed.{Changed}
use Rattle.array_geom.specs.Geometry.{has_core}
use Rattle.page_chain.specs.Places.{KeepsPages}
use Rattle.page_chain.specs.Opens.{OpensAs}
use Rattle.page_chain.specs.declared.slots.layout.sides.Side.{Side}
use Rattle.page_chain.specs.declared.slots.layout.roots.Root.{Root}
use Rattle.page_chain.specs.Standing.{OpensAsRoot}
use Rattle.page_chain.specs.declared.slots.slots.slots.RootSlot.TheVariants.{Opening}
use Rattle.chunk_map.specs.declared.directory.Directory.{Directory}
use Rattle.chunk_map.specs.Entries.{AreRising}
use Rattle.file_meaning.specs.Change.{Change}
use Rattle.file_meaning.specs.Databases.{Database, after}
use Rattle.file_meaning.specs.Slots.{Slots}
use Rattle.file_meaning.specs.Opening.{Opens, catalogue_pages, sequence_of}
use Rattle.file_meaning.specs.Standing.{Stands}
use Rattle.file_meaning.specs.declared.meaning.found.Found.{Found}
use Rattle.file_meaning.specs.Next.{with_record, with_base}
use Rattle.file_meaning.specs.Premises.{StandsBy, slots_with, slots_of}
use Rattle.page_file.specs.Commits.{HoldsAll, record_of, root_of, commit_pages, base_pages}
use Rattle.commit_pages.specs.declared.pages.laid.Laid.{Laid}
use Rattle.commit_pages.specs.Changes.{AreValid}
use Rattle.commit_pages.specs.Versions.{draft, settled, directory_of}
use Rattle.store_state.specs.LaidPremises.{IsCommit, IsLaidRecord, IsLaidBase, made_of, pages_made}

-- ---- records

-- ONCE THE BLOBS AND THE RECORD OF A COMMIT ARE IN THEIR PAGES, and no page but these and the log page was written, the file stands for the
-- database after the change, by the slots with one record more
abbrev pub LaidRecordsMakeNext : Type 0
LaidRecordsMakeNext = (old new : List ℕ) (slots : Slots) (db : Database) (found : Found) (change : Change) (changed : Option Changed)
    (newest : Directory) (catalogue pages : List ℕ) (laid : Laid) → IsCommit old slots db found change changed newest
    → IsLaidRecord slots found change changed newest catalogue pages laid
    → KeepsPages (slots.current.root.log ∷ commit_pages laid.blobs laid.chain) old new → HoldsAll new laid.blobs laid.chain
    → StandsBy new (slots_with slots (record_of laid.chain)) (after db change) (with_record found laid.chain.pages change (made_of laid))

-- ---- new bases

-- so it does once the blobs and the next catalogue are in their pages, by the new root with an empty log
abbrev pub LaidBasesMakeNext : Type 0
LaidBasesMakeNext = (old new : List ℕ) (slots : Slots) (db : Database) (found : Found) (change : Change) (changed : Option Changed)
    (newest : Directory) (pages : List ℕ) (log : ℕ) (laid : Laid) (side : Side) → IsCommit old slots db found change changed newest
    → IsLaidBase slots found change changed newest pages log laid
    → KeepsPages (0 ∷ base_pages laid.blobs laid.chain log) old new → HoldsAll new laid.blobs laid.chain
    → StandsBy new (slots_of side (root_of (sequence_of slots + 1) laid.chain log)) (after db change)
    (with_base found laid.chain.pages change (made_of laid))

-- ---- what it opens as

-- a file that stands for a database by slots, and opens as these, stands for it by its own
abbrev pub OpenedFilesStand : Type 0
OpenedFilesStand = (file : List ℕ) (slots : Slots) (db : Database) (found : Found) → StandsBy file slots db found
    → OpensAs slots.current slots.records file → Opens file found × Stands file db

-- so does one that opens as a new root, torn or not
abbrev pub OpenedRootsStand : Type 0
OpenedRootsStand = (file : List ℕ) (side : Side) (root : Root) (db : Database) (found : Found) → StandsBy file (slots_of side root) db found
    → OpensAsRoot (Opening root) side file → Opens file found × Stands file db

-- ---- pages

-- with the record of a commit the catalogue that is found is the one laid, and its pages are those before and the record's. The commit tells
-- so of the catalogue's pages, and for its version those of the new directory and of all its payloads
pub record HasRecordPages (found next : Found) (before : List ℕ) (laid : Laid) : Type 0 where
  pub catalog : next.catalog ≡ laid.catalog
  pub catalogue : catalogue_pages next ≡ catalogue_pages found ++ laid.chain.pages
  pub told : laid.used.catalogue ≡ before ++ laid.chain.pages
  pub version : laid.used.version ≡ pages_made (made_of laid)

abbrev pub LaidRecordsHaveTheirPages : Type 0
LaidRecordsHaveTheirPages = (slots : Slots) (found : Found) (change : Change) (changed : Option Changed) (newest : Directory)
    (catalogue pages : List ℕ) (laid : Laid) → IsLaidRecord slots found change changed newest catalogue pages laid
    → HasRecordPages found (with_record found laid.chain.pages change (made_of laid)) catalogue laid

-- with a new base it is the one laid too, and its pages are those of its chain. The commit tells these and the log page
pub record HasBasePages (next : Found) (log : ℕ) (laid : Laid) : Type 0 where
  pub catalog : next.catalog ≡ laid.catalog
  pub catalogue : catalogue_pages next ≡ laid.chain.pages
  pub told : laid.used.catalogue ≡ laid.chain.pages ++ log ∷ []
  pub version : laid.used.version ≡ pages_made (made_of laid)

abbrev pub LaidBasesHaveTheirPages : Type 0
LaidBasesHaveTheirPages = (slots : Slots) (found : Found) (change : Change) (changed : Option Changed) (newest : Directory)
    (pages : List ℕ) (log : ℕ) (laid : Laid) → IsLaidBase slots found change changed newest pages log laid
    → HasBasePages (with_base found laid.chain.pages change (made_of laid)) log laid

-- ---- directories

-- where that holds of the newest version's directory, the core of each chunk that the new one lists holds a coordinate
abbrev pub LaidDirectoriesHaveCores : Type 0
LaidDirectoriesHaveCores = (changed : Changed) (newest : Directory) (birth : ℕ) (pages : List ℕ) → AreValid changed
    → (changed.whole ≡ false → AreRising newest.entries × AllByRecursion (λ entry. IsTrue (has_core changed.schema.dimensions entry.at.items)) newest.entries)
    → AllByRecursion (λ entry. IsTrue (has_core changed.schema.dimensions entry.at.items)) (directory_of (settled pages (draft birth changed)) newest).entries
