-- A commit carries a file from one database to the next.
use Rattle.std.specs.Prelude.{◌≡◌, ◌⊎◌, ℕ, ◌<◌, true, false, not, List, [], ◌∷◌, ◌++◌, length, Option, None, Ok}
use Rattle.std.specs.List.{AllByRecursion, filter}
use Rattle.cell_values.specs.declared.datum.Row.{Row}
use Rattle.cell_values.specs.declared.schema.Schema.{Schema}
use Rattle.page_chain.specs.Places.{IsNone, KeepsPages}
use Rattle.page_chain.specs.declared.slots.layout.sides.Side.{Side}
use Rattle.page_chain.specs.declared.slots.layout.sides.Format.TheVariants.{One}
use Rattle.page_chain.specs.declared.slots.layout.roots.Root.{Root}
use Rattle.page_chain.specs.Standing.{root_in}
use Rattle.page_file.specs.Pages.{page_size, first_past}
use Rattle.page_file.specs.Links.{AreFree}
use Rattle.chunk_rle.specs.Chunks.{spelling}
use Rattle.chunk_rle.specs.Stored.{IsStored}
use Rattle.chunk_map.specs.Replacing.{AreReplaced}
use Rattle.chunk_map.specs.declared.directory.DirEntry.{DirEntry}
use Rattle.chunk_map.specs.Entries.{AreRising}
use Rattle.plan_changes.specs.declared.change.Change.{Change}
use Rattle.plan_changes.specs.Changes.{name_of}
use Rattle.plan_changes.specs.Databases.{Database, after}
use Rattle.version_catalog.specs.declared.rules.catalog_record.CatalogRecord.{CatalogRecord}
use Rattle.version_catalog.specs.Spelling.{spell_record, spelling as catalog_spelling}
use Rattle.version_catalog.specs.Catalogs.{names_in}
use Rattle.version_catalog.specs.Changed.{after_change}
use Rattle.file_meaning.specs.Slots.{Slots, slots_in}
use Rattle.file_meaning.specs.Opening.{Opens, is_seen, pages_of, sequence_of}
use Rattle.file_meaning.specs.Standing.{Stands, HoldsPart, stored_chunk}
use Rattle.file_meaning.specs.declared.meaning.found.Found.{Found}
use Rattle.file_meaning.specs.Next.{Made, blob_of, with_record, with_base}
use Rattle.file_meaning.specs.Premises.{StandsBy, MayChange, HasBlob, row_of, seen_before, HoldsRecord, HoldsBase, record_at, slots_with, root_at, slots_of}

-- a file that stands for a database by its own slots opens as what is found by them, and stands for it
abbrev pub FilesStandByTheirSlots : Type 0
FilesStandByTheirSlots = (file : List ℕ) (slots : Slots) (db : Database) (found : Found)
    → slots_in file ≡ Ok slots → StandsBy file slots db found → Opens file found × Stands file db

-- and the other way round
abbrev pub StandingFilesHaveSlots : Type 0
StandingFilesHaveSlots = (file : List ℕ) (slots : Slots) (db : Database) (found : Found)
    → slots_in file ≡ Ok slots → Opens file found → Stands file db → StandsBy file slots db found

-- where page 0 or the log page is written, and other pages none of which was found, the file stands by the slots as before
abbrev pub WritesLeaveStanding : Type 0
WritesLeaveStanding = (page : ℕ) (written old new : List ℕ) (slots : Slots) (db : Database) (found : Found)
    → (page ≡ 0) ⊎ (page ≡ slots.current.root.log) → KeepsPages (page ∷ written) old new → AllByRecursion (IsNone written) (pages_of found)
    → StandsBy old slots db found → StandsBy new slots db found

-- the entries of each directory that is found rise
abbrev pub FoundDirectoriesRise : Type 0
FoundDirectoriesRise = (file : List ℕ) (slots : Slots) (db : Database) (found : Found) → StandsBy file slots db found
    → AllByRecursion (AllByRecursion (λ directory. AreRising directory.entries)) found.directories

-- WITH THE RECORD OF A CHANGE the file stands for the database after it
abbrev pub RecordsMakeNext : Type 0
RecordsMakeNext = (written old new : List ℕ) (slots : Slots) (found : Found) (db : Database) (change : Change) (made : Option Made)
    (pages : List ℕ) (entry : CatalogRecord)
    → StandsBy old slots db found → MayChange db change → HoldsRecord written old new slots found db change made pages entry
    → StandsBy new (slots_with slots (record_at pages (spell_record entry))) (after db change) (with_record found pages change made)

-- WITH A NEW BASE of the catalogue after a change the file stands for the database after it
abbrev pub BasesMakeNext : Type 0
BasesMakeNext = (written old new : List ℕ) (slots : Slots) (found : Found) (db : Database) (change : Change) (made : Option Made)
    (pages : List ℕ) (sequence log : ℕ) (side : Side)
    → StandsBy old slots db found → MayChange db change → HoldsBase written old new slots found db change made pages sequence log
    → StandsBy new (slots_of side (root_at sequence pages (catalog_spelling (after_change found.catalog change (blob_of made))) log))
    (after db change) (with_base found pages change made)

-- a new base that is torn to format 1 stands for the same
abbrev pub TornBasesStandAlike : Type 0
TornBasesStandAlike = (file : List ℕ) (side : Side) (root : Root) (db : Database) (found : Found) → StandsBy file (slots_of side root) db found
    → StandsBy file (record { current = root_in One side root; records = [] }) db found

-- what was written as the one spelling of a stored chunk is a new version's payload
abbrev pub WrittenPayloadsAreHeld : Type 0
WrittenPayloadsAreHeld = (file : List ℕ) (schema : Schema) (rows : List Row) (entry : DirEntry) → IsStored schema (stored_chunk schema rows entry.at.items)
    → HasBlob file entry.pages (spelling schema.attributes (stored_chunk schema rows entry.at.items))
    → entry.length ≡ length (spelling schema.attributes (stored_chunk schema rows entry.at.items))
    → (first_past page_size file entry.pages ≡ None) × HoldsPart file schema rows entry

-- ---- which entries a version before has

-- each entry of a directory of the array has been seen
abbrev pub HadEntriesAreSeen : Type 0
HadEntriesAreSeen = (found : Found) (change : Change)
    → AllByRecursion (λ directory. AllByRecursion (λ entry. is_seen (seen_before found change) entry ≡ true) directory.entries)
    (row_of (name_of change) (names_in found.catalog).arrays found.directories)

-- an entry that a later commit wrote hasn't
abbrev pub LaterEntriesAreUnseen : Type 0
LaterEntriesAreUnseen = (file : List ℕ) (slots : Slots) (db : Database) (found : Found) (change : Change) (entry : DirEntry) → StandsBy file slots db found
    → sequence_of slots < entry.birth → is_seen (seen_before found change) entry ≡ false

-- where entries that weren't seen replace those of a directory that was, they alone aren't seen
abbrev pub ReplacingEntriesAreUnseen : Type 0
ReplacingEntriesAreUnseen = (seen fresh old new : List DirEntry) → AreReplaced fresh old new → AreRising fresh
    → AllByRecursion (λ entry. is_seen seen entry ≡ false) fresh → AllByRecursion (λ entry. is_seen seen entry ≡ true) old
    → filter (λ entry. not (is_seen seen entry)) new ≡ fresh

-- free pages are free in another order
abbrev pub FreePagesTurn : Type 0
FreePagesTurn = (taken before front behind : List ℕ) → AreFree taken (before ++ (front ++ behind)) → AreFree taken (before ++ (behind ++ front))
