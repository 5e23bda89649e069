-- What is known of the databases that files stand for.
use Rattle.std.specs.Prelude.{◌≡◌, ◌⊎◌, ℕ, ◌<◌, slice_index, true, List, [], ◌∷◌, ◌++◌, Ok}
use Rattle.std.specs.List.{AllByRecursion}
use Rattle.page_chain.specs.Places.{IsNone, KeepsPages}
use Rattle.page_chain.specs.Opens.{OpensAs, WrongAt}
use Rattle.page_chain.specs.declared.slots.layout.roots.OpenRoot.{OpenRoot}
use Rattle.page_chain.specs.declared.slots.layout.logs.RecordAt.{RecordAt}
use Rattle.page_file.specs.Start.{IsEmptyDatabase}
use Rattle.page_chain.specs.declared.slots.layout.sides.Side.{Side}
use Rattle.page_chain.specs.declared.slots.layout.sides.Format.TheVariants.{One, Two}
use Rattle.page_chain.specs.declared.slots.layout.roots.Root.{Root}
use Rattle.file_items.specs.Pages.{pages_needed}
use Rattle.page_file.specs.Pages.{page_size, pages_for}
use Rattle.page_file.specs.Chains.{names_page}
use Rattle.file_meaning.specs.Slots.{Slots, slots_in}
use Rattle.file_meaning.specs.Opening.{Opens, IsWrongAt, catalogue_pages, stored_pages, pages_of, found_in, Rules, rows_in, row_pages, all_of}
use Rattle.file_meaning.specs.Standing.{Stands, stored_chunk}
use Rattle.file_meaning.specs.declared.meaning.found.Found.{Found}
use Rattle.version_catalog.specs.Databases.{Database}
use Rattle.arrayvec.specs.ArrayVec.{ArrayVec}
use Rattle.cell_values.specs.declared.datum.Row.{Row}
use Rattle.cell_values.specs.declared.schema.Schema.{Schema}
use Rattle.cell_values.specs.Schemas.{IsValid}
use Rattle.chunk_source.specs.Geometry.{ChunkNumber, HasFrame, frame, has_core, overlaps}
use Rattle.chunk_source.specs.Arrays.{AreRowsOf}
use Rattle.chunk_source.specs.Boxes.{by_pairs, within}
use Rattle.chunk_source.specs.Rows.{IsRising, put_all}
use Rattle.chunk_map.specs.declared.directory.Directory.{Directory}
use Rattle.version_catalog.specs.declared.rules.catalog.CatalogArray.{CatalogArray}
use Rattle.chunk_source.specs.Link.{IsPart, has_cell}
use Rattle.chunk_source.specs.Typing.{AreSound}
use Rattle.chunk_source.specs.Chunk.{Chunk}
use Rattle.chunk_rle.specs.Frames.{frame_of}
use Rattle.chunk_rle.specs.Chunks.{chunk_payload, spelling}
use Rattle.chunk_rle.specs.Stored.{IsStored}
use Rattle.chunk_source.specs.Source.{IsStored as IsGiven}

-- a file that opens as a root with some records has just these slots
abbrev pub FilesHaveTheirSlots : Type 0
FilesHaveTheirSlots = (root : OpenRoot) (records : List RecordAt) (file : List ℕ) → OpensAs root records file
    → slots_in file ≡ Ok (record { current = root; records = records })

-- what is made of an empty file stands for no arrays
abbrev pub MadeFilesStand : Type 0
MadeFilesStand = (file : List ℕ) → IsEmptyDatabase file → Stands file []

-- Where pages are written that are none of those found, and the slots are as before, the file opens as before and stands for what it
-- stood for
abbrev pub WritesElsewhere : Type 0
WritesElsewhere = (written old new : List ℕ) (found : Found) (db : Database) → KeepsPages written old new
    → slots_in new ≡ slots_in old → Opens old found → AllByRecursion (IsNone written) (pages_of found)
    → Opens new found × (Stands old db → Stands new db)

-- a file stands for one database at most
abbrev pub OneDatabase : Type 0
OneDatabase = (file : List ℕ) (a b : Database) → Stands file a → Stands file b → a ≡ b

-- a file opens, or is wrong at a page
abbrev pub OpensOrIsWrong : Type 0
OpensOrIsWrong = (file : List ℕ) → ((found : Found) × Opens file found) ⊎ ((page : ℕ) × IsWrongAt page file)

-- not both, as one thing, and at one page
abbrev pub OpensAsOne : Type 0
OpensAsOne = (file : List ℕ) (a b : Found) → Opens file a → Opens file b → a ≡ b

abbrev pub IsWrongAtOne : Type 0
IsWrongAtOne = (file : List ℕ) (p q : ℕ) → IsWrongAt p file → IsWrongAt q file → p ≡ q

abbrev pub NotBoth : Type 0
NotBoth = (file : List ℕ) (found : Found) (page : ℕ) → Opens file found → IsWrongAt page file → ⊥

-- where the file is no database by its slots, it is wrong at that page
abbrev pub WrongSlotsAreWrong : Type 0
WrongSlotsAreWrong = (page : ℕ) (file : List ℕ) → WrongAt page file → IsWrongAt page file

-- what is found by a root of format 2 with an empty log is found by the same root in format 1
abbrev pub TornRootsFindAlike : Type 0
TornRootsFindAlike = (file : List ℕ) (side : Side) (root : Root) (found : Found)
    → found_in file (record { current = record { side = side; format = Two; root = root }; records = [] }) ≡ Ok found
    → found_in file (record { current = record { side = side; format = One; root = record root { log = 0 } }; records = [] }) ≡ Ok found

-- each page of a directory or of a payload is a page of the file, and neither the log page nor one of the catalogue's
abbrev pub PagesLieApart : Type 0
PagesLieApart = (file : List ℕ) (slots : Slots) (found : Found) → found_in file slots ≡ Ok found
    → AllByRecursion (λ p. names_page page_size file (slots.current.root.log ∷ catalogue_pages found) p ≡ true) (stored_pages found)

-- a stored chunk is its part of the rows, and the only chunk of its number that is
abbrev pub StoredChunksAreParts : Type 0
StoredChunksAreParts = (schema : Schema) (rows : List Row) (k : ChunkNumber) → HasFrame schema (overlaps schema.dimensions) k
    → IsPart schema.dimensions (overlaps schema.dimensions) rows (stored_chunk schema rows k)

abbrev pub PartsAreStored : Type 0
PartsAreStored = (schema : Schema) (rows : List Row) (chunk : Chunk) → HasFrame schema (overlaps schema.dimensions) chunk.at.items
    → IsPart schema.dimensions (overlaps schema.dimensions) rows chunk
    → chunk ≡ stored_chunk schema rows chunk.at.items

-- bytes that are read as a chunk are its one spelling, and what spells a stored chunk is read as it
abbrev pub ReadPayloadsAreSpelled : Type 0
ReadPayloadsAreSpelled = (schema : Schema) (at : ArrayVec ℕ) (bytes : List ℕ) (chunk : Chunk) → IsValid schema
    → has_core schema.dimensions at.items ≡ true → ((i : ℕ) → slice_index bytes i < 256)
    → chunk_payload (frame_of schema at.items) at schema.attributes bytes ≡ Ok chunk → IsStored schema chunk × (bytes ≡ spelling schema.attributes chunk)

abbrev pub SpelledPayloadsAreRead : Type 0
SpelledPayloadsAreRead = (schema : Schema) (bytes : List ℕ) (chunk : Chunk) → IsStored schema chunk
    → bytes ≡ spelling schema.attributes chunk → chunk_payload (frame_of schema chunk.at.items) chunk.at schema.attributes bytes ≡ Ok chunk

-- the chunk of sound rows is a stored one, where its core holds a row
abbrev pub SoundRowsAreStored : Type 0
SoundRowsAreStored = (schema : Schema) (rows : List Row) (k : ChunkNumber) → AreRowsOf schema rows → AreSound schema rows
    → has_core schema.dimensions k ≡ true → has_cell schema.dimensions rows k ≡ true → IsStored schema (stored_chunk schema rows k)

-- what is stored as bytes is what a source of chunks may give under its number
abbrev pub StoredChunksAreGiven : Type 0
StoredChunksAreGiven = (schema : Schema) (chunk : Chunk) → IsStored schema chunk → IsGiven schema chunk.at chunk

abbrev pub GivenChunksAreStored : Type 0
GivenChunksAreStored = (schema : Schema) (at : ArrayVec ℕ) (chunk : Chunk) → IsGiven schema at chunk → IsStored schema chunk

-- where the frame of a chunk holds none of the rows that are put in, the chunk stays
abbrev pub ChunksBesideStay : Type 0
ChunksBesideStay = (schema : Schema) (input rows : List Row) (k : ChunkNumber) → IsRising rows
    → within (frame schema.dimensions (overlaps schema.dimensions) k) input ≡ []
    → stored_chunk schema (put_all input rows) k ≡ stored_chunk schema rows k

-- catalogues and blobs count the pages that some bytes need alike
abbrev pub CountsAgree : Type 0
CountsAgree = (n : ℕ) → pages_needed n ≡ pages_for page_size n

-- directories are found again where more pages are taken, none of which is theirs or their payloads'
abbrev pub MoreMayBeTaken : Type 0
MoreMayBeTaken = (file extra taken : List ℕ) (rules : Rules) (arrays : List CatalogArray) (rows : List (List Directory))
    → rows_in file rules taken arrays ≡ Ok rows → AllByRecursion (IsNone extra) (all_of (by_pairs row_pages arrays rows))
    → rows_in file rules (extra ++ taken) arrays ≡ Ok rows

-- and a file with these slots opens so
abbrev pub FilesOpenByTheirSlots : Type 0
FilesOpenByTheirSlots = (file : List ℕ) (slots : Slots) → slots_in file ≡ Ok slots → OpensAs slots.current slots.records file
