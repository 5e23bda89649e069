-- A file that holds what is restored of a database's pieces stands for that database.
use Rattle.std.proofs.Common.{◌≡◌, ℕ, ◌+◌, ◌^◌, ◌<◌, List, [], ◌∷◌, map, length, Result, Ok, refl, sym, ◌∙◌, ap, subst, arith}
use Rattle.std.specs.List.{AllByRecursion, AllZip}
use Rattle.cell_values.specs.declared.datum.Row.{Row}
use Rattle.cell_values.specs.declared.schema.Schema.{Schema}
use Rattle.array_rows.specs.Arrays.{AreRowsOf}
use Rattle.array_geom.specs.Geometry.{ChunkNumber}
use Rattle.array_geom.specs.Link.{is_listed}
use Rattle.array_geom.proofs.NearLemmas.{valid_placed}
use Rattle.logical_plan.specs.Typing.{AreSound}
use Rattle.logical_plan.specs.declared.names.NameEntry.{NameEntry}
use Rattle.plan_changes.specs.Databases.{Database, Version, HoldsArrays as HoldsRows, entry_of, names_of}
use Rattle.plan_changes.specs.Stored.{AreStored, IsDatabase}
use Rattle.chunk_rle.specs.Frames.{frame_of}
use Rattle.chunk_rle.specs.Chunks.{chunk_payload}
use Rattle.page_chain.specs.Opens.{OpensAs}
use Rattle.page_chain.specs.Standing.{root_in}
use Rattle.page_chain.specs.declared.slots.layout.sides.Side.{Side}
use Rattle.page_chain.specs.declared.slots.layout.sides.Format.TheVariants.{Two}
use Rattle.chunk_map.specs.declared.directory.Directory.{Directory}
use Rattle.chunk_map.specs.Entries.{numbers}
use Rattle.version_catalog.specs.declared.rules.catalog.CatalogArray.{CatalogArray}
use Rattle.version_catalog.specs.Catalogs.{IsCatalog, names_in}
use Rattle.file_meaning.specs.Slots.{slots_in}
use Rattle.file_meaning.specs.Opening.{found_in, opened}
use Rattle.file_meaning.specs.Premises.{slots_of}
use Rattle.file_meaning.specs.Standing.{HoldsPart, HoldsVersion, HoldsVersions as StandsAs, HoldsFound, Stands}
use Rattle.file_meaning.specs.declared.meaning.found.Found.{Found}
use Rattle.file_meaning.proofs.Counts.{counts_agree}
use Rattle.file_meaning.proofs.SlotLaws.{slots_are}
use Rattle.file_meaning.proofs.Steps.{then_is}
use Rattle.backup_format.specs.Pieces.{PiecesVersion, rising_numbers, piece_of, version_of, array_of, pieces_of}
use Rattle.backup_format.specs.Laws.{AreArrays}
use Rattle.backup_format.proofs.RisingNumbers.{numbers_listed}
use Rattle.backup_meaning.specs.Meaning.{AreReadAsStored}
use Rattle.backup_meaning.proofs.Fitting.{versions_fit}
use Rattle.backup_restoring.specs.Restores.{payload_pages, version_pages, array_pages}
use Rattle.backup_restoring.specs.Inner.Layout.{laid, entry_at, directory_at, array_at, row_at, catalog_of, rows_of, behind_versions, chain_of, log_of, root_of, HoldsPayloads, HoldsPieces, HoldsVersions, HoldsArrays, HoldsRestored}
use Rattle.backup_restoring.proofs.Claims.{is_held}
use Rattle.backup_restoring.proofs.Rules.{arrays_have_versions, have_directories}
use Rattle.backup_restoring.proofs.Found.{finds_restored}

-- ---- names

same_numbers : (schema : Schema) (vs : List Version) → map (λ (v : PiecesVersion). v.number) (map (version_of schema) vs) ≡ map (λ (v : Version). v.number) vs
same_numbers schema [] = refl
same_numbers schema (v ∷ vs) = ap (λ (ns : List ℕ). v.number ∷ ns) (same_numbers schema vs)

same_entries : (first : ℕ) (db : Database) → map (λ (array : CatalogArray). array.entry) (laid array_pages array_at first (map array_of db)) ≡ map entry_of db
same_entries first [] = refl
same_entries first (a ∷ db) =
    ap (λ (ns : List ℕ). record { name = a.name; schema = a.schema; next = a.next; versions = ns } ∷ map (λ (array : CatalogArray). array.entry) (laid array_pages array_at (first + array_pages (array_of a)) (map array_of db)))
    (same_numbers a.schema a.versions)
    ∙ ap (λ (es : List NameEntry). entry_of a ∷ es) (same_entries (first + array_pages (array_of a)) db)

same_names : (db : Database) → names_in (catalog_of (pieces_of db)) ≡ names_of db
same_names db = ap (λ (es : List NameEntry). record { arrays = es }) (same_entries 3 db)

-- ---- a version

their_numbers : (schema : Schema) (rows : List Row) (first : ℕ) (ks : List ChunkNumber) → numbers (laid payload_pages entry_at first (map (piece_of schema rows) ks)) ≡ ks
their_numbers schema rows first [] = refl
their_numbers schema rows first (k ∷ ks) = ap (λ (js : List ChunkNumber). k ∷ js) (their_numbers schema rows (first + payload_pages (piece_of schema rows k)) ks)

parts_held : (file : List ℕ) (schema : Schema) (rows : List Row) (first : ℕ) (ks : List ChunkNumber) → AreReadAsStored schema rows ks → HoldsPayloads file first (map (piece_of schema rows) ks)
    → AllByRecursion (HoldsPart file schema rows) (laid payload_pages entry_at first (map (piece_of schema rows) ks))
parts_held file schema rows first [] read held = tt
parts_held file schema rows first (k ∷ ks) read held =
    let piece = piece_of schema rows k in
    let h = is_held file first (payload_pages piece) piece.payload (counts_agree (length piece.payload)) held.0 in (
      ap (λ (bytes : List ℕ). chunk_payload (frame_of schema k) (record { items = k }) schema.attributes bytes) h.read ∙ read.0,
      parts_held file schema rows (first + payload_pages piece) ks read.1 held.1,
    )

version_held : (file : List ℕ) (schema : Schema) (first : ℕ) (v : Version) → AreRowsOf schema v.rows → AreSound schema v.rows → HoldsPieces file first (version_of schema v)
    → HoldsVersion file schema (directory_at first (version_of schema v)) v.rows
version_held file schema first v are sound held =
    let ks : List ChunkNumber = rising_numbers schema.dimensions v.rows in
    record {
      listed = λ k long. ap (is_listed k) (their_numbers schema v.rows first ks) ∙ numbers_listed schema.dimensions k (valid_placed schema are.valid).near long v.rows are.are_rows.in_bounds;
      payloads = parts_held file schema v.rows first ks (versions_fit schema v are sound).read held.0;
    }

versions_held : (file : List ℕ) (schema : Schema) (first : ℕ) (vs : List Version) → AllByRecursion (λ v. AreRowsOf schema v.rows × AreSound schema v.rows) vs → HoldsVersions file first (map (version_of schema) vs)
    → AllZip (λ (version : Version) (directory : Directory). HoldsVersion file schema directory version.rows) vs (laid version_pages directory_at first (map (version_of schema) vs))
versions_held file schema first [] rows held = tt
versions_held file schema first (v ∷ vs) rows held =
    (version_held file schema first v rows.0.0 rows.0.1 held.0, versions_held file schema (first + version_pages (version_of schema v)) vs rows.1 held.1)

arrays_held : (file : List ℕ) (first : ℕ) (db : Database) → HoldsRows db → HoldsArrays file first (map array_of db) → AllZip (StandsAs file) db (laid array_pages row_at first (map array_of db))
arrays_held file first [] rows held = tt
arrays_held file first (a ∷ db) rows held =
    (versions_held file a.schema first a.versions rows.0 held.0, arrays_held file (first + array_pages (array_of a)) db rows.1 held.1)

-- ---- the file

is_catalog : (db : Database) → IsDatabase db → log_of (pieces_of db) < 2 ^ 32 → IsCatalog (catalog_of (pieces_of db))
is_catalog db database small = record {
  names = subst AreStored (sym (same_names db)) database.names;
  each = have_directories 3 (behind_versions (pieces_of db)) (pieces_of db) (omega arith) (omega arith) (omega (arith, small));
}

-- THE RESTORED FILE stands for the database
pub stands_restored : (file : List ℕ) (side : Side) (db : Database) → IsDatabase db → AreArrays (pieces_of db) → HoldsRestored file (pieces_of db)
    → OpensAs (root_in Two side (root_of (pieces_of db))) [] file → Stands file db
unfolding opened
stands_restored file side db database are held opens =
    let arrays = pieces_of db in
    let found : Found = record { chain = chain_of arrays; logged = []; catalog = catalog_of arrays; directories = rows_of arrays } in
    let finds : found_in file (slots_of side (root_of arrays)) ≡ Ok found =
    finds_restored file side arrays (arrays_have_versions arrays are) (is_catalog db database held.small) held in
    let is : opened file ≡ Ok found =
    then_is (slots_in file) (λ slots. found_in file slots) (slots_of side (root_of arrays)) (slots_are (root_in Two side (root_of arrays)) [] file opens) ∙ finds in
    record {
      database = database;
      holds = subst (λ (answer : Result Found ℕ). HoldsFound file db answer) (sym is) (record { names = same_names db; versions = arrays_held file 3 db database.rows held.held });
    }
