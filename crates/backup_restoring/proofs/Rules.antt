-- What passes the tests of a backup has directories and a catalogue.
use Rattle.std.proofs.Common.{◌≡◌, ℕ, zero, suc, ◌+◌, ◌*◌, ◌^◌, ◌<◌, ◌≤◌, true, List, [], ◌∷◌, map, length, Option, Some, None, refl, sym, ◌∙◌, ap, subst, arith}
use Rattle.std.specs.Prelude.{sum_by}
use Rattle.std.specs.List.{AllByRecursion}
use Rattle.std.proofs.lemmas.Bool.{ltb-true}
use Rattle.std.proofs.lemmas.List.Sums.{sum_by-cons}
use Rattle.cell_values.specs.declared.schema.Schema.{Schema}
use Rattle.cell_values.specs.Schemas.{IsValid}
use Rattle.array_geom.specs.Geometry.{ChunkNumber, has_core}
use Rattle.array_geom.specs.Link.{NumbersRise}
use Rattle.file_items.specs.Items.{Are}
use Rattle.file_items.specs.Pages.{pages_needed, LieIn}
use Rattle.page_chain.specs.Pages.{page_size, pages_for}
use Rattle.page_chain.proofs.BlobLemmas.{enough}
use Rattle.page_chain.proofs.Kept.{size_is}
use Rattle.chunk_map.specs.Entries.{numbers}
use Rattle.chunk_map.specs.Spelling.{IsEntry, IsDirectory}
use Rattle.version_catalog.specs.Catalogs.{IsBlob, HasDirectories}
use Rattle.file_meaning.proofs.Counts.{counts_agree}
use Rattle.backup_format.specs.Pieces.{Piece, PiecesVersion, PiecesArray}
use Rattle.backup_format.specs.Table.{Placing, next_placing, number_in, last_in, name_in}
use Rattle.backup_format.specs.Laws.{IsPlaced, IsNextPiece, IsNextVersion, IsNextArray, AreArrays}
use Rattle.backup_format.proofs.PieceLaws.{core_of, rising, some_dimensions}
use Rattle.backup_format.proofs.CoreChunks.{core_long}
use Rattle.backup_restoring.specs.Restores.{payload_pages, directory_length, version_pages, array_pages}
use Rattle.backup_restoring.specs.Inner.Layout.{pages_from, laid, entry_at, directory_at, behind_payloads, blob_at, array_at}
use Rattle.backup_restoring.proofs.Laid.{length_from, all_from}

-- ---- pieces

pub record IsPieceOf (schema : Schema) (piece : Piece) : Type 0 where
  pub core : has_core schema.dimensions piece.at ≡ true
  pub long : length piece.at ≡ length schema.dimensions
  pub fit : AllByRecursion (λ k. k < 2 ^ 64) piece.at
  pub some : 1 ≤ length piece.payload
  pub few : length piece.payload < 2 ^ 64

abbrev pub numbers_in : List Piece → List ChunkNumber
numbers_in pieces = map (λ (p : Piece). p.at) pieces

pub record ArePiecesOf (schema : Schema) (version : PiecesVersion) : Type 0 where
  pub dims : 1 ≤ length schema.dimensions
  pub count : length version.pieces < 2 ^ 64
  pub each : AllByRecursion (IsPieceOf schema) version.pieces
  pub rising : NumbersRise (numbers_in version.pieces)

abbrev pub AreVersionsOf : PiecesArray → Type 0
AreVersionsOf array = AllByRecursion (ArePiecesOf array.schema) array.versions

fit_of : (n : ℕ) (placing : Placing) (k : ChunkNumber) → Are IsPlaced next_placing n placing k → AllByRecursion (λ k. k < 2 ^ 64) k
unfolding Are
fit_of zero placing [] good = tt
fit_of zero placing (x ∷ k) good = absurd good
fit_of (suc n) placing [] good = absurd good
fit_of (suc n) placing (x ∷ k) good = (good.0.0, fit_of n (next_placing placing x) k good.1)

piece_of : (schema : Schema) (before : Option ChunkNumber) (after : ℕ) (piece : Piece) → IsNextPiece schema before after piece → IsPieceOf schema piece
piece_of schema before after piece good =
    let core = core_of schema.dimensions before piece.at good.at in
    let some = ltb-true 0 (length piece.payload) good.payload.some in
    record {
      core = core;
      long = core_long schema.dimensions piece.at core;
      fit = fit_of (length schema.dimensions) (record { before = before; dims = schema.dimensions }) piece.at good.at;
      some = omega (arith, some);
      few = good.payload.few;
    }

pieces_of : (schema : Schema) (n : ℕ) (before : Option ChunkNumber) (pieces : List Piece) → Are (IsNextPiece schema) number_in n before pieces → AllByRecursion (IsPieceOf schema) pieces
unfolding Are
pieces_of schema n before [] good = tt
pieces_of schema zero before (p ∷ pieces) good = absurd good
pieces_of schema (suc n) before (p ∷ pieces) good = (piece_of schema before n p good.0, pieces_of schema n (Some p.at) pieces good.1)

version_of : (schema : Schema) (next last after : ℕ) (version : PiecesVersion) → IsValid schema → IsNextVersion schema next last after version → ArePiecesOf schema version
version_of schema next last after version valid good = record {
  dims = some_dimensions schema valid;
  count = good.pieces.below;
  each = pieces_of schema (length version.pieces) None version.pieces good.pieces.each;
  rising = rising schema (length version.pieces) version.pieces (some_dimensions schema valid) good.pieces.each;
}

versions_of : (schema : Schema) (next n last : ℕ) (versions : List PiecesVersion) → IsValid schema → Are (IsNextVersion schema next) last_in n last versions → AllByRecursion (ArePiecesOf schema) versions
unfolding Are
versions_of schema next n last [] valid good = tt
versions_of schema next zero last (v ∷ versions) valid good = absurd good
versions_of schema next (suc n) last (v ∷ versions) valid good = (version_of schema next last n v valid good.0, versions_of schema next n v.number versions valid good.1)

arrays_of : (n : ℕ) (before : Option (List ℕ)) (arrays : List PiecesArray) → Are IsNextArray name_in n before arrays → AllByRecursion AreVersionsOf arrays
unfolding Are
arrays_of n before [] good = tt
arrays_of zero before (a ∷ arrays) good = absurd good
arrays_of (suc n) before (a ∷ arrays) good =
    (versions_of a.schema a.next (length a.versions) 0 a.versions good.0.schema.valid good.0.versions.each, arrays_of n (Some a.name) arrays good.1)

pub arrays_have_versions : (arrays : List PiecesArray) → AreArrays arrays → AllByRecursion AreVersionsOf arrays
arrays_have_versions arrays are = arrays_of (length arrays) None arrays are.each

-- ---- directories

-- so many pages from one on have room for some bytes
lie_from : (first bytes last : ℕ) → 0 < first → 1 ≤ bytes → bytes < 2 ^ 64 → first + pages_needed bytes ≤ last → last ≤ 2 ^ 32 → LieIn bytes (pages_from first (pages_needed bytes))
lie_from first bytes last low some few fits small =
    let long = length_from first (pages_needed bytes) in
    record {
      some = (some, few);
      count = (long, omega (arith, long, fits, small, low));
      each = all_from (λ p. p < 2 ^ 32) first (pages_needed bytes) last fits (λ p low high. omega (arith, high, small));
    }

entries_of : (schema : Schema) (first last : ℕ) (pieces : List Piece) → 0 < first → first + sum_by payload_pages pieces ≤ last → last ≤ 2 ^ 32 → AllByRecursion (IsPieceOf schema) pieces
    → AllByRecursion (IsEntry (length schema.dimensions)) (laid payload_pages entry_at first pieces)
entries_of schema first last [] some fits small all = tt
entries_of schema first last (p ∷ pieces) some fits small all =
    let s = sum_by-cons payload_pages p pieces in (
      record {
        dimensions = all.0.long;
        numbers = all.0.fit;
        birth = (omega arith, omega arith);
        payload = lie_from first (length p.payload) last some all.0.some all.0.few (omega (arith, fits, s)) small;
      },
      entries_of schema (first + payload_pages p) last pieces (omega (arith, some)) (omega (arith, fits, s)) small all.1,
    )

their_numbers : (first : ℕ) (pieces : List Piece) → numbers (laid payload_pages entry_at first pieces) ≡ numbers_in pieces
their_numbers first [] = refl
their_numbers first (p ∷ pieces) = ap (λ (ks : List ChunkNumber). p.at ∷ ks) (their_numbers (first + payload_pages p) pieces)

pub length-laid : {A B : Type 0} (size : A → ℕ) (place : ℕ → A → B) (first : ℕ) (xs : List A) → length (laid size place first xs) ≡ length xs
length-laid size place first [] = refl
length-laid size place first (x ∷ xs) = ap suc (length-laid size place (first + size x) xs)

pub is_directory : (schema : Schema) (first last : ℕ) (version : PiecesVersion) → 0 < first → first + version_pages version ≤ last → last ≤ 2 ^ 32 → ArePiecesOf schema version
    → IsDirectory (length schema.dimensions) (directory_at first version)
is_directory schema first last version some fits small are =
    let long = length-laid payload_pages entry_at first version.pieces in
    record {
      count = omega (arith, long, are.count);
      each = entries_of schema first last version.pieces some (omega (arith, fits)) small are.each;
      rising = subst NumbersRise (sym (their_numbers first version.pieces)) are.rising;
    }

-- ---- catalogues

-- bytes in so few pages are few
few_bytes : (bytes : ℕ) → pages_needed bytes ≤ 2 ^ 32 → bytes < 2 ^ 64
few_bytes bytes few =
    let room : bytes ≤ page_size * pages_for page_size bytes = enough page_size bytes (omega (arith, size_is)) in
    let same = counts_agree bytes in
    let few' : pages_for page_size bytes ≤ 2 ^ 32 = omega (arith, same, few) in
    let most : page_size * pages_for page_size bytes ≤ page_size * 2 ^ 32 = times page_size (pages_for page_size bytes) (2 ^ 32) few' in
    let top : page_size * 2 ^ 32 ≡ 2 ^ 44 = ap (λ (n : ℕ). n * 2 ^ 32) size_is in
    omega (arith, room, most, top)
  where
    times : (a b c : ℕ) → b ≤ c → a * b ≤ a * c
    times a b c le = grind arith

is_blob : (first last : ℕ) (version : PiecesVersion) → 0 < first → first + version_pages version ≤ last → last ≤ 2 ^ 32 → IsBlob (blob_at first version)
is_blob first last version low fits small =
    lie_from (behind_payloads first version) (directory_length version) last (omega (arith, low)) (omega arith) (few_bytes (directory_length version) (omega (arith, fits, small))) (omega (arith, fits)) small

blobs_of : (first last : ℕ) (versions : List PiecesVersion) → 0 < first → first + sum_by version_pages versions ≤ last → last ≤ 2 ^ 32 → AllByRecursion IsBlob (laid version_pages blob_at first versions)
blobs_of first last [] low fits small = tt
blobs_of first last (v ∷ versions) low fits small =
    let s = sum_by-cons version_pages v versions in
    (is_blob first last v low (omega (arith, fits, s)) small, blobs_of (first + version_pages v) last versions (omega (arith, low)) (omega (arith, fits, s)) small)

length-map : {A B : Type 0} (f : A → B) (xs : List A) → length (map f xs) ≡ length xs
length-map f [] = refl
length-map f (x ∷ xs) = ap suc (length-map f xs)

pub have_directories : (first last : ℕ) (arrays : List PiecesArray) → 0 < first → first + sum_by array_pages arrays ≤ last → last ≤ 2 ^ 32 → AllByRecursion HasDirectories (laid array_pages array_at first arrays)
have_directories first last [] low fits small = tt
have_directories first last (a ∷ arrays) low fits small =
    let s = sum_by-cons array_pages a arrays in (
      record {
        one_each = length-laid version_pages blob_at first a.versions ∙ sym (length-map (λ (v : PiecesVersion). v.number) a.versions);
        blobs = blobs_of first last a.versions low (omega (arith, fits, s)) small;
      },
      have_directories (first + array_pages a) last arrays (omega (arith, low)) (omega (arith, fits, s)) small,
    )
