-- How many bytes the directories and the catalogue of a restored database have.
use Rattle.std.proofs.Common.{◌≡◌, ℕ, ◌+◌, ◌*◌, List, [], ◌∷◌, ◌++◌, map, length, refl, arith}
use Rattle.std.specs.Prelude.{sum_by}
use Rattle.std.specs.List.{flat_map}
use Rattle.std.specs.Int.{w32, w64, to_le_bytes}
use Rattle.std.proofs.lemmas.List.{length-append}
use Rattle.std.proofs.lemmas.List.Sums.{sum_by-cons}
use Rattle.file_items.specs.Spelling.{spell_name, spell_schema}
use Rattle.chunk_map.specs.Spelling.{spell_entry, spelling as directory_spelling}
use Rattle.version_catalog.specs.Spelling.{versions_at, spell_blob, spell_version, spell_array, spelling as catalog_spelling}
use Rattle.backup_format.specs.Pieces.{Piece, PiecesVersion, PiecesArray}
use Rattle.backup_restoring.specs.Restores.{payload_pages, entry_length, directory_length, directory_pages, version_length, version_pages, array_length, array_pages, catalogue_length}
use Rattle.backup_restoring.specs.Inner.Layout.{pages_from, laid, entry_at, directory_at, behind_payloads, blob_at, array_at, catalog_of}
use Rattle.backup_restoring.proofs.Laid.{length_from}

four : (n : ℕ) → length (to_le_bytes w32 n) ≡ 4
four n = refl

eight : (n : ℕ) → length (to_le_bytes w64 n) ≡ 8
eight n = refl

-- numbers of four bytes, and of eight
fours : (ns : List ℕ) → length (flat_map (to_le_bytes w32) ns) ≡ 4 * length ns
fours [] = refl
fours (n ∷ ns) = let a = length-append (to_le_bytes w32 n) (flat_map (to_le_bytes w32) ns) in let b = four n in omega (arith, a, b, fours ns)

eights : (ns : List ℕ) → length (flat_map (to_le_bytes w64) ns) ≡ 8 * length ns
eights [] = refl
eights (n ∷ ns) = let a = length-append (to_le_bytes w64 n) (flat_map (to_le_bytes w64) ns) in let b = eight n in omega (arith, a, b, eights ns)

-- pages with their count before them
pages_long : (first n : ℕ) → length (to_le_bytes w32 (length (pages_from first n)) ++ flat_map (to_le_bytes w32) (pages_from first n)) ≡ 4 + 4 * n
pages_long first n =
    let ps = pages_from first n in
    let a = length-append (to_le_bytes w32 (length ps)) (flat_map (to_le_bytes w32) ps) in
    let b = four (length ps) in
    let c = fours ps in
    let d = length_from first n in
    omega (arith, a, b, c, d)

-- ---- directories

entry_long : (first : ℕ) (piece : Piece) → length (spell_entry (entry_at first piece)) ≡ entry_length piece
unfolding spell_entry
entry_long first piece =
    let ps = pages_from first (payload_pages piece) in
    let pages = to_le_bytes w32 (length ps) ++ flat_map (to_le_bytes w32) ps in
    let birth = to_le_bytes w64 2 ++ pages in
    let size = to_le_bytes w64 (length piece.payload) ++ birth in
    let a = length-append (flat_map (to_le_bytes w64) piece.at) size in
    let b = length-append (to_le_bytes w64 (length piece.payload)) birth in
    let c = length-append (to_le_bytes w64 2) pages in
    let d = eights piece.at in
    let e = eight (length piece.payload) in
    let f = eight 2 in
    let g = pages_long first (payload_pages piece) in
    omega (arith, a, b, c, d, e, f, g)

entries_long : (first : ℕ) (pieces : List Piece) → length (flat_map spell_entry (laid payload_pages entry_at first pieces)) ≡ sum_by entry_length pieces
entries_long first [] = refl
entries_long first (piece ∷ pieces) =
    let a = length-append (spell_entry (entry_at first piece)) (flat_map spell_entry (laid payload_pages entry_at (first + payload_pages piece) pieces)) in
    let b = sum_by-cons entry_length piece pieces in
    omega (arith, a, b, entry_long first piece, entries_long (first + payload_pages piece) pieces)

pub directory_long : (first : ℕ) (version : PiecesVersion) → length (directory_spelling (directory_at first version)) ≡ directory_length version
unfolding directory_spelling
directory_long first version =
    let entries = laid payload_pages entry_at first version.pieces in
    let a = length-append (to_le_bytes w64 (length entries)) (flat_map spell_entry entries) in
    let b = eight (length entries) in
    omega (arith, a, b, entries_long first version.pieces)

-- ---- catalogues

version_long : (first number : ℕ) (version : PiecesVersion) → length (spell_version (record { number = number; directory = blob_at first version })) ≡ version_length version
unfolding spell_version spell_blob
version_long first number version =
    let from = behind_payloads first version in
    let count = directory_pages version in
    let ps = pages_from from count in
    let pages = to_le_bytes w32 (length ps) ++ flat_map (to_le_bytes w32) ps in
    let a = length-append (to_le_bytes w32 number) (to_le_bytes w64 (directory_length version) ++ pages) in
    let b = length-append (to_le_bytes w64 (directory_length version)) pages in
    let c = four number in
    let d = eight (directory_length version) in
    let e = pages_long from count in
    omega (arith, a, b, c, d, e)

abbrev numbers_of : List PiecesVersion → List ℕ
numbers_of versions = map (λ (v : PiecesVersion). v.number) versions

versions_long : (first : ℕ) (versions : List PiecesVersion)
    → length (flat_map spell_version (versions_at (numbers_of versions) (laid version_pages blob_at first versions))) ≡ sum_by version_length versions
versions_long first [] = refl
versions_long first (v ∷ versions) =
    let rest = flat_map spell_version (versions_at (numbers_of versions) (laid version_pages blob_at (first + version_pages v) versions)) in
    let a = length-append (spell_version (record { number = v.number; directory = blob_at first v })) rest in
    let b = sum_by-cons version_length v versions in
    omega (arith, a, b, version_long first v.number v, versions_long (first + version_pages v) versions)

array_long : (first : ℕ) (array : PiecesArray) → length (spell_array (array_at first array)) ≡ array_length array
unfolding spell_array
array_long first array =
    let at = versions_at (numbers_of array.versions) (laid version_pages blob_at first array.versions) in
    let versions = flat_map spell_version at in
    let counted = to_le_bytes w32 (length at) ++ versions in
    let numbered = to_le_bytes w32 array.next ++ counted in
    let a = length-append (spell_name array.name) (spell_schema array.schema ++ numbered) in
    let b = length-append (spell_schema array.schema) numbered in
    let c = length-append (to_le_bytes w32 array.next) counted in
    let d = length-append (to_le_bytes w32 (length at)) versions in
    let e = four array.next in
    let f = four (length at) in
    omega (arith, a, b, c, d, e, f, versions_long first array.versions)

arrays_long : (first : ℕ) (arrays : List PiecesArray) → length (flat_map spell_array (laid array_pages array_at first arrays)) ≡ sum_by array_length arrays
arrays_long first [] = refl
arrays_long first (array ∷ arrays) =
    let a = length-append (spell_array (array_at first array)) (flat_map spell_array (laid array_pages array_at (first + array_pages array) arrays)) in
    let b = sum_by-cons array_length array arrays in
    omega (arith, a, b, array_long first array, arrays_long (first + array_pages array) arrays)

pub catalogue_long : (arrays : List PiecesArray) → length (catalog_spelling (catalog_of arrays)) ≡ catalogue_length arrays
unfolding catalog_spelling
catalogue_long arrays =
    let at = laid array_pages array_at 3 arrays in
    let a = length-append (to_le_bytes w32 (length at)) (flat_map spell_array at) in
    let b = four (length at) in
    omega (arith, a, b, arrays_long 3 arrays)
