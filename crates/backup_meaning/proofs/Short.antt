-- What a backup's length says of the counts and lengths in it.
use Rattle.std.proofs.Common.{◌≡◌, ◌∙◌, ◌<◌, ◌≤◌, ◌^◌, ℕ, ◌+◌, List, [], ◌∷◌, ◌++◌, length, ap, length-append, arith}
use Rattle.std.specs.List.{AllByRecursion, flat_map}
use Rattle.std.specs.Int.{w64, to_le_bytes}
use Rattle.std.proofs.lemmas.List.Concat.{flat_map-cons}
use Rattle.sha2.specs.Sha256.{sha256}
use Rattle.backup_format.specs.Pieces.{Piece, PiecesVersion, PiecesArray, pieces_of}
use Rattle.backup_format.specs.Spelling.{before_payload, before_pieces, before_versions, before_arrays, spell_piece, spell_version, spell_array, spell_arrays}
use Rattle.backup_format.specs.Backups.{backup, IsCountedVersion, IsCountedArray}
use Rattle.backup_format.proofs.Parts.{pieces_have_parts, versions_have_parts, arrays_have_parts, backups_have_parts}
use Rattle.backup_meaning.specs.Meaning.{ShortBackupsAreCounted}

-- what holds of each short text holds of all in a short one
all_short : {A : Type 0} (spell : A → List ℕ) (P : A → Type 0) (bound : ℕ) → ((x : A) → length (spell x) < bound → P x) → (xs : List A) → length (flat_map spell xs) < bound → AllByRecursion P xs
all_short spell P bound step [] lt = tt
all_short spell P bound step (x ∷ xs) lt =
    let long = ap length (flat_map-cons spell x xs) ∙ length-append (spell x) (flat_map spell xs) in
    (step x (omega (arith, lt, long)), all_short spell P bound step xs (omega (arith, lt, long)))

-- a part is no longer than the whole
shorter : (whole before part : List ℕ) (bound : ℕ) → whole ≡ before ++ part → length whole < bound → length part < bound
shorter whole before part bound is lt = let long = ap length is ∙ length-append before part in omega (arith, lt, long)

piece_long : (p : Piece) → 1 ≤ length (spell_piece p)
piece_long p =
    let size = to_le_bytes w64 (length p.payload) in
    let at = flat_map (to_le_bytes w64) p.at in
    let long = ap length (pieces_have_parts p) ∙ length-append (before_payload p.at (length p.payload)) p.payload in
    let head = length-append at size in
    some_size (length (spell_piece p)) (length (before_payload p.at (length p.payload))) (length p.payload) (length at) (length p.payload) long head
  where
    some_size : (whole before part front n : ℕ) → whole ≡ before + part → before ≡ front + length (to_le_bytes w64 n) → 1 ≤ whole
    some_size whole before part front n a b = omega (arith, a, b)

count_short : (ps : List Piece) → length ps ≤ length (flat_map spell_piece ps)
count_short [] = omega arith
count_short (p ∷ ps) =
    let long = ap length (flat_map-cons spell_piece p ps) ∙ length-append (spell_piece p) (flat_map spell_piece ps) in
    let later = count_short ps in
    let one = piece_long p in
    omega (arith, long, later, one)

short_version : (v : PiecesVersion) → length (spell_version v) < 2 ^ 64 → IsCountedVersion v
short_version v lt =
    let pieces = shorter (spell_version v) (before_pieces v.number (length v.pieces)) (flat_map spell_piece v.pieces) (2 ^ 64) (versions_have_parts v) lt in
    let few = count_short v.pieces in
    (omega (arith, pieces, few), all_short spell_piece (λ (p : Piece). length p.payload < 2 ^ 64) (2 ^ 64) (λ p short. shorter (spell_piece p) (before_payload p.at (length p.payload)) p.payload (2 ^ 64) (pieces_have_parts p) short) v.pieces pieces)

short_array : (a : PiecesArray) → length (spell_array a) < 2 ^ 64 → IsCountedArray a
short_array a lt =
    all_short spell_version IsCountedVersion (2 ^ 64) short_version a.versions
    (shorter (spell_array a) (before_versions a.name a.schema a.next (length a.versions)) (flat_map spell_version a.versions) (2 ^ 64) (arrays_have_parts a) lt)

pub short_backups_are_counted : ShortBackupsAreCounted
unfolding backup
short_backups_are_counted db lt =
    let arrays = pieces_of db in
    let long = length-append (spell_arrays arrays) (sha256 (spell_arrays arrays)) in
    let text : length (spell_arrays arrays) < 2 ^ 64 = omega (arith, lt, long) in
    all_short spell_array IsCountedArray (2 ^ 64) short_array arrays
    (shorter (spell_arrays arrays) (before_arrays (length arrays)) (flat_map spell_array arrays) (2 ^ 64) (backups_have_parts arrays) text)
