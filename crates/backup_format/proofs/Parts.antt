-- What stands before the parts of a backup, and the parts.
use Rattle.std.proofs.Common.{◌≡◌, ℕ, List, ◌++◌, length, sym, ap, ◌∙◌, append_assoc}
use Rattle.std.specs.Int.{w32, w64, to_le_bytes}
use Rattle.std.specs.List.{flat_map}
use Rattle.file_items.specs.Spelling.{spell_name, spell_schema}
use Rattle.backup_format.specs.Spelling.{text, spell_piece, spell_version, spell_array, spell_arrays}
use Rattle.backup_format.specs.Laws.{PiecesHaveParts, VersionsHaveParts, ArraysHaveParts, BackupsHaveParts}

pub pieces_have_parts : PiecesHaveParts
unfolding spell_piece
pieces_have_parts piece = sym (append_assoc (flat_map (to_le_bytes w64) piece.at) (to_le_bytes w64 (length piece.payload)) piece.payload)

pub versions_have_parts : VersionsHaveParts
unfolding spell_version
versions_have_parts version = sym (append_assoc (to_le_bytes w32 version.number) (to_le_bytes w64 (length version.pieces)) (flat_map spell_piece version.pieces))

four_parts : (a b c d e : List ℕ) → a ++ (b ++ (c ++ (d ++ e))) ≡ (a ++ (b ++ (c ++ d))) ++ e
four_parts a b c d e =
    sym (append_assoc a (b ++ (c ++ d)) e ∙ ap (λ (t : List ℕ). a ++ t) (append_assoc b (c ++ d) e ∙ ap (λ (t : List ℕ). b ++ t) (append_assoc c d e)))

pub arrays_have_parts : ArraysHaveParts
unfolding spell_array
arrays_have_parts array =
    four_parts (spell_name array.name) (spell_schema array.schema) (to_le_bytes w32 array.next) (to_le_bytes w32 (length array.versions)) (flat_map spell_version array.versions)

pub backups_have_parts : BackupsHaveParts
unfolding spell_arrays
backups_have_parts arrays = sym (append_assoc text (to_le_bytes w32 (length arrays)) (flat_map spell_array arrays))
