-- The loop over the versions, and what is answered.
use Rattle.std.proofs.Common.{◌≡◌, ℕ, ◌+◌, ◌-◌, ◌<◌, List, [], ◌∷◌, ◌++◌, length, map, Result, Ok, Err, refl, sym, ap, subst, ◌∙◌}
use Rattle.cell_values.specs.declared.schema.Schema.{Schema}
use Rattle.cell_values.specs.Schemas.{IsValid}
use Rattle.file_items.specs.Items.{repeat, Stopped, wrong_at}
use Rattle.file_items.specs.declared.bytes.stop.Stop.{Stop}
use Rattle.file_items.specs.declared.bytes.stop.Stop.TheVariants as stops
use Rattle.file_items.specs.Table.{schema_at}
use Rattle.file_items.proofs.BytesLaws.{AreBytes}
use Rattle.file_items.proofs.Loop.{behind, one_more}
use Rattle.file_items.proofs.Rules.{is_spelled}
use Rattle.file_items.proofs.SchemasLaws.{passed_reads}
use Rattle.backup_format.specs.Pieces.{PiecesVersion, PiecesArray}
use Rattle.backup_format.specs.Spelling.{spell_arrays, signed}
use Rattle.backup_format.specs.Laws.{AreArrays}
use Rattle.backup_format.specs.Table.{version_at, next_version, last_in, backup_in}
use Rattle.backup_format.proofs.ItemLaws.{spelled_is_read}
use Rattle.backup_format.specs.declared.backup.BadBackup.{BadBackup}
use Rattle.backup_format.specs.declared.versions.VersionPiecesAt.{VersionPiecesAt}
use Rattle.backup_format.specs.declared.arrays.ArrayAt.{ArrayAt}
use Rattle.backup_format.specs.Decoding.{Answers, IsBadBackup}
use Rattle.backup_format.specs.PiecePlaces.{version_in, arrays_in}
use Rattle.backup_format.proofs.Ends.{map_push}

pub version_more : (schema : Schema) (next last : ℕ) (whole : List ℕ) (versions new : List VersionPiecesAt) (version : VersionPiecesAt) (count i : ℕ) (bytes rest : List ℕ) (all : Result (List PiecesVersion × List ℕ) ℕ)
    → new ≡ versions ++ version ∷ [] → i < count → version_at schema next last bytes ≡ Ok (version_in whole version, rest)
    → behind (map (version_in whole) versions) (repeat (next_version schema next) last_in (count - i) last bytes) ≡ all
    → behind (map (version_in whole) new) (repeat (next_version schema next) last_in (count - (i + 1)) version.number rest) ≡ all
version_more schema next last whole versions new version count i bytes rest all pushed lt read before =
    let more = one_more (next_version schema next) last_in last (map (version_in whole) versions) count i (count - (i + 1)) bytes (version_in whole version) rest all lt refl read before in
    subst (λ (vs : List PiecesVersion). behind vs (repeat (next_version schema next) last_in (count - (i + 1)) version.number rest) ≡ all)
    (sym (map_push (version_in whole) versions version) ∙ ap (map (version_in whole)) (sym pushed)) more

pub valid_read : (bytes : List ℕ) (schema : Schema) (rest : List ℕ) → AreBytes bytes → schema_at bytes ≡ Ok (schema, rest) → IsValid schema
valid_read bytes schema rest small read = (is_spelled schema (passed_reads.takes bytes schema rest small read).1).valid

pub bad_is : (bad : BadBackup) (bytes : List ℕ) (stop : Stop) (reading : Result (List PiecesArray) ℕ) → IsBadBackup bad bytes stop → Stopped stop reading → Answers (λ (x : List ArrayAt). arrays_in bytes x) (Err bad) bytes reading
bad_is bad bytes stops.Memory reading told fails = subst (λ (b : BadBackup). Answers (λ (x : List ArrayAt). arrays_in bytes x) (Err b) bytes reading) (sym told) tt
bad_is bad bytes (stops.Left left) reading told fails = subst (λ (b : BadBackup). Answers (λ (x : List ArrayAt). arrays_in bytes x) (Err b) bytes reading) (sym told) (ap (wrong_at (length bytes)) fails)

read_again : (bytes : List ℕ) (all : List PiecesArray) → AreArrays all → bytes ≡ signed (spell_arrays all) → backup_in bytes ≡ Ok all
read_again bytes all good e = ap backup_in e ∙ spelled_is_read all good

pub only_found : (bytes : List ℕ) (found : List ArrayAt) (all : List PiecesArray) → AreArrays all → bytes ≡ signed (spell_arrays all) → backup_in bytes ≡ Ok (arrays_in bytes found) → Answers (λ (x : List ArrayAt). arrays_in bytes x) (Ok found) bytes (Ok all)
only_found bytes found all good e f = sym (read_again bytes all good e) ∙ f

pub only_stopped : (bytes : List ℕ) (bad : BadBackup) (stop : Stop) (all : List PiecesArray) → AreArrays all → bytes ≡ signed (spell_arrays all) → IsBadBackup bad bytes stop → Stopped stop (backup_in bytes) → Answers (λ (x : List ArrayAt). arrays_in bytes x) (Err bad) bytes (Ok all)
only_stopped bytes bad stop all good e told stopped = bad_is bad bytes stop (Ok all) told (subst (Stopped stop) (read_again bytes all good e) stopped)
