-- What is read as pieces is the backup of a database.
use Rattle.std.proofs.Common.{◌≡◌, ◌∙◌, ◌<◌, ◌^◌, ℕ, zero, suc, true, nat_lt, nat_le, List, [], ◌∷◌, map, length, Option, Some, None, refl, sym, ap, subst, arith}
use Rattle.std.specs.List.{AllByRecursion, list_all}
use Rattle.std.specs.Str.{bytes_eq}
use Rattle.std.proofs.lemmas.Bool.{and_parts, ltb-true, leb-true}
use Rattle.std.proofs.lemmas.Slice.Eq.{bytes_eq-Decides}
use Rattle.cell_values.specs.declared.datum.Row.{Row}
use Rattle.cell_values.specs.declared.schema.Schema.{Schema}
use Rattle.cell_values.specs.Schemas.{IsValid}
use Rattle.array_rows.specs.Arrays.{AreRowsOf}
use Rattle.array_geom.specs.Geometry.{ChunkNumber}
use Rattle.logical_plan.specs.Typing.{AreSound}
use Rattle.plan_changes.specs.Databases.{Version, Stored, Database, HoldsArrays, entry_of}
use Rattle.plan_changes.specs.Stored.{NamesRise, RiseBetween, IsStored as IsStoredEntry, IsDatabase}
use Rattle.file_items.specs.Items.{Are}
use Rattle.version_catalog.specs.Table.{is_next_name}
use Rattle.backup_format.specs.Pieces.{Piece, PiecesVersion, PiecesArray, stored_payload, piece_of, version_of, array_of, pieces_of}
use Rattle.backup_format.specs.Spelling.{spell_arrays, signed}
use Rattle.backup_format.specs.Table.{is_its_payload, number_in, last_in, name_in, rows_of}
use Rattle.backup_format.specs.Backups.{backup, IsCountedVersion, IsCountedArray, ReadsAreBackups}
use Rattle.backup_format.specs.Laws.{IsNextPiece, IsNextVersion, IsNextArray, AreArrays}
use Rattle.backup_format.proofs.ItemLaws.{read_is_spelled}
use Rattle.backup_format.proofs.PieceLaws.{some_dimensions, core_of as placed_core, rising, chunks_stored, chunk_numbers}
use Rattle.backup_format.proofs.RisingNumbers.{AreSized}
use Rattle.backup_meaning.proofs.PieceRows.{AreOfRows, are_of_rows, own_numbers}
use Rattle.backup_format.proofs.CoreChunks.{core_long}

-- ---- pieces

numbers_sized : (schema : Schema) (n : ℕ) (before : Option ChunkNumber) (pieces : List Piece) → Are (IsNextPiece schema) number_in n before pieces → AreSized (length schema.dimensions) (own_numbers pieces)
unfolding Are
numbers_sized schema n before [] good = tt
numbers_sized schema zero before (p ∷ pieces) good = absurd good
numbers_sized schema (suc n) before (p ∷ pieces) good = (core_long schema.dimensions p.at (placed_core schema.dimensions before p.at good.0.at), numbers_sized schema n (Some p.at) pieces good.1)

all_few : (schema : Schema) (n : ℕ) (before : Option ChunkNumber) (pieces : List Piece) → Are (IsNextPiece schema) number_in n before pieces → AllByRecursion (λ (p : Piece). length p.payload < 2 ^ 64) pieces
unfolding Are
all_few schema n before [] good = tt
all_few schema zero before (p ∷ pieces) good = absurd good
all_few schema (suc n) before (p ∷ pieces) good = (good.0.payload.few, all_few schema n (Some p.at) pieces good.1)

same_pieces : (schema : Schema) (rows : List Row) (pieces : List Piece) → list_all (is_its_payload schema rows) pieces ≡ true → pieces ≡ map (piece_of schema rows) (own_numbers pieces)
same_pieces schema rows [] fit = refl
same_pieces schema rows (p ∷ pieces) fit =
    let both = and_parts (bytes_eq p.payload (stored_payload schema rows p.at)) (list_all (is_its_payload schema rows) pieces) fit in
    let first : p.payload ≡ stored_payload schema rows p.at = (bytes_eq-Decides p.payload (stored_payload schema rows p.at)).0 both.0 in
    ap (λ (payload : List ℕ). record { at = p.at; payload = payload } ∷ pieces) first ∙ ap (λ (ps : List Piece). piece_of schema rows p.at ∷ ps) (same_pieces schema rows pieces both.1)

-- ---- versions

abbrev pub version_back : Schema → PiecesVersion → Version
version_back schema v = record { number = v.number; rows = rows_of schema v.pieces }

record IsBack (schema : Schema) (v : PiecesVersion) : Type 0 where
  are : AreRowsOf schema (rows_of schema v.pieces)
  sound : AreSound schema (rows_of schema v.pieces)
  again : version_of schema (version_back schema v) ≡ v
  counted : IsCountedVersion v

is_back : (schema : Schema) (next last after : ℕ) (v : PiecesVersion) → IsValid schema → IsNextVersion schema next last after v → IsBack schema v
is_back schema next last after v valid good =
    let pieces = v.pieces in
    let ks : List ChunkNumber = own_numbers pieces in
    let rows : List Row = rows_of schema pieces in
    let each = good.pieces.each in
    let its : AreOfRows schema ks rows =
    are_of_rows schema pieces ks valid (chunks_stored schema (length pieces) None pieces valid each) (chunk_numbers schema (length pieces) None pieces valid each)
    (rising schema (length pieces) pieces (some_dimensions schema valid) each) (numbers_sized schema (length pieces) None pieces each) in
    record {
      are = its.are;
      sound = its.sound;
      again = ap (λ (ps : List Piece). record { number = v.number; pieces = ps }) (sym (same_pieces schema rows pieces good.fit ∙ ap (map (piece_of schema rows)) its.only));
      counted = (good.pieces.below, all_few schema (length pieces) None pieces each);
    }

all_back : (schema : Schema) (next n last : ℕ) (vs : List PiecesVersion) → IsValid schema → Are (IsNextVersion schema next) last_in n last vs → AllByRecursion (IsBack schema) vs
unfolding Are
all_back schema next n last [] valid good = tt
all_back schema next zero last (v ∷ vs) valid good = absurd good
all_back schema next (suc n) last (v ∷ vs) valid good = (is_back schema next last n v valid good.0, all_back schema next n v.number vs valid good.1)

numbers_back : (schema : Schema) (next n last : ℕ) (vs : List PiecesVersion) → Are (IsNextVersion schema next) last_in n last vs → RiseBetween last next (map (λ v. v.number) (map (version_back schema) vs))
unfolding Are
numbers_back schema next n last [] good = tt
numbers_back schema next zero last (v ∷ vs) good = absurd good
numbers_back schema next (suc n) last (v ∷ vs) good =
    let both = and_parts (nat_lt last v.number) (nat_lt v.number next) good.0.number in
    (ltb-true last v.number both.0, ltb-true v.number next both.1, numbers_back schema next n v.number vs good.1)

versions_again : (schema : Schema) (vs : List PiecesVersion) → AllByRecursion (IsBack schema) vs → map (version_of schema) (map (version_back schema) vs) ≡ vs
versions_again schema [] all = refl
versions_again schema (v ∷ vs) all = ap (λ (w : PiecesVersion). w ∷ map (version_of schema) (map (version_back schema) vs)) all.0.again ∙ ap (λ (ws : List PiecesVersion). v ∷ ws) (versions_again schema vs all.1)

versions_hold : (schema : Schema) (vs : List PiecesVersion) → AllByRecursion (IsBack schema) vs → AllByRecursion (λ v. AreRowsOf schema v.rows × AreSound schema v.rows) (map (version_back schema) vs)
versions_hold schema [] all = tt
versions_hold schema (v ∷ vs) all = ((all.0.are, all.0.sound), versions_hold schema vs all.1)

versions_counted : (schema : Schema) (vs : List PiecesVersion) → AllByRecursion (IsBack schema) vs → AllByRecursion IsCountedVersion vs
versions_counted schema [] all = tt
versions_counted schema (v ∷ vs) all = (all.0.counted, versions_counted schema vs all.1)

-- ---- arrays

abbrev pub array_back : PiecesArray → Stored
array_back a = record { name = a.name; schema = a.schema; next = a.next; versions = map (version_back a.schema) a.versions }

record IsBackArray (a : PiecesArray) : Type 0 where
  stored : IsStoredEntry (entry_of (array_back a))
  hold : AllByRecursion (λ v. AreRowsOf a.schema v.rows × AreSound a.schema v.rows) (map (version_back a.schema) a.versions)
  again : array_of (array_back a) ≡ a
  counted : IsCountedArray a

is_back_array : (before : Option (List ℕ)) (after : ℕ) (a : PiecesArray) → IsNextArray before after a → IsBackArray a
is_back_array before after a good =
    let vs = a.versions in
    let back = all_back a.schema a.next (length vs) 0 vs good.schema.valid good.versions.each in
    let next = and_parts (nat_le 1 a.next) (nat_le a.next 65536) good.next in
    record {
      stored = record {
        name = good.name;
        schema = good.schema.valid;
        named = record { attributes = good.schema.attributes; dimensions = good.schema.dimensions };
        next = (leb-true 1 a.next next.0, leb-true a.next 65536 next.1);
        versions = numbers_back a.schema a.next (length vs) 0 vs good.versions.each;
      };
      hold = versions_hold a.schema vs back;
      again = ap (λ (ws : List PiecesVersion). record { name = a.name; schema = a.schema; next = a.next; versions = ws }) (versions_again a.schema vs back);
      counted = versions_counted a.schema vs back;
    }

all_back_arrays : (n : ℕ) (before : Option (List ℕ)) (arrays : List PiecesArray) → Are IsNextArray name_in n before arrays → AllByRecursion IsBackArray arrays
unfolding Are
all_back_arrays n before [] good = tt
all_back_arrays zero before (a ∷ arrays) good = absurd good
all_back_arrays (suc n) before (a ∷ arrays) good = (is_back_array before n a good.0, all_back_arrays n (Some a.name) arrays good.1)

abbrev pub database_back : List PiecesArray → Database
database_back arrays = map array_back arrays

-- the names behind the one before
abbrev RiseAfter : Option (List ℕ) → List (List ℕ) → Type 0
RiseAfter None names = NamesRise names
RiseAfter (Some last) names = NamesRise (last ∷ names)

rise_first : (before : Option (List ℕ)) (name : List ℕ) (names : List (List ℕ)) → is_next_name before name ≡ true → NamesRise (name ∷ names) → RiseAfter before (name ∷ names)
rise_first None name names next rise = rise
rise_first (Some last) name names next rise = (next, rise)

rise_none : (before : Option (List ℕ)) → RiseAfter before []
rise_none None = tt
rise_none (Some last) = tt

abbrev names_in : Database → List (List ℕ)
names_in db = map (λ entry. entry.name) (map entry_of db)

names_rise : (n : ℕ) (before : Option (List ℕ)) (arrays : List PiecesArray) → Are IsNextArray name_in n before arrays → RiseAfter before (names_in (database_back arrays))
unfolding Are
names_rise n before [] good = rise_none before
names_rise zero before (a ∷ arrays) good = absurd good
names_rise (suc n) before (a ∷ arrays) good = rise_first before a.name (names_in (database_back arrays)) good.0.behind (names_rise n (Some a.name) arrays good.1)

arrays_again : (arrays : List PiecesArray) → AllByRecursion IsBackArray arrays → pieces_of (database_back arrays) ≡ arrays
arrays_again [] all = refl
arrays_again (a ∷ arrays) all = ap (λ (b : PiecesArray). b ∷ pieces_of (database_back arrays)) all.0.again ∙ ap (λ (bs : List PiecesArray). a ∷ bs) (arrays_again arrays all.1)

entries_stored : (arrays : List PiecesArray) → AllByRecursion IsBackArray arrays → AllByRecursion IsStoredEntry (map entry_of (database_back arrays))
entries_stored [] all = tt
entries_stored (a ∷ arrays) all = (all.0.stored, entries_stored arrays all.1)

arrays_hold : (arrays : List PiecesArray) → AllByRecursion IsBackArray arrays → HoldsArrays (database_back arrays)
arrays_hold [] all = tt
arrays_hold (a ∷ arrays) all = (all.0.hold, arrays_hold arrays all.1)

arrays_counted : (arrays : List PiecesArray) → AllByRecursion IsBackArray arrays → AllByRecursion IsCountedArray arrays
arrays_counted [] all = tt
arrays_counted (a ∷ arrays) all = (all.0.counted, arrays_counted arrays all.1)

same_count : (arrays : List PiecesArray) → length (map entry_of (database_back arrays)) ≡ length arrays
same_count [] = refl
same_count (a ∷ arrays) = ap suc (same_count arrays)

is_database : (arrays : List PiecesArray) → AreArrays arrays → AllByRecursion IsBackArray arrays → IsDatabase (database_back arrays)
is_database arrays are back =
    let count = leb-true (length arrays) 1024 are.count in
    let long = same_count arrays in
    record {
      names = record { count = omega (arith, count, long); rising = names_rise (length arrays) None arrays are.each; each = entries_stored arrays back };
      rows = arrays_hold arrays back;
    }

pub reads_are_backups : ReadsAreBackups
unfolding backup
reads_are_backups bytes arrays small read =
    let both = read_is_spelled bytes arrays small read in
    let back = all_back_arrays (length arrays) None arrays both.0.each in
    let again : pieces_of (database_back arrays) ≡ arrays = arrays_again arrays back in (
      database_back arrays,
      is_database arrays both.0 back,
      subst (AllByRecursion IsCountedArray) (sym again) (arrays_counted arrays back),
      both.1 ∙ ap (λ (some : List PiecesArray). signed (spell_arrays some)) (sym again),
      sym again,
    )
