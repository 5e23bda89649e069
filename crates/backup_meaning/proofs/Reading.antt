-- The backup of a database is read as its pieces.
use Rattle.std.proofs.Common.{◌≡◌, ◌<◌, ◌≤◌, ◌^◌, ℕ, zero, suc, ◌+◌, ◌*◌, true, false, nat_lt, nat_le, List, [], ◌∷◌, map, length, Option, Some, None, Ok, get_or, refl, sym, ap, subst, arith}
use Rattle.std.specs.Prelude.{◌==◌, int_le, ◌≤ℤ◌}
use Rattle.std.specs.List.{AllByRecursion}
use Rattle.std.proofs.lemmas.Int.{ints}
use Rattle.std.specs.declared.cmp.Ordering.TheVariants.{Less}
use Rattle.std.proofs.lemmas.Bool.{and_parts, and_from, lt-ltb, le-leb, leb-true}
use Rattle.std.specs.List.{list_all}
use Rattle.std.specs.Prelude.{◌&&◌}
use Rattle.cell_values.specs.Schemas.{IsValid, has_attributes, has_dimensions, are_distinct, names_of, is_dimension, frame_fits}
use Rattle.cell_values.specs.declared.datum.Row.{Row}
use Rattle.cell_values.specs.declared.schema.Dimension.{Dimension}
use Rattle.cell_values.specs.declared.schema.Schema.{Schema}
use Rattle.array_rows.specs.Arrays.{AreRowsOf}
use Rattle.array_geom.specs.declared.chunk.Chunk.{Chunk}
use Rattle.array_geom.specs.Geometry.{ChunkNumber, first_in, frame_lengths, has_core, overlaps, volume}
use Rattle.array_geom.specs.Inner.Ranges.{IsNear, AreNear}
use Rattle.array_geom.specs.Link.{number_order, NumbersRise}
use Rattle.array_geom.proofs.TestLaws.{le_from_test}
use Rattle.array_geom.proofs.NearLemmas.{valid_placed}
use Rattle.logical_plan.specs.Typing.{AreSound}
use Rattle.plan_changes.specs.Databases.{Version, Stored, Database, HoldsArrays, entry_of}
use Rattle.plan_changes.specs.Stored.{NamesRise, RiseBetween, IsStored as IsStoredEntry, IsDatabase}
use Rattle.file_items.specs.Items.{Are}
use Rattle.chunk_map.specs.Table.{is_number, next_number}
use Rattle.chunk_map.proofs.Rules.{Fit, Passed, free, passed}
use Rattle.chunk_rle.specs.Frames.{frame_of}
use Rattle.chunk_rle.specs.Stored.{IsStored}
use Rattle.chunk_rle.specs.Table.{count_positions}
use Rattle.chunk_rle.specs.Valid.{AreRuns}
use Rattle.chunk_rle.specs.Chunks.{as_runs, spelling}
use Rattle.chunk_rle.proofs.ChunkLaws.{runs_are}
use Rattle.chunk_rle.proofs.StoredLaws.{stored_to}
use Rattle.version_catalog.specs.Table.{is_next_name}
use Rattle.backup_format.specs.Pieces.{Piece, rising_numbers, stored_chunk, stored_payload, piece_of, version_of, array_of, pieces_of}
use Rattle.backup_format.specs.Table.{next_placing, chunk_in, number_in, last_in, name_in}
use Rattle.backup_format.specs.Backups.{backup, IsCounted, IsCountedVersion, IsCountedArray, BackupsAreRead}
use Rattle.backup_format.specs.Laws.{AreBytes, IsPayload, IsPlaced, IsNextPiece, IsNextVersion, IsNextArray, AreArrays}
use Rattle.backup_format.proofs.ItemLaws.{spelled_is_read}
use Rattle.backup_format.proofs.RisingNumbers.{numbers_rise}
use Rattle.backup_meaning.specs.Meaning.{AreReadAsStored}
use Rattle.backup_meaning.proofs.Fitting.{IsNumberOf, numbers_are, versions_fit}
use Rattle.backup_meaning.proofs.SmallBytes.{small_at, small_runs, small_columns, some_bytes}
use Rattle.backup_meaning.proofs.StoredParts.{is_stored_chunk}

-- ---- payloads

bytes_are : (schema : Schema) (chunk : Chunk) → IsStored schema chunk → (payload : List ℕ) → payload ≡ spelling schema.attributes chunk → AreBytes payload
unfolding spelling
bytes_are schema chunk s payload is = λ i. subst (λ (bytes : List ℕ). get_or bytes i 0 < 256) (sym is) (small_at (spelling schema.attributes chunk) (small_runs (as_runs schema.attributes chunk) (small_columns (count_positions (as_runs schema.attributes chunk).positions) schema.attributes (as_runs schema.attributes chunk).columns are.columns)) i)
  where
    small : volume (frame_lengths schema.dimensions (overlaps schema.dimensions)) < 2 ^ 64
    small = let p = s.valid.framed.places in omega arith

    are : AreRuns (frame_of schema chunk.at.items) schema.attributes (as_runs schema.attributes chunk)
    are = (runs_are (frame_of schema chunk.at.items) schema.attributes chunk small (stored_to schema chunk s)).0

a_payload : (schema : Schema) (rows : List Row) (k : ChunkNumber) → IsStored schema (stored_chunk schema rows k) → chunk_in schema k (stored_payload schema rows k) ≡ Ok (stored_chunk schema rows k) → length (stored_payload schema rows k) < 2 ^ 64
    → IsPayload schema k (stored_payload schema rows k)
a_payload schema rows k s read few = record {
  some = some_bytes schema.attributes (stored_chunk schema rows k);
  few = few;
  small = bytes_are schema (stored_chunk schema rows k) s (stored_payload schema rows k) refl;
  chunk = stored_chunk schema rows k;
  read = read;
}

-- ---- numbers

some_dimensions : (schema : Schema) → IsValid schema → 1 ≤ length schema.dimensions
some_dimensions schema e =
    let dims = schema.dimensions in
    let a = and_parts (has_attributes schema.attributes && has_dimensions dims && are_distinct (names_of schema) && list_all is_dimension dims) (frame_fits dims) e in
    let b = and_parts (has_attributes schema.attributes && has_dimensions dims && are_distinct (names_of schema)) (list_all is_dimension dims) a.0 in
    let c = and_parts (has_attributes schema.attributes && has_dimensions dims) (are_distinct (names_of schema)) b.0 in
    let d = and_parts (has_attributes schema.attributes) (has_dimensions dims) c.0 in
    let f = and_parts (nat_le 1 (length dims)) (nat_le (length dims) 6) d.1 in
    leb-true 1 (length dims) f.0

never : true ≡ false → ⊥
never e = cc

at_least : (k c : ℕ) → 0 < c → k ≤ k * c
at_least k c some = grind arith

fits_one : (d : Dimension) (k : ℕ) → IsNear d → int_le (first_in d k) d.hi ≡ true → k < 2 ^ 64
fits_one d k near test =
    let within : first_in d k ≤ℤ d.hi = le_from_test (first_in d k) d.hi test in
    let more = at_least k d.chunk near.some in
    let low = near.low in
    let high = near.high in
    omega (arith, ints)

fits : (dims : List Dimension) (k : ChunkNumber) → AreNear dims → has_core dims k ≡ true → Fit k
fits [] [] near core = tt
fits [] (n ∷ k) near core = absurd (never (sym core))
fits (d ∷ dims) [] near core = absurd (never (sym core))
fits (d ∷ dims) (n ∷ k) near core = let both = and_parts (int_le (first_in d n) d.hi) (has_core dims k) core in (fits_one d n near.0 both.0, fits dims k near.1 both.1)

placed_by : (n : ℕ) (before : Option ChunkNumber) (dims : List Dimension) (k : ChunkNumber) → length dims ≡ n → Passed n before k → has_core dims k ≡ true → Are IsPlaced next_placing n (record { before = before; dims = dims }) k
unfolding Are
placed_by zero before dims [] len good core = tt
placed_by zero before dims (x ∷ k) len good core = absurd good
placed_by (suc n) before [] k len good core = absurd (omega (arith, len))
placed_by (suc n) before (d ∷ dims) [] len good core = absurd good
placed_by (suc n) before (d ∷ dims) (x ∷ k) len good core =
    let both = and_parts (int_le (first_in d x) d.hi) (has_core dims k) core in
    ((good.0.0, and_from (is_number before (n == 0) x) (int_le (first_in d x) d.hi) good.0.1 both.0), placed_by n (next_number before x) dims k (omega (arith, len)) good.1 both.1)

-- behind the piece before
abbrev Follows : Option ChunkNumber → List ChunkNumber → Type 0
Follows None ks = Unit {0}
Follows (Some last) ks = AllByRecursion (λ k. number_order last k ≡ Less) ks

passes : (n : ℕ) (before : Option ChunkNumber) (k : ChunkNumber) (ks : List ChunkNumber) → 1 ≤ n → length k ≡ n → Fit k → Follows before (k ∷ ks) → Passed n before k
passes zero before k ks some len fit follows = absurd (omega (arith, some))
passes (suc n) None k ks some len fit follows = free (suc n) k len fit
passes (suc n) (Some last) k ks some len fit follows = passed n last k len fit follows.0

pieces_follow : (schema : Schema) (rows : List Row) → AreRowsOf schema rows → AreSound schema rows → (before : Option ChunkNumber) (ks : List ChunkNumber) → Follows before ks → NumbersRise ks → AllByRecursion (IsNumberOf schema.dimensions rows) ks
    → AreReadAsStored schema rows ks → AllByRecursion (λ (piece : Piece). length piece.payload < 2 ^ 64) (map (piece_of schema rows) ks) → Are (IsNextPiece schema) number_in (length (map (piece_of schema rows) ks)) before (map (piece_of schema rows) ks)
unfolding Are
pieces_follow schema rows are sound before [] follows rise all read few = tt
pieces_follow schema rows are sound before (k ∷ ks) follows rise all read few =
    let dims = schema.dimensions in
    let near = (valid_placed schema are.valid).near in
    let pass = passes (length dims) before k ks (some_dimensions schema are.valid) all.0.long (fits dims k near all.0.core) follows in (
      record {
        at = placed_by (length dims) before dims k refl pass all.0.core;
        payload = a_payload schema rows k (is_stored_chunk schema rows k are sound all.0.core all.0.held) read.0 few.0;
      },
      pieces_follow schema rows are sound (Some k) ks rise.0 rise.1 all.1 read.1 few.1,
    )

-- ---- versions

a_version : (schema : Schema) (next last after : ℕ) (version : Version) → last < version.number → version.number < next → AreRowsOf schema version.rows → AreSound schema version.rows → IsCountedVersion (version_of schema version)
    → IsNextVersion schema next last after (version_of schema version)
a_version schema next last after version low high are sound counted =
    let rows : List Row = version.rows in
    let ks : List ChunkNumber = rising_numbers schema.dimensions rows in
    let f = versions_fit schema version are sound in
    record {
      number = and_from (nat_lt last version.number) (nat_lt version.number next) (lt-ltb last version.number low) (lt-ltb version.number next high);
      pieces = record { below = counted.0; count = refl; each = pieces_follow schema rows are sound None ks tt (numbers_rise schema.dimensions rows) (numbers_are schema rows are) f.read counted.1 };
      fit = f.fit;
    }

versions_follow : (schema : Schema) (next last : ℕ) (vs : List Version) → RiseBetween last next (map (λ v. v.number) vs) → AllByRecursion (λ v. AreRowsOf schema v.rows × AreSound schema v.rows) vs
    → AllByRecursion IsCountedVersion (map (version_of schema) vs) → Are (IsNextVersion schema next) last_in (length (map (version_of schema) vs)) last (map (version_of schema) vs)
unfolding Are
versions_follow schema next last [] rise hold counted = tt
versions_follow schema next last (v ∷ vs) rise hold counted =
    (a_version schema next last (length (map (version_of schema) vs)) v rise.0 rise.1 hold.0.0 hold.0.1 counted.0, versions_follow schema next v.number vs rise.2 hold.1 counted.1)

few_versions : (schema : Schema) (low high : ℕ) (vs : List Version) → low ≤ high → RiseBetween low high (map (λ v. v.number) vs) → low + length (map (version_of schema) vs) ≤ high
few_versions schema low high [] le rise = omega (arith, le)
few_versions schema low high (v ∷ vs) le rise = let later = few_versions schema v.number high vs (omega (arith, rise.1)) rise.2 in omega (arith, later, rise.0)

-- ---- arrays

an_array : (before : Option (List ℕ)) (after : ℕ) (a : Stored) → IsStoredEntry (entry_of a) → is_next_name before a.name ≡ true → AllByRecursion (λ v. AreRowsOf a.schema v.rows × AreSound a.schema v.rows) a.versions → IsCountedArray (array_of a)
    → IsNextArray before after (array_of a)
an_array before after a stored next hold counted =
    let few : 0 + length (map (version_of a.schema) a.versions) ≤ a.next = few_versions a.schema 0 a.next a.versions (omega arith) stored.versions in
    record {
      name = stored.name;
      behind = next;
      schema = record { valid = stored.schema; attributes = stored.named.attributes; dimensions = stored.named.dimensions };
      next = and_from (nat_le 1 a.next) (nat_le a.next 65536) (le-leb 1 a.next stored.next.0) (le-leb a.next 65536 stored.next.1);
      versions = record { below = omega (arith, few, stored.next.1); count = refl; each = versions_follow a.schema a.next 0 a.versions stored.versions hold counted };
    }

-- the names behind the one before
abbrev RiseAfter : Option (List ℕ) → List (List ℕ) → Type 0
RiseAfter None names = NamesRise names
RiseAfter (Some last) names = NamesRise (last ∷ names)

first_next : (before : Option (List ℕ)) (name : List ℕ) (names : List (List ℕ)) → RiseAfter before (name ∷ names) → (is_next_name before name ≡ true) × NamesRise (name ∷ names)
first_next None name names rise = (refl, rise)
first_next (Some last) name names rise = rise

abbrev names_in : Database → List (List ℕ)
names_in db = map (λ entry. entry.name) (map entry_of db)

arrays_follow : (before : Option (List ℕ)) (db : Database) → RiseAfter before (names_in db) → AllByRecursion IsStoredEntry (map entry_of db) → HoldsArrays db → AllByRecursion IsCountedArray (pieces_of db) → Are IsNextArray name_in (length (pieces_of db)) before (pieces_of db)
unfolding Are
arrays_follow before [] rise stored hold counted = tt
arrays_follow before (a ∷ db) rise stored hold counted =
    let f = first_next before a.name (names_in db) rise in
    (an_array before (length (pieces_of db)) a stored.0 f.0 hold.0 counted.0, arrays_follow (Some a.name) db f.1 stored.1 hold.1 counted.1)

same_count : (db : Database) → length (map entry_of db) ≡ length (pieces_of db)
same_count [] = refl
same_count (a ∷ db) = ap suc (same_count db)

are_arrays : (db : Database) → IsDatabase db → IsCounted db → AreArrays (pieces_of db)
are_arrays db is counted =
    let same = same_count db in
    let few : length (pieces_of db) ≤ 1024 = omega (arith, same, is.names.count) in
    record {
      below = omega (arith, few);
      count = le-leb (length (pieces_of db)) 1024 few;
      each = arrays_follow None db is.names.rising is.names.each is.rows counted;
    }

pub backups_are_read : BackupsAreRead
unfolding backup
backups_are_read db is counted = spelled_is_read (pieces_of db) (are_arrays db is counted)
