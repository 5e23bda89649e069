-- The texts of a version, an array and all arrays, of what stands before the parts and of the parts.
use Rattle.std.proofs.Common.{◌≡◌, ◌∙◌, ℕ, zero, suc, ◌≤◌, List, [], ◌∷◌, ◌++◌, map, length, Result, Ok, Err, OnOk, OnErr, take, drop, refl, sym, ap, append_assoc, arith}
use Rattle.std.specs.Prelude.{◌==◌}
use Rattle.std.specs.List.{filter, flat_map}
use Rattle.std.proofs.lemmas.List.{take-append-drop}
use Rattle.arrayvec.specs.ArrayVec.{ArrayVec}
use Rattle.sha2.specs.Hashers.{Holds256}
use Rattle.sha2.specs.Sha256.{sha256}
use Rattle.cell_values.specs.declared.datum.Row.{Row}
use Rattle.cell_values.specs.declared.schema.Schema.{Schema}
use Rattle.array_geom.specs.Geometry.{ChunkNumber}
use Rattle.array_geom.specs.Link.{NumbersRise}
use Rattle.afl_outside.specs.Sink.{SinkState, Takes}
use Rattle.afl_outside.proofs.Streams.{Takes-more}
use Rattle.logical_plan.specs.declared.names.NameEntry.{NameEntry}
use Rattle.logical_plan.specs.declared.parts.Leaf.{Leaf}
use Rattle.logical_plan.specs.Meaning.{Database, version_rows}
use Rattle.plan_changes.specs.Databases.{Version}
use Rattle.chunk_source.specs.Source.{HasArray, numbers_of}
use Rattle.backup_format.specs.Pieces.{rising_numbers, stored_payload, piece_of, version_of}
use Rattle.backup_format.specs.Spelling.{before_payload, before_pieces, before_versions, before_arrays, spell_piece, spell_version, spell_array, signed}
use Rattle.backup_format.proofs.Parts.{pieces_have_parts, versions_have_parts, arrays_have_parts, backups_have_parts}
use Rattle.backup_writing.specs.declared.digest_sink.DigestSink.{DigestSink}
use Rattle.backup_writing.specs.declared.stop.WriteStop.{WriteStop}
use Rattle.backup_writing.specs.Writing.{version_in, array_pieces, backup_text, Wrote, Broke, Goes}
use Rattle.backup_writing.proofs.Outs.{flat_of_map}
use Rattle.backup_format.proofs.RisingNumbers.{the_only, kept_rise, kept_sized, kept_listed}

map_long : {A B : Type 0} (f : A → B) (xs : List A) → length (map f xs) ≡ length xs
map_long f [] = refl
map_long f (x ∷ xs) = ap suc (map_long f xs)

-- a text of parts that are made of others
of_parts : {A B : Type 0} (before : ℕ → List ℕ) (spell : B → List ℕ) (f : A → B) (xs : List A) → before (length xs) ++ flat_map (λ (x : A). spell (f x)) xs ≡ before (length (map f xs)) ++ flat_map spell (map f xs)
of_parts {A} before spell f xs =
    sym (ap (λ (n : ℕ). before n ++ flat_map spell (map f xs)) (map_long f xs) ∙ ap (λ (t : List ℕ). before (length xs) ++ t) (flat_of_map spell f xs))

pub piece_text : (schema : Schema) (rows : List Row) (k : ChunkNumber) (payload : List ℕ) → payload ≡ stored_payload schema rows k → before_payload k (length payload) ++ payload ≡ spell_piece (piece_of schema rows k)
piece_text schema rows k payload is = ap (λ (p : List ℕ). before_payload k (length p) ++ p) is ∙ sym (pieces_have_parts (piece_of schema rows k))

some_rows : (db : Database) (name : List ℕ) (n : ℕ) → 1 ≤ n → version_rows db name n ≡ db name n
some_rows db name zero le = absurd (omega (arith, le))
some_rows db name (suc n) le = refl

numbers_text : (schema : Schema) (rows : List Row) (n : ℕ) (ats : List (ArrayVec ℕ)) → numbers_of ats ≡ rising_numbers schema.dimensions rows
    → before_pieces n (length ats) ++ flat_map (λ (at : ArrayVec ℕ). spell_piece (piece_of schema rows at.items)) ats ≡ spell_version (version_of schema (record { number = n; rows = rows }))
numbers_text schema rows n ats only =
    of_parts (before_pieces n) (λ (k : ChunkNumber). spell_piece (piece_of schema rows k)) (λ (at : ArrayVec ℕ). at.items) ats
    ∙ of_parts (before_pieces n) spell_piece (piece_of schema rows) (numbers_of ats)
    ∙ ap (λ (ks : List ChunkNumber). before_pieces n (length (map (piece_of schema rows) ks)) ++ flat_map spell_piece (map (piece_of schema rows) ks)) only
    ∙ sym (versions_have_parts (version_of schema (record { number = n; rows = rows })))

-- the numbers that are kept, of those that a source lists
abbrev pub kept_numbers : Leaf → List (ArrayVec ℕ) → List (ArrayVec ℕ)
kept_numbers leaf chunks = filter (λ at. length at.items == length leaf.schema.dimensions) chunks

abbrev pub spell_at : Leaf → Database → ArrayVec ℕ → List ℕ
spell_at leaf db at = spell_piece (piece_of leaf.schema (version_rows db leaf.name leaf.version) at.items)

pub version_text : (leaf : Leaf) (db : Database) (chunks numbers : List (ArrayVec ℕ)) → 1 ≤ leaf.version → NumbersRise (numbers_of chunks) → HasArray leaf (version_rows db leaf.name leaf.version) chunks
    → numbers ≡ kept_numbers leaf chunks → before_pieces leaf.version (length numbers) ++ flat_map (spell_at leaf db) numbers ≡ spell_version (version_of leaf.schema (version_in leaf.name db leaf.version))
version_text leaf db chunks numbers le rise has kept =
    let dims = leaf.schema.dimensions in
    let rows : List Row = version_rows db leaf.name leaf.version in
    let only : numbers_of (kept_numbers leaf chunks) ≡ rising_numbers dims rows =
    the_only leaf.schema rows (numbers_of (kept_numbers leaf chunks)) has.rows_of (kept_rise (length dims) chunks rise) (kept_sized (length dims) chunks)
    (λ k len. kept_listed (length dims) k chunks len ∙ has.listed k len) in
    numbers_text leaf.schema rows leaf.version numbers (ap numbers_of kept ∙ only)
    ∙ ap (λ (some : List Row). spell_version (version_of leaf.schema (record { number = leaf.version; rows = some }))) (some_rows db leaf.name leaf.version le)

pub array_text : (db : Database) (entry : NameEntry) → before_versions entry.name entry.schema entry.next (length entry.versions) ++ flat_map (λ (n : ℕ). spell_version (version_of entry.schema (version_in entry.name db n))) entry.versions ≡ spell_array (array_pieces db entry)
array_text db entry =
    let before : ℕ → List ℕ = before_versions entry.name entry.schema entry.next in
    of_parts before (λ (v : Version). spell_version (version_of entry.schema v)) (version_in entry.name db) entry.versions
    ∙ of_parts before spell_version (version_of entry.schema) (map (version_in entry.name db) entry.versions)
    ∙ sym (arrays_have_parts (array_pieces db entry))

pub arrays_text : (entries : List NameEntry) (db : Database) → before_arrays (length entries) ++ flat_map (λ (entry : NameEntry). spell_array (array_pieces db entry)) entries ≡ backup_text entries db
arrays_text entries db = of_parts before_arrays spell_array (array_pieces db) entries ∙ sym (backups_have_parts (map (array_pieces db) entries))

-- ---- all of it, and the digest

module _ {K : Type 0} (sink_of : K → SinkState) (tells : Database → Type 0) (text : Database → List ℕ) where
  pub signed_goes : (result : Result (Unit {0}) WriteStop) (old new : DigestSink K) (sink : K) → Holds256 old.digest [] → Wrote sink_of tells text old new
      → OnOk result ((m : List ℕ) → Holds256 new.digest m → Takes (sink_of new.sink) (sink_of sink) (sha256 m))
      → OnErr result ((m : List ℕ) → Holds256 new.digest m → (n : ℕ) × Takes (sink_of new.sink) (sink_of sink) (take n (sha256 m)))
      → Goes tells (λ db. signed (text db)) result (sink_of old.sink) (sink_of sink)
  signed_goes (Ok x) old new sink none w takes fails = record {
    bytes = signed w.bytes;
    takes = Takes-more (sink_of old.sink) (sink_of new.sink) (sink_of sink) w.bytes (sha256 w.bytes) w.takes (takes w.bytes (w.holds [] none));
    told = λ db is. ap (λ (t : List ℕ). signed t) (w.told db is);
  }
  signed_goes (Err stop) old new sink none w takes fails =
      let some = fails w.bytes (w.holds [] none) in
      record {
        bytes = w.bytes ++ take some.0 (sha256 w.bytes);
        takes = Takes-more (sink_of old.sink) (sink_of new.sink) (sink_of sink) w.bytes (take some.0 (sha256 w.bytes)) w.takes some.1;
        front = λ db is. (
          drop some.0 (sha256 w.bytes),
          ap (λ (t : List ℕ). signed t) (sym (w.told db is)) ∙ ap (λ (t : List ℕ). w.bytes ++ t) (sym (take-append-drop some.0 (sha256 w.bytes)))
              ∙ sym (append_assoc w.bytes (take some.0 (sha256 w.bytes)) (drop some.0 (sha256 w.bytes))),
        );
      }

  pub broken_goes : (stop : WriteStop) (old new : DigestSink K) → Broke sink_of tells text old new → Goes tells (λ db. signed (text db)) (Err stop) (sink_of old.sink) (sink_of new.sink)
  broken_goes stop old new w = record {
    bytes = w.bytes;
    takes = w.takes;
    front = λ db is. let rest = w.front db is in (rest.0 ++ sha256 (text db), ap (λ (t : List ℕ). t ++ sha256 (text db)) rest.1 ∙ append_assoc w.bytes rest.0 (sha256 (text db)));
  }
