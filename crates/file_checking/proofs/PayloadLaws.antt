-- What reading a payload answers.
use Rattle.std.proofs.Common.{◌≡◌, ℕ, Bool, false, List, [], ◌∷◌, length, map, slice_index, Option, Some, Result, Ok, Err, refl, sym, ◌∙◌, ap, subst}
use Rattle.std.specs.Prelude.{◌&&◌, is_none, is_ok}
use Rattle.std.specs.Str.{bytes_eq}
use Rattle.cell_values.specs.declared.datum.Row.{Row}
use Rattle.cell_values.specs.declared.schema.Schema.{Schema}
use Rattle.array_geom.specs.declared.chunk.Chunk.{Chunk}
use Rattle.array_geom.specs.Geometry.{overlaps}
use Rattle.array_geom.specs.Link.{core_rows}
use Rattle.file_items.specs.Items.{wrong_at}
use Rattle.page_chain.specs.Pages.{page_size, blob, first_past, IsBlobRead}
use Rattle.page_chain.specs.declared.fault.BlobFault.{BlobFault}
use Rattle.page_chain.specs.declared.fault.BlobFault.TheVariants as blobs
use Rattle.chunk_map.specs.declared.directory.DirEntry.{DirEntry}
use Rattle.chunk_rle.specs.Decoding.{Answers as Decodes}
use Rattle.chunk_rle.specs.declared.decoding.BadPayload.{BadPayload}
use Rattle.chunk_rle.specs.declared.decoding.BadPayload.TheVariants.{At, Memory as OutOfMemory}
use Rattle.backup_format.specs.Laws.{AreBytes}
use Rattle.backup_format.specs.Pieces.{stored_payload}
use Rattle.backup_format.specs.Table.{chunk_in, chunk_or_none, chunk_of_piece, rows_of}
use Rattle.file_checking.specs.Checking.{piece_in}
use Rattle.file_checking.specs.Checks.{Tested, each, or_fault, test_overlap, test_payload}
use Rattle.file_checking.specs.Inner.Steps.{AreChunksRead, AreOverlaps, IsChunkRead, IsDecoded, IsPayloadRead, Stops, overlap_fault, payload_in}
use Rattle.file_checking.specs.declared.sound.CheckFault.{CheckFault}
use Rattle.file_checking.specs.declared.sound.CheckFault.TheVariants.{Disk, NotDatabase, Damaged, WrongOverlap, Memory}

abbrev pub at_first : DirEntry → Bool → Tested
at_first entry whole = or_fault whole (Damaged (slice_index entry.pages 0))

abbrev is_spelled : Schema → DirEntry → List ℕ → Bool
is_spelled schema entry bytes = is_ok (chunk_in schema entry.at.items bytes)

abbrev has_pages : List ℕ → DirEntry → Bool
has_pages file entry = is_none (first_past page_size file entry.pages)

-- a blob that was read, and one of which a page passes the end
pub blob_read : (file : List ℕ) (entry : DirEntry) (pages bytes : List ℕ) → pages ≡ entry.pages → IsBlobRead file pages entry.length (Ok bytes) → IsPayloadRead file entry (Ok bytes)
blob_read file entry pages bytes same read = (
  ap (λ (ps : List ℕ). is_none (first_past page_size file ps)) (sym same) ∙ ap is_none read.0,
  read.1 ∙ ap (λ (ps : List ℕ). blob page_size file ps entry.length) same,
)

pub blob_past : (file : List ℕ) (entry : DirEntry) (pages : List ℕ) (page first : ℕ) (fault : BlobFault) → pages ≡ entry.pages → fault ≡ blobs.Damaged page → first ≡ slice_index entry.pages 0 → IsBlobRead file pages entry.length (Err fault)
    → IsPayloadRead file entry (Err (Damaged first))
blob_past file entry pages page first fault same is at read =
    let past : first_past page_size file pages ≡ Some page = subst (λ (f : BlobFault). IsBlobRead file pages entry.length (Err f)) is read in
    (at, ap (λ (ps : List ℕ). is_none (first_past page_size file ps)) (sym same) ∙ ap is_none past)

-- a payload that wasn't read
pub unread : (file : List ℕ) (schema : Schema) (entry : DirEntry) (fault : CheckFault) → IsPayloadRead file entry (Err fault) → Stops fault (test_payload file schema entry)
unread file schema entry Disk is = tt
unread file schema entry (NotDatabase page) is = absurd is
unread file schema entry (Damaged page) is =
    ap (λ (b : Bool). at_first entry (b && is_spelled schema entry (payload_in file entry))) is.1 ∙ ap (λ (p : ℕ). Err (Damaged p)) (sym is.0)
unread file schema entry (WrongOverlap page) is = absurd is
unread file schema entry Memory is = tt

-- bytes that were read, and spell nothing
pub undecoded : (file : List ℕ) (schema : Schema) (entry : DirEntry) (bytes slice : List ℕ) (fault : CheckFault) → IsPayloadRead file entry (Ok bytes) → slice ≡ bytes → IsDecoded schema entry slice (Err fault)
    → Stops fault (test_payload file schema entry)
undecoded file schema entry bytes slice Disk read is d = absurd d
undecoded file schema entry bytes slice (NotDatabase page) read is d = absurd d
undecoded file schema entry bytes slice (Damaged page) read is d =
    ap (λ (b : Bool). at_first entry (b && is_spelled schema entry (payload_in file entry))) read.0
    ∙ ap (at_first entry) (ap (is_spelled schema entry) (sym (is ∙ read.1)) ∙ d.1) ∙ ap (λ (p : ℕ). Err (Damaged p)) (sym d.0)
undecoded file schema entry bytes slice (WrongOverlap page) read is d = absurd d
undecoded file schema entry bytes slice Memory read is d = tt

-- and those that spell a chunk
pub is_read : (file : List ℕ) (schema : Schema) (entry : DirEntry) (bytes slice : List ℕ) (chunk : Chunk) → IsPayloadRead file entry (Ok bytes) → slice ≡ bytes → IsDecoded schema entry slice (Ok chunk) → AreBytes slice
    → IsChunkRead file schema entry chunk bytes
is_read file schema entry bytes slice chunk read is d small =
    let spelled : chunk_in schema entry.at.items (payload_in file entry) ≡ Ok chunk = ap (chunk_in schema entry.at.items) (sym (is ∙ read.1)) ∙ d in
    record {
      whole = ap (λ (b : Bool). at_first entry (b && is_spelled schema entry (payload_in file entry))) read.0 ∙ ap (λ (r : Result Chunk ℕ). at_first entry (is_ok r)) spelled;
      is = read.1;
      small = subst AreBytes (is ∙ read.1) small;
      chunk_is = sym (ap (chunk_or_none entry.at.items) spelled);
    }

-- ---- decoding

wrong_is : (total at : ℕ) (r : Result Chunk ℕ) → wrong_at total r ≡ Some at → is_ok r ≡ false
wrong_is total at (Ok chunk) e = absurd cc
wrong_is total at (Err wrong) e = refl

-- bytes that are wrong at an offset spell no chunk
pub wrong_spells_none : (r : Result Chunk BadPayload) (fault : BadPayload) (bytes : List ℕ) (reading : Result Chunk ℕ) (at : ℕ) → r ≡ Err fault → fault ≡ At at → Decodes (λ (x : Chunk). x) r bytes reading → is_ok reading ≡ false
wrong_spells_none (Ok chunk) fault bytes reading at e f a = absurd cc
wrong_spells_none (Err OutOfMemory) fault bytes reading at e f a = let no : OutOfMemory ≡ At at = (let same : OutOfMemory ≡ fault = cc in same) ∙ f in absurd cc
wrong_spells_none (Err (At other)) fault bytes reading at e f a = wrong_is (length bytes) other reading a

-- ---- overlaps

pub cons_parts : {A : Type 0} (x y : A) (xs ys : List A) → x ∷ xs ≡ y ∷ ys → (x ≡ y) × (xs ≡ ys)
cons_parts x y xs ys is = let first : x ≡ y = cc in let later : xs ≡ ys = cc in (first, later)

map_map : {A B C : Type 0} (f : A → B) (g : B → C) (xs : List A) → map g (map f xs) ≡ map (λ x. g (f x)) xs
map_map f g [] = refl
map_map f g (x ∷ xs) = ap (λ (ys : List _). g (f x) ∷ ys) (map_map f g xs)

-- the rows of the chunks that were read
its_rows : (file : List ℕ) (schema : Schema) (entries : List DirEntry) (chunks : List Chunk) → chunks ≡ map (λ (entry : DirEntry). chunk_of_piece schema (piece_in file entry)) entries
    → core_rows schema.dimensions (overlaps schema.dimensions) chunks ≡ rows_of schema (map (piece_in file) entries)
unfolding rows_of
its_rows file schema entries chunks are =
    ap (core_rows schema.dimensions (overlaps schema.dimensions)) (are ∙ sym (map_map (piece_in file) (chunk_of_piece schema) entries))

pub are_overlaps : (file : List ℕ) (schema : Schema) (entries : List DirEntry) (chunks slice : List Chunk) (payloads : List (List ℕ)) (page : Option ℕ) → AreChunksRead file schema entries chunks payloads → slice ≡ chunks
    → overlap_fault page ≡ each (test_overlap file schema (core_rows schema.dimensions (overlaps schema.dimensions) slice)) entries → AreOverlaps file schema entries page
are_overlaps file schema entries chunks slice payloads page read is found = record {
  are = read.are;
  overlaps = found ∙ ap (λ (rows : List Row). each (test_overlap file schema rows) entries) (its_rows file schema entries slice (is ∙ read.chunks_are));
}

abbrev pub at_wrong : DirEntry → Bool → Tested
at_wrong entry fits = or_fault fits (WrongOverlap (slice_index entry.pages 0))

-- a payload's overlap, by its bytes
pub overlap_by : (file : List ℕ) (schema : Schema) (rows : List Row) (entry : DirEntry) (payload : List ℕ) (is b : Bool) → payload ≡ payload_in file entry → is ≡ bytes_eq payload (stored_payload schema rows entry.at.items) → is ≡ b
    → test_overlap file schema rows entry ≡ at_wrong entry b
overlap_by file schema rows entry payload is b same told tested =
    ap (λ (p : List ℕ). at_wrong entry (bytes_eq p (stored_payload schema rows entry.at.items))) (sym same) ∙ ap (at_wrong entry) (sym told ∙ tested)
