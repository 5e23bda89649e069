-- The chunks of a version, one after the other.
use Rattle.std.proofs.Common.{◌≡◌, ℕ, ◌+◌, ◌<◌, ◌≤◌, Bool, true, false, List, [], ◌∷◌, ◌++◌, length, map, take, drop, get_or, slice_index, Some, None, Err, refl, sym, ◌∙◌, ap, subst, length-append}
use Rattle.std.specs.List.{AllByRecursion}
use Rattle.std.specs.Str.{bytes_eq}
use Rattle.std.proofs.lemmas.List.{take_all, take_more}
use Rattle.arrayvec.specs.ArrayVec.{ArrayVec}
use Rattle.cell_values.specs.declared.datum.Row.{Row}
use Rattle.cell_values.specs.declared.schema.Schema.{Schema}
use Rattle.array_geom.specs.declared.chunk.Chunk.{Chunk}
use Rattle.array_geom.specs.Link.{numbers}
use Rattle.chunk_map.specs.declared.directory.DirEntry.{DirEntry}
use Rattle.chunk_map.specs.Entries.{numbers as entry_numbers}
use Rattle.backup_format.specs.Pieces.{stored_payload}
use Rattle.backup_format.specs.Table.{chunk_of_piece}
use Rattle.file_checking.specs.Checking.{piece_in}
use Rattle.file_checking.specs.Checks.{each, test_overlap, test_payload}
use Rattle.file_checking.specs.Inner.Steps.{AreChunksRead, IsChunkRead, IsSmall, overlap_fault, payload_in}
use Rattle.file_checking.specs.declared.sound.CheckFault.TheVariants.{WrongOverlap}
use Rattle.file_checking.proofs.PayloadLaws.{cons_parts, overlap_by}
use Rattle.file_checking.proofs.Tests.{Left, left_begins, left_holds, left_on, next_at, stops_at, tests_end, tests_on}

abbrev chunk_at : List ℕ → Schema → DirEntry → Chunk
chunk_at file schema entry = chunk_of_piece schema (piece_in file entry)

-- the chunks and payloads of the first entries
pub record ChunksSoFar (file : List ℕ) (schema : Schema) (entries : List DirEntry) (i : ℕ) (chunks : List Chunk) (payloads : List (List ℕ)) : Type 0 where
  pub left : Left (test_payload file schema) (IsSmall file) entries i
  pub chunks_are : chunks ≡ map (chunk_at file schema) (take i entries)
  pub payloads_are : payloads ≡ map (payload_in file) (take i entries)

pub chunks_begin : (file : List ℕ) (schema : Schema) (entries : List DirEntry) (chunks : List Chunk) (payloads : List (List ℕ)) → chunks ≡ [] → payloads ≡ [] → ChunksSoFar file schema entries 0 chunks payloads
chunks_begin file schema entries chunks payloads none nothing = record { left = left_begins (test_payload file schema) (IsSmall file) entries; chunks_are = none; payloads_are = nothing }

map_push : {A B : Type 0} (f : A → B) (xs : List A) (x : A) → map f (xs ++ x ∷ []) ≡ map f xs ++ f x ∷ []
map_push f [] x = refl
map_push f (y ∷ xs) x = ap (λ (ys : List _). f y ∷ ys) (map_push f xs x)

taken_on : {A : Type 0} (xs : List A) (i : ℕ) (x : A) → i < length xs → x ≡ get_or xs i x → take (i + 1) xs ≡ take i xs ++ x ∷ []
taken_on xs i x low is = take_more xs i x low ∙ ap (λ (y : _). take i xs ++ y ∷ []) (sym is)

-- one more of what a function makes of them
pub mapped_on : {A B : Type 0} (f : A → B) (xs : List A) (i : ℕ) (x : A) (ys more : List B) (y : B) → i < length xs → x ≡ get_or xs i x → more ≡ ys ++ y ∷ [] → y ≡ f x → ys ≡ map f (take i xs) → more ≡ map f (take (i + 1) xs)
mapped_on f xs i x ys more y low is pushed one before =
    pushed ∙ ap (λ (zs : List _). zs ++ y ∷ []) before ∙ ap (λ (z : _). map f (take i xs) ++ z ∷ []) one ∙ sym (map_push f (take i xs) x) ∙ ap (map f) (sym (taken_on xs i x low is))

pub chunks_on : (file : List ℕ) (schema : Schema) (entries : List DirEntry) (i : ℕ) (entry : DirEntry) (chunks chunks' : List Chunk) (payloads payloads' : List (List ℕ)) (chunk : Chunk) (bytes : List ℕ) → i < length entries → entry ≡ get_or entries i entry
    → chunks' ≡ chunks ++ chunk ∷ [] → payloads' ≡ payloads ++ bytes ∷ [] → IsChunkRead file schema entry chunk bytes → ChunksSoFar file schema entries i chunks payloads → ChunksSoFar file schema entries (i + 1) chunks' payloads'
chunks_on file schema entries i entry chunks chunks' payloads payloads' chunk bytes low is pushed pushed' read before = record {
  left = left_on (test_payload file schema) (IsSmall file) entries i entry low is read.whole read.small before.left;
  chunks_are = mapped_on (chunk_at file schema) entries i entry chunks chunks' chunk low is pushed read.chunk_is before.chunks_are;
  payloads_are = mapped_on (payload_in file) entries i entry payloads payloads' bytes low is pushed' read.is before.payloads_are;
}

pub chunks_end : (file : List ℕ) (schema : Schema) (entries : List DirEntry) (i : ℕ) (chunks : List Chunk) (payloads : List (List ℕ)) → length entries ≤ i → ChunksSoFar file schema entries i chunks payloads → AreChunksRead file schema entries chunks payloads
chunks_end file schema entries i chunks payloads past before = record {
  are = record {
    whole = tests_end (test_payload file schema) entries i past before.left.tests;
    small = left_holds (test_payload file schema) (IsSmall file) entries i past before.left;
  };
  chunks_are = before.chunks_are ∙ ap (map (chunk_at file schema)) (take_all i entries past);
  payloads_are = before.payloads_are ∙ ap (map (payload_in file)) (take_all i entries past);
}

-- ---- numbers

pub numbers_on : (entries : List DirEntry) (i : ℕ) (entry : DirEntry) (chunks chunks' : List Chunk) (chunk : Chunk) → i < length entries → entry ≡ get_or entries i entry → chunks' ≡ chunks ++ chunk ∷ [] → chunk.at ≡ entry.at
    → numbers chunks ≡ entry_numbers (take i entries) → numbers chunks' ≡ entry_numbers (take (i + 1) entries)
numbers_on entries i entry chunks chunks' chunk low is pushed at before =
    ap numbers pushed ∙ map_push (λ (c : Chunk). c.at.items) chunks chunk
    ∙ mapped_on (λ (e : DirEntry). e.at.items) entries i entry (numbers chunks) (numbers chunks ++ chunk.at.items ∷ []) chunk.at.items low is refl (ap (λ (a : ArrayVec ℕ). a.items) at) before

pub each_on : (entries : List DirEntry) (i : ℕ) (entry : DirEntry) (payloads payloads' : List (List ℕ)) (bytes : List ℕ) → i < length entries → entry ≡ get_or entries i entry → payloads' ≡ payloads ++ bytes ∷ []
    → length payloads ≡ length (take i entries) → length payloads' ≡ length (take (i + 1) entries)
each_on entries i entry payloads payloads' bytes low is pushed before =
    ap length pushed ∙ length-append payloads (bytes ∷ []) ∙ ap (λ (n : ℕ). n + 1) before ∙ sym (length-append (take i entries) (entry ∷ [])) ∙ ap length (sym (taken_on entries i entry low is))

pub stored_on : {A : Type 0} (P : A → Type 0) (xs more : List A) (x : A) → more ≡ xs ++ x ∷ [] → P x → AllByRecursion P xs → AllByRecursion P more
stored_on P xs more x pushed one all = subst (AllByRecursion P) (sym pushed) (go xs all)
  where
    go : (ys : List _) → AllByRecursion P ys → AllByRecursion P (ys ++ x ∷ [])
    go [] all = (one, tt)
    go (y ∷ ys) all = (all.0, go ys all.1)

-- ---- overlaps

-- the payloads and the tests that are left
pub record OverlapsLeft (file : List ℕ) (schema : Schema) (rows : List Row) (entries : List DirEntry) (i : ℕ) (left : List (List ℕ)) : Type 0 where
  pub payloads : left ≡ map (payload_in file) (drop i entries)
  pub tests : each (test_overlap file schema rows) (drop i entries) ≡ each (test_overlap file schema rows) entries

pub overlaps_begin : (file : List ℕ) (schema : Schema) (rows : List Row) (entries : List DirEntry) (payloads : List (List ℕ)) → payloads ≡ map (payload_in file) entries → OverlapsLeft file schema rows entries 0 payloads
overlaps_begin file schema rows entries payloads is = record { payloads = is; tests = refl }

first_payload : (file : List ℕ) (entries : List DirEntry) (i : ℕ) (entry : DirEntry) (left rest : List (List ℕ)) (payload : List ℕ) → i < length entries → entry ≡ get_or entries i entry → left ≡ payload ∷ rest → left ≡ map (payload_in file) (drop i entries)
    → (payload ≡ payload_in file entry) × (rest ≡ map (payload_in file) (drop (i + 1) entries))
first_payload file entries i entry left rest payload low is split are =
    cons_parts payload (payload_in file entry) rest (map (payload_in file) (drop (i + 1) entries)) (sym split ∙ are ∙ ap (map (payload_in file)) (next_at entries i entry low is))

pub overlaps_on : (file : List ℕ) (schema : Schema) (rows : List Row) (entries : List DirEntry) (i : ℕ) (entry : DirEntry) (left rest : List (List ℕ)) (payload : List ℕ) (is_own : Bool) → i < length entries → entry ≡ get_or entries i entry → left ≡ payload ∷ rest
    → is_own ≡ bytes_eq payload (stored_payload schema rows entry.at.items) → is_own ≡ true → OverlapsLeft file schema rows entries i left → OverlapsLeft file schema rows entries (i + 1) rest
overlaps_on file schema rows entries i entry left rest payload is_own low is split told passes before =
    let first = first_payload file entries i entry left rest payload low is split before.payloads in
    record {
      payloads = first.1;
      tests = tests_on (test_overlap file schema rows) entries i entry low is (overlap_by file schema rows entry payload is_own true first.0 told passes) before.tests;
    }

pub overlaps_stop : (file : List ℕ) (schema : Schema) (rows : List Row) (entries : List DirEntry) (i : ℕ) (entry : DirEntry) (left rest : List (List ℕ)) (payload : List ℕ) (is_own : Bool) (page : ℕ) → i < length entries → entry ≡ get_or entries i entry → left ≡ payload ∷ rest
    → is_own ≡ bytes_eq payload (stored_payload schema rows entry.at.items) → is_own ≡ false → page ≡ slice_index entry.pages 0 → OverlapsLeft file schema rows entries i left
    → overlap_fault (Some page) ≡ each (test_overlap file schema rows) entries
overlaps_stop file schema rows entries i entry left rest payload is_own page low is split told fails at before =
    let first = first_payload file entries i entry left rest payload low is split before.payloads in
    let wrong : test_overlap file schema rows entry ≡ Err (WrongOverlap page) = overlap_by file schema rows entry payload is_own false first.0 told fails ∙ ap (λ (p : ℕ). Err (WrongOverlap p)) (sym at) in
    sym (stops_at (WrongOverlap page) (test_overlap file schema rows) entries i entry low is wrong before.tests)

pub overlaps_end : (file : List ℕ) (schema : Schema) (rows : List Row) (entries : List DirEntry) (i : ℕ) (left : List (List ℕ)) → length entries ≤ i → OverlapsLeft file schema rows entries i left → overlap_fault None ≡ each (test_overlap file schema rows) entries
overlaps_end file schema rows entries i left past before = sym (tests_end (test_overlap file schema rows) entries i past before.tests)
