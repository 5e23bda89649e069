-- What holds of pieces that were read: their chunks are stored ones, whose numbers rise, and each tells how many bytes are left.
use Rattle.std.proofs.Common.{◌≡◌, ℕ, zero, suc, ◌+◌, ◌-◌, ◌<◌, ◌≤◌, Bool, true, false, cond, ◌&&◌, nat_le, List, [], ◌∷◌, ◌++◌, length, map, get_or, take, drop, Option, Some, None, Result, Ok, Err, refl, sym, ap, subst, ◌∙◌, append_assoc, arith}
use Rattle.std.specs.Prelude.{◌==◌, int_le}
use Rattle.std.specs.Int.{w64, to_le_bytes}
use Rattle.std.specs.List.{AllByRecursion, flat_map, list_all}
use Rattle.std.specs.declared.cmp.Ordering.TheVariants.{Less}
use Rattle.std.proofs.lemmas.Bool.{and_parts, and_from, leb-true}
use Rattle.std.proofs.lemmas.Cmp.{nat_list_cmp_total}
use Rattle.std.proofs.lemmas.List.{length-append, append-nil, take_at, drop_at}
use Rattle.std.proofs.lemmas.Grind.{flat_map-append}
use Rattle.arrayvec.specs.ArrayVec.{ArrayVec}
use Rattle.cell_values.specs.declared.schema.Dimension.{Dimension}
use Rattle.cell_values.specs.declared.schema.Schema.{Schema}
use Rattle.cell_values.specs.Schemas.{IsValid, has_attributes, has_dimensions, are_distinct, names_of, is_dimension, frame_fits}
use Rattle.cell_values.specs.declared.datum.Row.{Row}
use Rattle.array_geom.specs.declared.chunk.Chunk.{Chunk}
use Rattle.array_geom.specs.Geometry.{ChunkNumber, first_in, has_core, overlaps}
use Rattle.array_geom.specs.Link.{NumbersRise, core_rows, number_order, numbers}
use Rattle.chunk_rle.specs.Stored.{IsStored}
use Rattle.chunk_rle.proofs.StoredLaws.{taken, taken_number}
use Rattle.chunk_map.specs.Table.{is_number, next_number}
use Rattle.chunk_map.proofs.Laws.{IsNumber}
use Rattle.chunk_map.proofs.Rules.{above}
use Rattle.file_items.specs.Items.{Are, repeat}
use Rattle.file_items.proofs.BytesLaws.{AreBytes, repeat_reads}
use Rattle.backup_format.specs.Pieces.{Piece}
use Rattle.backup_format.specs.Spelling.{spell_piece}
use Rattle.backup_format.specs.Laws.{IsPlaced, IsPayload, IsNextPiece}
use Rattle.backup_format.specs.Table.{Placing, has_place, next_placing, chunk_in, chunk_or_none, chunk_of_piece, piece_after, next_piece, number_in, numbers_at, left_at, rows_of, is_its_payload, fit_together, wrong_piece}
use Rattle.backup_format.proofs.ItemLaws.{numbers_reads, piece_reads}
use Rattle.file_items.proofs.Loop.{behind, one_more}
use Rattle.backup_format.specs.declared.pieces.PieceAt.{PieceAt}
use Rattle.backup_format.specs.PiecePlaces.{piece_in, pieces_in, slice_at, AreLeft, EndsWith}
use Rattle.backup_format.proofs.Ends.{end_small, end_behind, map_push}

-- ---- numbers

pub core_of : (dims : List Dimension) (before : Option ChunkNumber) (k : ChunkNumber) → Are IsPlaced next_placing (length dims) (record { before = before; dims = dims }) k → has_core dims k ≡ true
unfolding Are
core_of [] before [] good = refl
core_of [] before (n ∷ k) good = absurd good
core_of (d ∷ dims) before [] good = absurd good
core_of (d ∷ dims) before (n ∷ k) good =
    let placing : Placing = record { before = before; dims = d ∷ dims } in
    let p = and_parts (is_number before (length dims == 0) n) (has_place (d ∷ dims) n) good.0.1 in
    and_from (int_le (first_in d n) d.hi) (has_core dims k) p.1 (core_of dims (next_number before n) k good.1)

passed_of : (dims : List Dimension) (before : Option ChunkNumber) (k : ChunkNumber) → Are IsPlaced next_placing (length dims) (record { before = before; dims = dims }) k → Are IsNumber next_number (length dims) before k
unfolding Are
passed_of [] before [] good = tt
passed_of [] before (n ∷ k) good = absurd good
passed_of (d ∷ dims) before [] good = absurd good
passed_of (d ∷ dims) before (n ∷ k) good =
    ((good.0.0, (and_parts (is_number before (length dims == 0) n) (has_place (d ∷ dims) n) good.0.1).0), passed_of dims (next_number before n) k good.1)

placed_above : (dims : List Dimension) (before k : ChunkNumber) → 1 ≤ length dims → Are IsPlaced next_placing (length dims) (record { before = Some before; dims = dims }) k → number_order before k ≡ Less
placed_above [] before k some good = absurd (omega (arith, some))
placed_above (d ∷ dims) before k some good = above (length dims) before k (passed_of (d ∷ dims) (Some before) k good)

-- ---- rising pieces

abbrev own_numbers : List Piece → List ChunkNumber
own_numbers pieces = map (λ (p : Piece). p.at) pieces

all_higher : (j k : ChunkNumber) (ks : List ChunkNumber) → number_order j k ≡ Less → AllByRecursion (λ later. number_order k later ≡ Less) ks → AllByRecursion (λ later. number_order j later ≡ Less) ks
all_higher j k [] less all = tt
all_higher j k (n ∷ ks) less all = (nat_list_cmp_total.trans j k n less all.0, all_higher j k ks less all.1)

rise_after : (schema : Schema) (n : ℕ) (k : ChunkNumber) (pieces : List Piece) → 1 ≤ length schema.dimensions → Are (IsNextPiece schema) number_in n (Some k) pieces
    → AllByRecursion (λ later. number_order k later ≡ Less) (own_numbers pieces) × NumbersRise (own_numbers pieces)
unfolding Are
rise_after schema n k [] some good = (tt, tt)
rise_after schema zero k (p ∷ pieces) some good = absurd good
rise_after schema (suc n) k (p ∷ pieces) some good =
    let first = placed_above schema.dimensions k p.at some good.0.at in
    let later = rise_after schema n p.at pieces some good.1 in
    ((first, all_higher k p.at (own_numbers pieces) first later.0), later)

pub rising : (schema : Schema) (n : ℕ) (pieces : List Piece) → 1 ≤ length schema.dimensions → Are (IsNextPiece schema) number_in n None pieces → NumbersRise (own_numbers pieces)
unfolding Are
rising schema n [] some good = tt
rising schema zero (p ∷ pieces) some good = absurd good
rising schema (suc n) (p ∷ pieces) some good = rise_after schema n p.at pieces some good.1

-- ---- their chunks

pub record IsItsChunk (schema : Schema) (piece : Piece) : Type 0 where
  pub stored : IsStored schema (chunk_of_piece schema piece)
  pub number : (chunk_of_piece schema piece).at.items ≡ piece.at

chunk_read : (schema : Schema) (piece : Piece) (chunk : Chunk) → chunk_in schema piece.at piece.payload ≡ Ok chunk → chunk_of_piece schema piece ≡ chunk
chunk_read schema piece chunk read = ap (chunk_or_none piece.at) read

pub its_chunk : (schema : Schema) (piece : Piece) → IsValid schema → has_core schema.dimensions piece.at ≡ true → IsPayload schema piece.at piece.payload → IsItsChunk schema piece
its_chunk schema piece valid core payload =
    let is = chunk_read schema piece payload.chunk payload.read in
    record {
      stored = subst (IsStored schema) (sym is) (taken schema (record { items = piece.at }) piece.payload payload.chunk valid core payload.small payload.read);
      number = ap (λ (c : Chunk). c.at.items) is ∙ ap (λ (at : ArrayVec ℕ). at.items) (taken_number schema (record { items = piece.at }) piece.payload payload.chunk payload.small payload.read);
    }

pub chunks_stored : (schema : Schema) (n : ℕ) (before : Option ChunkNumber) (pieces : List Piece) → IsValid schema → Are (IsNextPiece schema) number_in n before pieces → AllByRecursion (IsStored schema) (map (chunk_of_piece schema) pieces)
unfolding Are
chunks_stored schema n before [] valid good = tt
chunks_stored schema zero before (p ∷ pieces) valid good = absurd good
chunks_stored schema (suc n) before (p ∷ pieces) valid good =
    ((its_chunk schema p valid (core_of schema.dimensions before p.at good.0.at) good.0.payload).stored, chunks_stored schema n (Some p.at) pieces valid good.1)

pub chunk_numbers : (schema : Schema) (n : ℕ) (before : Option ChunkNumber) (pieces : List Piece) → IsValid schema → Are (IsNextPiece schema) number_in n before pieces → numbers (map (chunk_of_piece schema) pieces) ≡ own_numbers pieces
unfolding Are
chunk_numbers schema n before [] valid good = refl
chunk_numbers schema zero before (p ∷ pieces) valid good = absurd good
chunk_numbers schema (suc n) before (p ∷ pieces) valid good =
    ap (λ (k : ChunkNumber). k ∷ numbers (map (chunk_of_piece schema) pieces)) (its_chunk schema p valid (core_of schema.dimensions before p.at good.0.at) good.0.payload).number
    ∙ ap (λ (ks : List ChunkNumber). p.at ∷ ks) (chunk_numbers schema n (Some p.at) pieces valid good.1)

pub chunks_rise : (schema : Schema) (n : ℕ) (pieces : List Piece) → IsValid schema → 1 ≤ length schema.dimensions → Are (IsNextPiece schema) number_in n None pieces → NumbersRise (numbers (map (chunk_of_piece schema) pieces))
chunks_rise schema n pieces valid some good = subst NumbersRise (sym (chunk_numbers schema n None pieces valid good)) (rising schema n pieces some good)

pub all_cores : (schema : Schema) (whole : List ℕ) (n : ℕ) (before : Option ChunkNumber) (pieces : List PieceAt) → Are (IsNextPiece schema) number_in n before (pieces_in whole pieces) → AllByRecursion (λ (p : PieceAt). has_core schema.dimensions p.at.items ≡ true) pieces
unfolding Are
all_cores schema whole n before [] good = tt
all_cores schema whole zero before (p ∷ pieces) good = absurd good
all_cores schema whole (suc n) before (p ∷ pieces) good = (core_of schema.dimensions before p.at.items good.0.at, all_cores schema whole n (Some p.at.items) pieces good.1)

-- what was read passes
pub pieces_pass : (schema : Schema) (count : ℕ) (bytes : List ℕ) (pieces : List Piece) (rest : List ℕ) → AreBytes bytes → repeat (next_piece schema) number_in count None bytes ≡ Ok (pieces, rest) → Are (IsNextPiece schema) number_in count None pieces
pieces_pass schema count bytes pieces rest small read = ((repeat_reads (next_piece schema) number_in spell_piece (IsNextPiece schema) (piece_reads schema) count None).takes bytes pieces rest small read).1

-- ---- how many bytes are left

-- one more piece behind others, whose bytes were those behind them
pub left_push : (whole : List ℕ) (pieces : List PieceAt) (piece : PieceAt) (bytes rest : List ℕ) → bytes ≡ spell_piece (piece_in whole piece) ++ rest → piece.left ≡ length (slice_at whole piece.left piece.size) + length rest
    → AreLeft whole pieces (length bytes) → AreLeft whole (pieces ++ piece ∷ []) (length rest)
unfolding AreLeft
left_push whole [] piece bytes rest e own left = (omega (arith, own), tt)
left_push whole (p ∷ pieces) piece bytes rest e own left =
    let spelled : flat_map spell_piece (pieces_in whole (pieces ++ piece ∷ [])) ≡ flat_map spell_piece (pieces_in whole pieces) ++ spell_piece (piece_in whole piece)
    = ap (flat_map spell_piece) (map_push (piece_in whole) pieces piece) ∙ flat_map-append spell_piece (pieces_in whole pieces) (piece_in whole piece ∷ [])
    ∙ ap (λ (t : List ℕ). flat_map spell_piece (pieces_in whole pieces) ++ t) (append-nil (spell_piece (piece_in whole piece))) in
    let long = ap length spelled ∙ length-append (flat_map spell_piece (pieces_in whole pieces)) (spell_piece (piece_in whole piece)) in
    let all = ap length e ∙ length-append (spell_piece (piece_in whole piece)) rest in
    (omega (arith, left.0, long, all), left_push whole pieces piece bytes rest e own left.1)

-- the first one that fails a test
pub first_fails : (test : Piece → Bool) (whole : List ℕ) (pieces : List PieceAt) (i : ℕ) (d : PieceAt) (behind : ℕ) → i < length pieces → list_all test (take i (pieces_in whole pieces)) ≡ true → test (piece_in whole (get_or pieces i d)) ≡ false → AreLeft whole pieces behind
    → (list_all test (pieces_in whole pieces) ≡ false) × ((get_or pieces i d).left ≡ left_at test behind (pieces_in whole pieces))
unfolding AreLeft left_at
first_fails test whole [] i d behind lt before fails left = absurd (omega (arith, lt))
first_fails test whole (p ∷ pieces) zero d behind lt before fails left = (
  ap (λ (b : Bool). b && list_all test (pieces_in whole pieces)) fails,
  left.0 ∙ sym (ap (λ (b : Bool). cond b (left_at test behind (pieces_in whole pieces)) (length (slice_at whole p.left p.size) + (length (flat_map spell_piece (pieces_in whole pieces)) + behind))) fails),
)
first_fails test whole (p ∷ pieces) (suc i) d behind lt before fails left =
    let passes = and_parts (test (piece_in whole p)) (list_all test (take i (pieces_in whole pieces))) before in
    let later = first_fails test whole pieces i d behind (omega (arith, lt)) passes.1 fails left.1 in (
      ap (λ (b : Bool). b && list_all test (pieces_in whole pieces)) passes.0 ∙ later.0,
      later.1 ∙ sym (ap (λ (b : Bool). cond b (left_at test behind (pieces_in whole pieces)) (length (slice_at whole p.left p.size) + (length (flat_map spell_piece (pieces_in whole pieces)) + behind))) passes.0),
    )

-- ---- where a payload lies

pub payload_lies : (whole front payload rest : List ℕ) → whole ≡ front ++ (payload ++ rest) → slice_at whole (length payload + length rest) (length payload) ≡ payload
payload_lies whole front payload rest e =
    let long : length whole ≡ length front + (length payload + length rest) = ap length e ∙ length-append front (payload ++ rest) ∙ ap (λ (n : ℕ). length front + n) (length-append payload rest) in
    let at : length whole - (length payload + length rest) ≡ length front = omega (arith, long) in
    let tail : drop (length whole - (length payload + length rest)) whole ≡ payload ++ rest
    = ap (λ (n : ℕ). drop n whole) at ∙ ap (drop (length front)) e ∙ drop_at front (payload ++ rest) (length front) refl in
    ap (take (length payload)) tail ∙ take_at payload rest (length payload) refl

pub record Lies (whole : List ℕ) (at : ChunkNumber) (payload bytes rest : List ℕ) : Type 0 where
  pub lies : slice_at whole (length payload + length rest) (length payload) ≡ payload
  pub end : EndsWith whole rest
  pub parts : bytes ≡ spell_piece (record { at = at; payload = payload }) ++ rest

pub piece_lies : (schema : Schema) (before : Option ChunkNumber) (whole bytes : List ℕ) (at : ChunkNumber) (payload rest : List ℕ) → AreBytes whole → EndsWith whole bytes → piece_after schema before bytes ≡ Ok (record { at = at; payload = payload }, rest) → Lies whole at payload bytes rest
unfolding spell_piece
piece_lies schema before whole bytes at payload rest small end read =
    let piece : Piece = record { at = at; payload = payload } in
    let parts = ((piece_reads schema before 0).takes bytes piece rest (end_small whole bytes small end) read).0.joined in
    let head = flat_map (to_le_bytes w64) at in
    let size = to_le_bytes w64 (length payload) in
    let grouped : (head ++ (size ++ payload)) ++ rest ≡ (head ++ size) ++ (payload ++ rest)
    = ap (λ (t : List ℕ). t ++ rest) (sym (append_assoc head size payload)) ∙ append_assoc (head ++ size) payload rest in
    let from = end_behind whole bytes (head ++ size) (payload ++ rest) (parts ∙ grouped) end in
    record { lies = payload_lies whole from.0 payload rest from.1; end = end_behind whole (payload ++ rest) payload rest refl from; parts = parts }

-- ---- schemas

pub some_dimensions : (schema : Schema) → IsValid schema → 1 ≤ length schema.dimensions
some_dimensions schema e =
    let dims = schema.dimensions in
    let a = and_parts (has_attributes schema.attributes && has_dimensions dims && are_distinct (names_of schema) && list_all is_dimension dims) (frame_fits dims) e in
    let b = and_parts (has_attributes schema.attributes && has_dimensions dims && are_distinct (names_of schema)) (list_all is_dimension dims) a.0 in
    let c = and_parts (has_attributes schema.attributes && has_dimensions dims) (are_distinct (names_of schema)) b.0 in
    let d = and_parts (has_attributes schema.attributes) (has_dimensions dims) c.0 in
    let f = and_parts (nat_le 1 (length dims)) (nat_le (length dims) 6) d.1 in
    leb-true 1 (length dims) f.0

pub core_read : (dims given : List Dimension) (before : Option ChunkNumber) (bytes : List ℕ) (k : ChunkNumber) (rest : List ℕ) → given ≡ dims → AreBytes bytes → numbers_at given before bytes ≡ Ok (k, rest) → has_core dims k ≡ true
core_read dims given before bytes k rest same small read =
    subst (λ (ds : List Dimension). has_core ds k ≡ true) same (core_of given before k ((numbers_reads given before).takes bytes k rest small read).1)

-- ---- the loop over the pieces

pub none_read : (whole : List ℕ) (pieces : List PieceAt) (count : ℕ) (later : ℕ → Result (List Piece × List ℕ) ℕ) → pieces ≡ [] → behind (pieces_in whole pieces) (later (count - 0)) ≡ later count
none_read whole pieces count later none =
    let same : count - 0 ≡ count = omega arith in
    subst (λ (ps : List PieceAt). behind (pieces_in whole ps) (later (count - 0)) ≡ later count) (sym none) (nothing_had (later (count - 0)) ∙ ap later same)
  where
    nothing_had : (r : Result (List Piece × List ℕ) ℕ) → behind [] r ≡ r
    nothing_had (Ok x) = refl
    nothing_had (Err left) = refl

pub none_left : (whole : List ℕ) (pieces : List PieceAt) (count : ℕ) → pieces ≡ [] → AreLeft whole pieces count
unfolding AreLeft
none_left whole [] count none = tt
none_left whole (p ∷ pieces) count none = absurd cc

pub none_chunks : (schema : Schema) (whole : List ℕ) (pieces : List PieceAt) (chunks : List Chunk) → pieces ≡ [] → chunks ≡ [] → chunks ≡ map (chunk_of_piece schema) (pieces_in whole pieces)
none_chunks schema whole pieces chunks none nothing = nothing ∙ ap (λ (ps : List PieceAt). map (chunk_of_piece schema) (pieces_in whole ps)) (sym none)

pub piece_more : (schema : Schema) (whole : List ℕ) (so_far : Option ChunkNumber) (pieces new : List PieceAt) (piece : PieceAt) (next : ChunkNumber) (count i : ℕ) (bytes payload rest : List ℕ) (all : Result (List Piece × List ℕ) ℕ)
    → new ≡ pieces ++ piece ∷ [] → slice_at whole piece.left piece.size ≡ payload → next ≡ piece.at.items → i < count → piece_after schema so_far bytes ≡ Ok (record { at = piece.at.items; payload = payload }, rest)
    → behind (pieces_in whole pieces) (repeat (next_piece schema) number_in (count - i) so_far bytes) ≡ all
    → behind (pieces_in whole new) (repeat (next_piece schema) number_in (count - (i + 1)) (Some next) rest) ≡ all
piece_more schema whole so_far pieces new piece next count i bytes payload rest all pushed lies same lt read before =
    let made : Piece = record { at = piece.at.items; payload = payload } in
    let view : made ≡ piece_in whole piece = ap (λ (p : List ℕ). record { at = piece.at.items; payload = p }) (sym lies) in
    let had : pieces_in whole pieces ++ made ∷ [] ≡ pieces_in whole new
    = ap (λ (p : Piece). pieces_in whole pieces ++ p ∷ []) view ∙ sym (map_push (piece_in whole) pieces piece) ∙ ap (pieces_in whole) (sym pushed) in
    let more = one_more (next_piece schema) number_in so_far (pieces_in whole pieces) count i (count - (i + 1)) bytes made rest all lt refl read before in
    subst (λ (k : ChunkNumber). behind (pieces_in whole new) (repeat (next_piece schema) number_in (count - (i + 1)) (Some k) rest) ≡ all) (sym same)
    (subst (λ (ps : List Piece). behind ps (repeat (next_piece schema) number_in (count - (i + 1)) (Some piece.at.items) rest) ≡ all) had more)

pub chunk_more : (schema : Schema) (whole : List ℕ) (pieces new : List PieceAt) (piece : PieceAt) (chunks chunks' : List Chunk) (chunk : Chunk) (payload : List ℕ) → new ≡ pieces ++ piece ∷ [] → chunks' ≡ chunks ++ chunk ∷ []
    → slice_at whole piece.left piece.size ≡ payload → chunk_in schema piece.at.items payload ≡ Ok chunk → chunks ≡ map (chunk_of_piece schema) (pieces_in whole pieces) → chunks' ≡ map (chunk_of_piece schema) (pieces_in whole new)
chunk_more schema whole pieces new piece chunks chunks' chunk payload pushed pushed' lies read before =
    let f = chunk_of_piece schema in
    let is : chunk ≡ f (piece_in whole piece) = sym (chunk_read schema (piece_in whole piece) chunk (ap (chunk_in schema piece.at.items) lies ∙ read)) in
    pushed' ∙ ap (λ (cs : List Chunk). cs ++ chunk ∷ []) before ∙ ap (λ (c : Chunk). map f (pieces_in whole pieces) ++ c ∷ []) is
    ∙ sym (map_push f (pieces_in whole pieces) (piece_in whole piece)) ∙ ap (map f) (sym (map_push (piece_in whole) pieces piece) ∙ ap (pieces_in whole) (sym pushed))

pub left_more : (whole : List ℕ) (pieces new : List PieceAt) (piece : PieceAt) (payload bytes rest : List ℕ) → new ≡ pieces ++ piece ∷ [] → slice_at whole piece.left piece.size ≡ payload → piece.left ≡ length payload + length rest
    → bytes ≡ spell_piece (record { at = piece.at.items; payload = payload }) ++ rest → AreLeft whole pieces (length bytes) → AreLeft whole new (length rest)
left_more whole pieces new piece payload bytes rest pushed lies own parts left =
    let spelled : bytes ≡ spell_piece (piece_in whole piece) ++ rest = parts ∙ ap (λ (p : List ℕ). spell_piece (record { at = piece.at.items; payload = p }) ++ rest) (sym lies) in
    let its : piece.left ≡ length (slice_at whole piece.left piece.size) + length rest = own ∙ ap (λ (p : List ℕ). length p + length rest) (sym lies) in
    subst (λ (ps : List PieceAt). AreLeft whole ps (length rest)) (sym pushed) (left_push whole pieces piece bytes rest spelled its left)

-- ---- pieces that fit together

abbrev tests : Schema → List Piece → Piece → Bool
tests schema pieces = is_its_payload schema (rows_of schema pieces)

its_rows : (schema : Schema) (pieces : List Piece) (chunks : List Chunk) → chunks ≡ map (chunk_of_piece schema) pieces → core_rows schema.dimensions (overlaps schema.dimensions) chunks ≡ rows_of schema pieces
unfolding rows_of
its_rows schema pieces chunks are = ap (core_rows schema.dimensions (overlaps schema.dimensions)) are

test_is : (schema : Schema) (whole : List ℕ) (pieces : List PieceAt) (chunks : List Chunk) (i : ℕ) (piece : PieceAt) (t b : Bool) → piece ≡ get_or pieces i piece → chunks ≡ map (chunk_of_piece schema) (pieces_in whole pieces)
    → t ≡ is_its_payload schema (core_rows schema.dimensions (overlaps schema.dimensions) chunks) (piece_in whole piece) → t ≡ b → tests schema (pieces_in whole pieces) (piece_in whole (get_or pieces i piece)) ≡ b
test_is schema whole pieces chunks i piece t b at are told is =
    ap (λ (p : PieceAt). tests schema (pieces_in whole pieces) (piece_in whole p)) (sym at)
    ∙ ap (λ (rows : List Row). is_its_payload schema rows (piece_in whole piece)) (sym (its_rows schema (pieces_in whole pieces) chunks are)) ∙ sym told ∙ is

pub unfit_here : (schema : Schema) (whole : List ℕ) (pieces : List PieceAt) (chunks : List Chunk) (i : ℕ) (piece : PieceAt) (t : Bool) (behind : ℕ) → i < length pieces → piece ≡ get_or pieces i piece
    → chunks ≡ map (chunk_of_piece schema) (pieces_in whole pieces) → t ≡ is_its_payload schema (core_rows schema.dimensions (overlaps schema.dimensions) chunks) (piece_in whole piece) → t ≡ false
    → list_all (is_its_payload schema (rows_of schema (pieces_in whole pieces))) (take i (pieces_in whole pieces)) ≡ true → AreLeft whole pieces behind
    → (fit_together schema (pieces_in whole pieces) ≡ false) × (piece.left ≡ wrong_piece schema (pieces_in whole pieces) behind)
unfit_here schema whole pieces chunks i piece t behind lt at are told is before left =
    let found = first_fails (tests schema (pieces_in whole pieces)) whole pieces i piece behind lt before (test_is schema whole pieces chunks i piece t false at are told is) left in
    (found.0, ap (λ (p : PieceAt). p.left) at ∙ found.1)

all_more : (test : Piece → Bool) (whole : List ℕ) (pieces : List PieceAt) (i : ℕ) (d : PieceAt) → i < length pieces → list_all test (take i (pieces_in whole pieces)) ≡ true → test (piece_in whole (get_or pieces i d)) ≡ true → list_all test (take (suc i) (pieces_in whole pieces)) ≡ true
all_more test whole [] i d lt before passes = absurd (omega (arith, lt))
all_more test whole (p ∷ pieces) zero d lt before passes = and_from (test (piece_in whole p)) true passes refl
all_more test whole (p ∷ pieces) (suc i) d lt before passes =
    let parts = and_parts (test (piece_in whole p)) (list_all test (take i (pieces_in whole pieces))) before in
    and_from (test (piece_in whole p)) (list_all test (take (suc i) (pieces_in whole pieces))) parts.0 (all_more test whole pieces i d (omega (arith, lt)) parts.1 passes)

pub fits_more : (schema : Schema) (whole : List ℕ) (pieces : List PieceAt) (chunks : List Chunk) (i : ℕ) (piece : PieceAt) (t : Bool) → i < length pieces → piece ≡ get_or pieces i piece
    → chunks ≡ map (chunk_of_piece schema) (pieces_in whole pieces) → t ≡ is_its_payload schema (core_rows schema.dimensions (overlaps schema.dimensions) chunks) (piece_in whole piece) → t ≡ true
    → list_all (is_its_payload schema (rows_of schema (pieces_in whole pieces))) (take i (pieces_in whole pieces)) ≡ true → list_all (is_its_payload schema (rows_of schema (pieces_in whole pieces))) (take (i + 1) (pieces_in whole pieces)) ≡ true
fits_more schema whole pieces chunks i piece t lt at are told is before =
    let next : i + 1 ≡ suc i = omega arith in
    subst (λ (n : ℕ). list_all (tests schema (pieces_in whole pieces)) (take n (pieces_in whole pieces)) ≡ true) (sym next)
    (all_more (tests schema (pieces_in whole pieces)) whole pieces i piece lt before (test_is schema whole pieces chunks i piece t true at are told is))
