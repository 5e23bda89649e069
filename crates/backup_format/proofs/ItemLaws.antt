-- What is read is spelled so, and what is spelled so is read.
use Rattle.std.proofs.Common.{◌≡◌, ℕ, zero, suc, ◌^◌, ◌<◌, ◌≤◌, ◌-◌, Bool, true, false, cond, ltb, eqb, ◌&&◌, nat_lt, nat_le, List, [], ◌∷◌, ◌++◌, length, take, drop, Option, None, Result, Ok, Err, refl, sym, ap, subst, ◌∙◌, append_assoc, arith}
use Rattle.std.specs.Prelude.{◌==◌, slice_index}
use Rattle.std.specs.Int.{w32, w64, to_le_bytes, to_be_bytes}
use Rattle.std.specs.List.{flat_map}
use Rattle.std.specs.Str.{bytes_eq}
use Rattle.std.proofs.lemmas.Bool.{and_parts, ltb-true, leb-true, le-ltb, eqb-true}
use Rattle.std.proofs.lemmas.List.{take_at, drop_at, length-append, append-nil, nil_from_length}
use Rattle.std.proofs.lemmas.Slice.Eq.{bytes_eq-Decides}
use Rattle.sha2.specs.Sha256.{sha256, digest_bytes, final_hash, initial_hash_256}
use Rattle.cell_values.specs.declared.schema.Dimension.{Dimension}
use Rattle.cell_values.specs.declared.schema.Schema.{Schema}
use Rattle.array_geom.specs.Geometry.{ChunkNumber}
use Rattle.file_items.specs.Items.{◌>>=◌, Reading, number_at, bytes_at, item, counted, spell_counted, Are, AreCounted}
use Rattle.file_items.specs.Pages.{positive_at}
use Rattle.file_items.specs.Spelling.{spell_name, spell_schema}
use Rattle.file_items.specs.Table.{name_at, schema_at}
use Rattle.file_items.proofs.BytesLaws.{AreBytes, Begins, two_begin, Reads, bind_ok, test_ok, ok_is, exact32, exact64, number_reads, bytes_reads, item_reads, then_reads, repeat_reads, counted_reads}
use Rattle.file_items.proofs.PagesLaws.{IsPositive, positive_reads}
use Rattle.file_items.proofs.SchemasLaws.{IsSpelledName, ArePassed, name_reads, passed_reads}
use Rattle.file_items.proofs.Rules.{spelled_name, is_spelled, are_passed}
use Rattle.version_catalog.specs.Table.{is_next_name, is_version}
use Rattle.version_catalog.proofs.Handing.{reads_behind}
use Rattle.backup_format.specs.Pieces.{Piece, PiecesVersion, PiecesArray}
use Rattle.backup_format.specs.Spelling.{text, spell_piece, spell_version, spell_array, spell_arrays, signed}
use Rattle.backup_format.specs.Laws.{IsPayload, IsPlaced, IsNextPiece, IsNextVersion, IsNextArray, AreArrays, ReadIsSpelled, SpelledIsRead}
use Rattle.backup_format.specs.Table.{Placing, is_placed, next_placing, placed_number, numbers_at, outside, framed, chunk_in, payload_at, piece_after, next_piece, number_in, fit_together, checked, wrong_piece, pieces_at, version_at, next_version, last_in, Numbered, numbered_at, Content, content_at, array_at, next_array, name_in, arrays_at, trailer_at, backup_in}

abbrev any_count : ℕ → Bool
any_count count = true

-- ---- chunk numbers

abbrev pub ArePlaced : List Dimension → Option ChunkNumber → ChunkNumber → Type 0
ArePlaced dims before k = Are IsPlaced next_placing (length dims) (record { before = before; dims = dims }) k

placed_reads : (placing : Placing) (after : ℕ) → Reads (placed_number placing after) (to_le_bytes w64) (IsPlaced placing after)
unfolding placed_number
placed_reads placing after = item_reads (number_at w64) (to_le_bytes w64) (λ n. n < 2 ^ 64) (is_placed placing (after == 0)) (number_reads w64 (2 ^ 64) exact64)

pub numbers_reads : (dims : List Dimension) (before : Option ChunkNumber) → Reads (numbers_at dims before) (flat_map (to_le_bytes w64)) (ArePlaced dims before)
numbers_reads dims before = repeat_reads placed_number next_placing (to_le_bytes w64) IsPlaced placed_reads (length dims) (record { before = before; dims = dims })

-- ---- payloads

abbrev read_two : {A : Type 0} → A → List ℕ → Result (A × List ℕ) ℕ
read_two x rest = Ok (x, rest)

-- where there are bytes enough, what was read is the two parts
parts_are : {A : Type 0} (b : Bool) (left : ℕ) (x : A) (rest : List ℕ) (y : A) (rest' : List ℕ) → cond b (Err left) (read_two x rest) ≡ read_two y rest' → (b ≡ false) × (x ≡ y) × (rest ≡ rest')
parts_are true left x rest y rest' e = absurd cc
parts_are {A = A} false left x rest y rest' e =
    let first : A × List ℕ = (x, rest) in
    let second : A × List ℕ = (y, rest') in
    let same : first ≡ second = ok_is first second e in
    (refl, ap (λ (p : A × List ℕ). p.0) same, ap (λ (p : A × List ℕ). p.1) same)

outside_ok : {A : Type 0} (behind : ℕ) (r : Result A ℕ) (x : A) → outside behind r ≡ Ok x → r ≡ Ok x
outside_ok behind (Ok y) x e = e
outside_ok behind (Err left) x e = absurd cc

long_enough : (n : ℕ) (text rest : List ℕ) → length text ≡ n → ltb (length (text ++ rest)) n ≡ false
long_enough n text rest len = le-ltb _ _ (omega (arith, len, length-append text rest))

-- what is read of so many bytes by themselves
pub record IsFramed {A : Type 0} (reads : List ℕ → Result A ℕ) (n : ℕ) (bytes payload rest : List ℕ) : Type 0 where
  pub value : A
  pub read : reads payload ≡ Ok value
  pub size : length payload ≡ n
  pub parts : Begins bytes payload rest
  pub small : AreBytes payload

framed_takes : {A : Type 0} (reads : List ℕ → Result A ℕ) (n : ℕ) (bytes payload rest : List ℕ) → AreBytes bytes → framed reads n bytes ≡ Ok (payload, rest) → IsFramed reads n bytes payload rest
framed_takes {A = A} reads n bytes payload rest small e =
    let a = bind_ok (outside (length (drop n bytes)) (reads (take n bytes))) (λ read. cond (ltb (length bytes) n) (Err 0) (Ok (take n bytes, drop n bytes))) (payload, rest) e in
    let p = parts_are (ltb (length bytes) n) 0 (take n bytes) (drop n bytes) payload rest a.2 in
    let cut : bytes_at n bytes ≡ Ok (payload, rest) = rw (p.0, p.1, p.2) refl in
    let t = (bytes_reads n).takes bytes payload rest small cut in
    record { value = a.0; read = subst (λ (xs : List ℕ). reads xs ≡ Ok a.0) p.1 (outside_ok (length (drop n bytes)) (reads (take n bytes)) a.0 a.1); size = t.1.0; parts = t.0; small = t.1.1 }

framed_again : {A : Type 0} (reads : List ℕ → Result A ℕ) (payload rest : List ℕ) (x : A) → reads payload ≡ Ok x → framed reads (length payload) (payload ++ rest) ≡ Ok (payload, rest)
framed_again reads payload rest x read =
    rw (take_at payload rest (length payload) refl, drop_at payload rest (length payload) refl, read, long_enough (length payload) payload rest refl) refl

abbrev pub spell_sized : List ℕ → List ℕ
spell_sized payload = to_le_bytes w64 (length payload) ++ payload

payload_takes : (schema : Schema) (k : ChunkNumber) (bytes payload rest : List ℕ) → AreBytes bytes → payload_at schema k bytes ≡ Ok (payload, rest) → Begins bytes (spell_sized payload) rest × IsPayload schema k payload
unfolding payload_at
payload_takes schema k bytes payload rest small e =
    let a = bind_ok (positive_at bytes) (λ size. framed (chunk_in schema k) size.0 size.1) (payload, rest) e in
    let t = positive_reads.takes bytes a.0.0 a.0.1 small a.1 in
    let f = framed_takes (chunk_in schema k) a.0.0 a.0.1 payload rest t.0.after a.2 in
    let both = two_begin bytes (to_le_bytes w64 a.0.0) a.0.1 payload rest t.0 f.parts in (
      subst (λ (n : ℕ). Begins bytes (to_le_bytes w64 n ++ payload) rest) (sym f.size) both,
      let size : IsPositive (length payload) = subst IsPositive (sym f.size) t.1 in record { some = size.1; few = size.0; small = f.small; chunk = f.value; read = f.read },
    )

payload_again : (schema : Schema) (k : ChunkNumber) (payload rest : List ℕ) → IsPayload schema k payload → payload_at schema k (spell_sized payload ++ rest) ≡ Ok (payload, rest)
unfolding payload_at
payload_again schema k payload rest good =
    let size = to_le_bytes w64 (length payload) in
    ap (payload_at schema k) (append_assoc size payload rest)
    ∙ reads_behind (positive_at (size ++ (payload ++ rest))) (length payload, payload ++ rest) (λ read. framed (chunk_in schema k) read.0 read.1) (Ok (payload, rest))
    (positive_reads.again (length payload) (payload ++ rest) (good.few, good.some)) (framed_again (chunk_in schema k) payload rest good.chunk good.read)

pub payload_reads : (schema : Schema) (k : ChunkNumber) → Reads (payload_at schema k) spell_sized (IsPayload schema k)
payload_reads schema k = record { takes = payload_takes schema k; again = payload_again schema k }

-- ---- pieces

-- ---- what passes, as the rules say it

as_reads : {A : Type 0} (reads : Reading A) (spell : A → List ℕ) (Good Good' : A → Type 0) → ((x : A) → Good x → Good' x) → ((x : A) → Good' x → Good x) → Reads reads spell Good → Reads reads spell Good'
as_reads reads spell Good Good' there back laws = record {
  takes = λ bytes x rest small e. let t = laws.takes bytes x rest small e in (t.0, there x t.1);
  again = λ x rest good. laws.again x rest (back x good);
}

abbrev Passes : Schema → Option ChunkNumber → Piece → Type 0
Passes schema before piece = ArePlaced schema.dimensions before piece.at × IsPayload schema piece.at piece.payload

pub passing_reads : (schema : Schema) (before : Option ChunkNumber) (after : ℕ) → Reads (next_piece schema before after) spell_piece (Passes schema before)
unfolding piece_after spell_piece
passing_reads schema before after =
    then_reads (numbers_at schema.dimensions before) (flat_map (to_le_bytes w64)) (ArePlaced schema.dimensions before) (payload_at schema) (λ k. spell_sized) (IsPayload schema)
    (λ at payload. record { at = at; payload = payload }) (λ (p : Piece). p.at) (λ (p : Piece). p.payload) (λ a b. refl) (λ a b. refl) (λ p. refl)
    (numbers_reads schema.dimensions before) (λ k good. payload_reads schema k)

pub piece_reads : (schema : Schema) (before : Option ChunkNumber) (after : ℕ) → Reads (next_piece schema before after) spell_piece (IsNextPiece schema before after)
piece_reads schema before after =
    as_reads (next_piece schema before after) spell_piece (Passes schema before) (IsNextPiece schema before after)
    (λ piece good. record { at = good.0; payload = good.1 }) (λ piece good. (good.at, good.payload)) (passing_reads schema before after)

-- ---- an item that is wrong at a place inside it

checked_reads : {A : Type 0} (reads : Reading A) (spell : A → List ℕ) (Good : A → Type 0) (test : A → Bool) (place : A → ℕ → ℕ) → Reads reads spell Good → Reads (checked reads test place) spell (λ x. Good x × (test x ≡ true))
checked_reads {A = A} reads spell Good test place laws = record {
  takes = λ bytes x rest fits e.
      let a = bind_ok (reads bytes) (λ y. cond (test y.0) (Ok y) (Err (place y.0 (length y.1)))) (x, rest) e in
      let g = test_ok (test a.0.0) (place a.0.0 (length a.0.1)) a.0 (x, rest) a.2 in
      let read = laws.takes bytes x rest fits (a.1 ∙ ap (λ (y : A × List ℕ). Ok y) g.1) in
      (read.0, (read.1, ap (λ (y : A × List ℕ). test y.0) (sym g.1) ∙ g.0));
  again = λ x rest good. rw (laws.again x rest good.0, good.1) refl;
}

abbrev pub ArePieces : Schema → List Piece → Type 0
ArePieces schema pieces = AreCounted (2 ^ 64) (λ count. true) (IsNextPiece schema) number_in None pieces

abbrev pub FitTogether : Schema → List Piece → Type 0
FitTogether schema pieces = ArePieces schema pieces × (fit_together schema pieces ≡ true)

pub pieces_reads : (schema : Schema) → Reads (pieces_at schema) (spell_counted w64 spell_piece) (FitTogether schema)
unfolding pieces_at
pieces_reads schema =
    checked_reads (counted w64 any_count (next_piece schema) number_in None) (spell_counted w64 spell_piece) (ArePieces schema) (fit_together schema) (wrong_piece schema)
    (counted_reads w64 (2 ^ 64) exact64 any_count (next_piece schema) number_in spell_piece (IsNextPiece schema) (piece_reads schema) None)

-- ---- versions

abbrev pub PassesVersion : Schema → ℕ → ℕ → PiecesVersion → Type 0
PassesVersion schema next last version = ((version.number < 2 ^ 32) × (is_version next last version.number ≡ true)) × FitTogether schema version.pieces

pub passing_version : (schema : Schema) (next last after : ℕ) → Reads (next_version schema next last after) spell_version (PassesVersion schema next last)
unfolding version_at spell_version
passing_version schema next last after =
    then_reads (item (number_at w32) (is_version next last)) (to_le_bytes w32) (λ n. (n < 2 ^ 32) × (is_version next last n ≡ true)) (λ number. pieces_at schema) (λ number. spell_counted w64 spell_piece) (λ number. FitTogether schema)
    (λ number pieces. record { number = number; pieces = pieces }) (λ (v : PiecesVersion). v.number) (λ (v : PiecesVersion). v.pieces) (λ a b. refl) (λ a b. refl) (λ v. refl)
    (item_reads (number_at w32) (to_le_bytes w32) (λ n. n < 2 ^ 32) (is_version next last) (number_reads w32 (2 ^ 32) exact32)) (λ number good. pieces_reads schema)

-- a number below that of the next version fits into four bytes
pub version_reads : (schema : Schema) (next last after : ℕ) → next ≤ 65536 → Reads (next_version schema next last after) spell_version (IsNextVersion schema next last after)
version_reads schema next last after small =
    as_reads (next_version schema next last after) spell_version (PassesVersion schema next last) (IsNextVersion schema next last after)
    (λ version good. record { number = good.0.1; pieces = good.1.0; fit = good.1.1 })
    (λ version good. let below : version.number < next = ltb-true version.number next (and_parts (nat_lt last version.number) (nat_lt version.number next) good.number).1 in
    ((omega (arith, below, small), good.number), (good.pieces, good.fit)))
    (passing_version schema next last after)

abbrev is_next_number : ℕ → Bool
is_next_number next = nat_le 1 next && nat_le next 65536

abbrev pub AreVersions : Schema → ℕ → List PiecesVersion → Type 0
AreVersions schema next versions = AreCounted (2 ^ 32) (λ count. true) (IsNextVersion schema next) last_in 0 versions

abbrev pub IsNumbered : Schema → Numbered → Type 0
IsNumbered schema numbered = ((numbered.next < 2 ^ 32) × (is_next_number numbered.next ≡ true)) × AreVersions schema numbered.next numbered.versions

abbrev pub spell_numbered : Numbered → List ℕ
spell_numbered numbered = to_le_bytes w32 numbered.next ++ spell_counted w32 spell_version numbered.versions

pub numbered_reads : (schema : Schema) → Reads (numbered_at schema) spell_numbered (IsNumbered schema)
unfolding numbered_at
numbered_reads schema =
    then_reads (item (number_at w32) is_next_number) (to_le_bytes w32) (λ n. (n < 2 ^ 32) × (is_next_number n ≡ true)) (λ next. counted w32 any_count (next_version schema next) last_in 0) (λ next. spell_counted w32 spell_version) (AreVersions schema)
    (λ next versions. record { next = next; versions = versions }) (λ (n : Numbered). n.next) (λ (n : Numbered). n.versions) (λ a b. refl) (λ a b. refl) (λ n. refl)
    (item_reads (number_at w32) (to_le_bytes w32) (λ n. n < 2 ^ 32) is_next_number (number_reads w32 (2 ^ 32) exact32))
    (λ next good. let small : next ≤ 65536 = leb-true next 65536 (and_parts (nat_le 1 next) (nat_le next 65536) good.1).1 in
    counted_reads w32 (2 ^ 32) exact32 any_count (next_version schema next) last_in spell_version (IsNextVersion schema next) (λ last after. version_reads schema next last after small) 0)

-- ---- arrays

abbrev pub IsContent : Content → Type 0
IsContent content = ArePassed content.schema × IsNumbered content.schema content.numbered

abbrev pub spell_content : Content → List ℕ
spell_content content = spell_schema content.schema ++ spell_numbered content.numbered

pub content_reads : Reads content_at spell_content IsContent
unfolding content_at
content_reads =
    then_reads schema_at spell_schema ArePassed numbered_at (λ schema. spell_numbered) IsNumbered
    (λ schema numbered. record { schema = schema; numbered = numbered }) (λ (c : Content). c.schema) (λ (c : Content). c.numbered) (λ a b. refl) (λ a b. refl) (λ c. refl)
    passed_reads (λ schema good. numbered_reads schema)

abbrev pub content_of : PiecesArray → Content
content_of array = record { schema = array.schema; numbered = record { next = array.next; versions = array.versions } }

abbrev pub PassesArray : Option (List ℕ) → PiecesArray → Type 0
PassesArray before array = (IsSpelledName array.name × (is_next_name before array.name ≡ true)) × IsContent (content_of array)

pub passing_array : (before : Option (List ℕ)) (after : ℕ) → Reads (next_array before after) spell_array (PassesArray before)
unfolding array_at spell_array
passing_array before after =
    then_reads (item name_at (is_next_name before)) spell_name (λ name. IsSpelledName name × (is_next_name before name ≡ true)) (λ name. content_at) (λ name. spell_content) (λ name. IsContent)
    (λ name content. record { name = name; schema = content.schema; next = content.numbered.next; versions = content.numbered.versions }) (λ (a : PiecesArray). a.name) content_of (λ a b. refl) (λ a b. refl) (λ a. refl)
    (item_reads name_at spell_name IsSpelledName (is_next_name before) name_reads) (λ name good. content_reads)

small_next : (next : ℕ) → is_next_number next ≡ true → next < 2 ^ 32
small_next next good = let most : next ≤ 65536 = leb-true next 65536 (and_parts (nat_le 1 next) (nat_le next 65536) good).1 in omega (arith, most)

pub array_reads : (before : Option (List ℕ)) (after : ℕ) → Reads (next_array before after) spell_array (IsNextArray before after)
array_reads before after =
    as_reads (next_array before after) spell_array (PassesArray before) (IsNextArray before after)
    (λ array good. record { name = good.0.0.1; behind = good.0.1; schema = is_spelled array.schema good.1.0; next = good.1.1.0.1; versions = good.1.1.1 })
    (λ array good. ((spelled_name array.name good.name, good.behind), (are_passed array.schema good.schema, ((small_next array.next good.next, good.next), good.versions))))
    (passing_array before after)

abbrev few_arrays : ℕ → Bool
few_arrays count = nat_le count 1024

pub counted_arrays : Reads (counted w32 few_arrays next_array name_in None) (spell_counted w32 spell_array) AreArrays
counted_arrays = counted_reads w32 (2 ^ 32) exact32 few_arrays next_array name_in spell_array IsNextArray array_reads None

abbrev pub IsText : List ℕ → Type 0
IsText begins = ((length begins ≡ 8) × AreBytes begins) × (bytes_eq text begins ≡ true)

pub text_reads : Reads (item (bytes_at 8) (bytes_eq text)) (λ begins. begins) IsText
text_reads = item_reads (bytes_at 8) (λ begins. begins) (λ begins. (length begins ≡ 8) × AreBytes begins) (bytes_eq text) (bytes_reads 8)

text_small : AreBytes text
text_small zero = omega arith
text_small (suc zero) = omega arith
text_small (suc (suc zero)) = omega arith
text_small (suc (suc (suc zero))) = omega arith
text_small (suc (suc (suc (suc zero)))) = omega arith
text_small (suc (suc (suc (suc (suc zero))))) = omega arith
text_small (suc (suc (suc (suc (suc (suc zero)))))) = omega arith
text_small (suc (suc (suc (suc (suc (suc (suc zero))))))) = omega arith
text_small (suc (suc (suc (suc (suc (suc (suc (suc i)))))))) = omega arith

arrays_take : (bytes : List ℕ) (arrays : List PiecesArray) (rest : List ℕ) → AreBytes bytes → arrays_at bytes ≡ Ok (arrays, rest) → Begins bytes (spell_arrays arrays) rest × AreArrays arrays
unfolding arrays_at spell_arrays
arrays_take bytes arrays rest small e =
    let a = bind_ok (item (bytes_at 8) (bytes_eq text) bytes) (λ begins. counted w32 few_arrays next_array name_in None begins.1) (arrays, rest) e in
    let t = text_reads.takes bytes a.0.0 a.0.1 small a.1 in
    let t' = counted_arrays.takes a.0.1 arrays rest t.0.after a.2 in
    let is : text ≡ a.0.0 = (bytes_eq-Decides text a.0.0).0 t.1.1 in
    let both = two_begin bytes a.0.0 a.0.1 (spell_counted w32 spell_array arrays) rest t.0 t'.0 in
    (subst (λ (begins : List ℕ). Begins bytes (begins ++ spell_counted w32 spell_array arrays) rest) (sym is) both, t'.1)

arrays_again : (arrays : List PiecesArray) (rest : List ℕ) → AreArrays arrays → arrays_at (spell_arrays arrays ++ rest) ≡ Ok (arrays, rest)
unfolding arrays_at spell_arrays
arrays_again arrays rest good =
    rw (append_assoc, text_reads.again text (spell_counted w32 spell_array arrays ++ rest) ((refl, text_small), refl)) (counted_arrays.again arrays rest good)

pub arrays_reads : Reads arrays_at spell_arrays AreArrays
arrays_reads = record { takes = arrays_take; again = arrays_again }

-- ---- the digest

both_bytes : (xs ys : List ℕ) → AreBytes xs → AreBytes ys → AreBytes (xs ++ ys)
both_bytes [] ys a b i = b i
both_bytes (x ∷ xs) ys a b zero = a zero
both_bytes (x ∷ xs) ys a b (suc i) = both_bytes xs ys (λ j. a (suc j)) b i

four_bytes : (n : ℕ) → AreBytes (to_be_bytes w32 n)
four_bytes n zero = omega arith
four_bytes n (suc zero) = omega arith
four_bytes n (suc (suc zero)) = omega arith
four_bytes n (suc (suc (suc zero))) = omega arith
four_bytes n (suc (suc (suc (suc i)))) = omega arith

words_small : (h : List ℕ) (n : ℕ) → AreBytes (digest_bytes h n)
unfolding digest_bytes
words_small h zero = λ i. omega arith
words_small h (suc n) = both_bytes (digest_bytes h n) (to_be_bytes w32 (slice_index h n)) (words_small h n) (four_bytes (slice_index h n))

pub digest_long : (message : List ℕ) → length (sha256 message) ≡ 32
unfolding sha256 digest_bytes
digest_long message = refl

digest_small : (message : List ℕ) → AreBytes (sha256 message)
unfolding sha256
digest_small message = words_small (final_hash initial_hash_256 message) 8

abbrev IsDigest : List ℕ → List ℕ → Type 0
IsDigest before digest = ((length digest ≡ 32) × AreBytes digest) × (bytes_eq (sha256 before) digest ≡ true)

trailer_reads : (before : List ℕ) → Reads (trailer_at before) (λ digest. digest) (IsDigest before)
trailer_reads before = item_reads (bytes_at 32) (λ digest. digest) (λ digest. (length digest ≡ 32) × AreBytes digest) (bytes_eq (sha256 before)) (bytes_reads 32)

same_bytes : (xs : List ℕ) → bytes_eq xs xs ≡ true
same_bytes xs = (bytes_eq-Decides xs xs).1 refl

trailer_again : (before : List ℕ) → trailer_at before (sha256 before) ≡ Ok (sha256 before, [])
trailer_again before =
    ap (trailer_at before) (sym (append-nil (sha256 before))) ∙ (trailer_reads before).again (sha256 before) [] ((digest_long before, digest_small before), same_bytes (sha256 before))

front_is : (bytes spelled rest : List ℕ) → bytes ≡ spelled ++ rest → take (length bytes - length rest) bytes ≡ spelled
front_is bytes spelled rest e =
    subst (λ (bs : List ℕ). take (length bs - length rest) bs ≡ spelled) (sym e) (take_at spelled rest (length (spelled ++ rest) - length rest) (omega (arith, length-append spelled rest)))

-- ---- the backup

pub backup_takes : (bytes : List ℕ) (arrays : List PiecesArray) → AreBytes bytes → backup_in bytes ≡ Ok arrays → AreArrays arrays × (bytes ≡ signed (spell_arrays arrays))
unfolding backup_in
backup_takes bytes arrays small e =
    let a = bind_ok (arrays_at bytes) (λ arrays. trailer_at (take (length bytes - length arrays.1) bytes) arrays.1 >>= λ trailer. cond (eqb (length trailer.1) 0) (Ok arrays.0) (Err (length trailer.1))) arrays e in
    let front = take (length bytes - length a.0.1) bytes in
    let b = bind_ok (trailer_at front a.0.1) (λ trailer. cond (eqb (length trailer.1) 0) (Ok a.0.0) (Err (length trailer.1))) arrays a.2 in
    let g = test_ok (eqb (length b.0.1) 0) (length b.0.1) a.0.0 arrays b.2 in
    let t = arrays_reads.takes bytes a.0.0 a.0.1 small a.1 in
    let t' = (trailer_reads front).takes a.0.1 b.0.0 b.0.1 t.0.after b.1 in
    let nothing : b.0.1 ≡ [] = nil_from_length b.0.1 (eqb-true _ _ g.0) in
    let is : sha256 front ≡ b.0.0 = (bytes_eq-Decides (sha256 front) b.0.0).0 t'.1.1 in
    let spelled : front ≡ spell_arrays a.0.0 = front_is bytes (spell_arrays a.0.0) a.0.1 t.0.joined in
    let digest : a.0.1 ≡ sha256 (spell_arrays a.0.0) = t'.0.joined ∙ ap (λ (r : List ℕ). b.0.0 ++ r) nothing ∙ append-nil b.0.0 ∙ sym is ∙ ap sha256 spelled in
    let parts : bytes ≡ signed (spell_arrays a.0.0) = t.0.joined ∙ ap (λ (r : List ℕ). spell_arrays a.0.0 ++ r) digest in
    subst (λ (found : List PiecesArray). AreArrays found × (bytes ≡ signed (spell_arrays found))) g.1 (t.1, parts)

pub backup_again : (arrays : List PiecesArray) → AreArrays arrays → backup_in (signed (spell_arrays arrays)) ≡ Ok arrays
unfolding backup_in
backup_again arrays good =
    let spelled = spell_arrays arrays in
    rw (arrays_reads.again arrays (sha256 spelled) good, front_is (spelled ++ sha256 spelled) spelled (sha256 spelled) refl, trailer_again spelled) refl

pub read_is_spelled : ReadIsSpelled
read_is_spelled bytes arrays small e = backup_takes bytes arrays small e

pub spelled_is_read : SpelledIsRead
spelled_is_read arrays good = backup_again arrays good
