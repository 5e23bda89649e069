-- How a script is cut into statements.
--
-- A `'` opens a text, which runs to the next `'` that no `\` escapes; a `\` takes the byte after it.
-- Outside texts `--` opens a comment, up to a line feed or the end. Outside both, `;` ends a piece.
-- A piece holds the bytes since the last such `;`, without its own; the last piece ends at the script's end.
-- A piece of more than 1,048,576 bytes is too long. Else one with only white space and comments is blank,
-- and is passed over. Every other piece is a statement, and so is one that is too long, without its bytes.
use Rattle.std.specs.Prelude.{ℕ, ◌+◌, ◌-◌, Bool, true, false, ◌==◌, ◌&&◌, ◌||◌, nat_lt, if◌then◌else◌}
use Rattle.std.specs.Prelude.{List, [], ◌∷◌, ◌++◌, length, take, map, filter, slice_index, Option, Some, None}
use Rattle.std.specs.List.{fold, zip, filter_map, list_all, range_with_len, slice_range}
pub use Rattle.afl_lexer.specs.Tokens.{is_white}
use Rattle.afl_lexer.specs.declared.splitter.Place.{Place}
use Rattle.afl_lexer.specs.declared.splitter.Place.TheVariants.{Outside, AfterDash, InText, AfterBackslash, InComment}

-- Places

-- the place after a byte that stands outside: `'` is 39, `-` is 45
abbrev pub place_after_outside : ℕ → Place
place_after_outside byte = if byte == 39 then InText else (if byte == 45 then AfterDash else Outside)

-- the place after a byte, from the place that it stands at: `\` is 92, the line feed 10
abbrev pub next_place : Place → ℕ → Place
next_place Outside byte = place_after_outside byte
next_place AfterDash byte = if byte == 45 then InComment else place_after_outside byte
next_place InText byte = if byte == 39 then Outside else (if byte == 92 then AfterBackslash else InText)
next_place AfterBackslash byte = InText
next_place InComment byte = if byte == 10 then Outside else InComment

-- the place after some bytes
abbrev pub place_after : List ℕ → Place
place_after bytes = fold next_place Outside bytes

-- neither in a text nor in a comment
abbrev pub is_outside : Place → Bool
is_outside Outside = true
is_outside AfterDash = true
is_outside _ = false

-- Pieces

-- bytes of a script, from `start` up to and without `end`
pub record Piece : Type 0 where
  pub start : ℕ
  pub end : ℕ
  pub bytes : List ℕ

abbrev pub piece_at : List ℕ → ℕ → ℕ → Piece
piece_at script start end = record { start = start; end = end; bytes = slice_range script start end }

-- this byte, which comes after these, ends a piece: it is a `;` (59), and stands outside
abbrev pub ends_piece : List ℕ → ℕ → Bool
ends_piece before byte = byte == 59 && is_outside (place_after before)

-- where the `;` that end pieces stand, in order
abbrev pub ends : List ℕ → List ℕ
ends script = filter (λ i. ends_piece (take i script) (slice_index script i)) (range_with_len 0 (length script))

-- where pieces start: at the script's start, and behind each of these `;`
abbrev pub starts : List ℕ → List ℕ
starts script = 0 ∷ map (λ end. end + 1) (ends script)

-- the pieces that a `;` ends
abbrev pub closed_pieces : List ℕ → List Piece
closed_pieces script = map (λ (start, end). piece_at script start end) (zip (starts script) (ends script))

-- all pieces
abbrev pub pieces : List ℕ → List Piece
pieces script = map (λ (start, end). piece_at script start end) (zip (starts script) (ends script ++ length script ∷ []))

-- the last piece, which no `;` ends: it starts behind the last `;` that ends a piece
abbrev pub last_piece : List ℕ → Piece
last_piece script = piece_at script (fold (λ _ end. end + 1) 0 (ends script)) (length script)

-- Blank pieces

-- a byte that stands at this place, before the byte `next`, is white space outside, or part of a comment:
-- one of the two dashes that open it, or a byte in it
abbrev pub is_passed_over : Place → ℕ → ℕ → Bool
is_passed_over Outside byte next = is_white byte || (byte == 45 && next == 45)
is_passed_over AfterDash byte next = is_white byte || byte == 45
is_passed_over InText byte next = false
is_passed_over AfterBackslash byte next = false
is_passed_over InComment byte next = true

-- the byte at i is such a byte
abbrev pub is_passed_over_at : List ℕ → ℕ → Bool
is_passed_over_at bytes i = is_passed_over (place_after (take i bytes)) (slice_index bytes i) (slice_index bytes (i + 1))

-- each byte is white space outside, or part of a comment
abbrev pub is_blank : List ℕ → Bool
is_blank bytes = list_all (is_passed_over_at bytes) (range_with_len 0 (length bytes))

-- Statements

-- a statement: where it starts and ends, and its bytes, or None where it is too long
pub record Statement : Type 0 where
  pub start : ℕ
  pub end : ℕ
  pub text : Option (List ℕ)

abbrev pub is_too_long : Piece → Bool
is_too_long piece = nat_lt 1048576 (piece.end - piece.start)

abbrev pub statement_of : Piece → Option Statement
statement_of piece =
    if is_too_long piece then Some (record { start = piece.start; end = piece.end; text = None })
    else (if is_blank piece.bytes then None
    else Some (record { start = piece.start; end = piece.end; text = Some piece.bytes }))

-- the statements of a script
abbrev pub statements : List ℕ → List Statement
statements script = filter_map statement_of (pieces script)

-- the statements that a `;` ends: all that there are where the rest of the script could not be read
abbrev pub closed_statements : List ℕ → List Statement
closed_statements script = filter_map statement_of (closed_pieces script)
