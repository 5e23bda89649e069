-- What stands at the front of some bytes, counted from the first one on.
use Rattle.std.specs.Prelude.{ℕ, pos, ◌+◌, Bool, false, not, ◌&&◌, ◌||◌, ◌==◌, nat_lt, nat_le}
use Rattle.std.specs.Prelude.{if◌then◌else◌, Option, Some, None, List, [], ◌∷◌, length, take, codes}
use Rattle.std.specs.List.{prefix_len}
use Rattle.std.specs.Option.{option_map}
use Rattle.std.specs.Str.{bytes_eq}
use Rattle.std.specs.Str.Parse.{digits_value}
use Rattle.cell_values.specs.Naming.{is_digit, is_word_byte, is_first_byte}
use Rattle.afl_lexer.specs.declared.token.TokenKind.{TokenKind}
use Rattle.afl_lexer.specs.declared.token.TokenKind.TheVariants.{Name, Int, Text, Code, Word, Symbol}
use Rattle.afl_lexer.specs.declared.token.Word.{Word as AWord}
use Rattle.afl_lexer.specs.declared.token.Word.TheVariants.{And, Or, Not, Null, True, False, As, Create, Array}
use Rattle.afl_lexer.specs.declared.token.Symbol.{Symbol as ASymbol}
use Rattle.afl_lexer.specs.declared.token.Symbol.TheVariants.{LeftParen, RightParen, LeftBracket, RightBracket, Less}
use Rattle.afl_lexer.specs.declared.token.Symbol.TheVariants.{More, AtMost, AtLeast, Equal, Differs, NotEqual}
use Rattle.afl_lexer.specs.declared.token.Symbol.TheVariants.{Comma, Colon, Star, Plus, Minus, Slash, Percent, At}
use Rattle.afl_lexer.specs.declared.token.LexKind.TheVariants.{UnknownCharacter, OpenText, BadEscape, TextTooLong, NameTooLong, LiteralTooLarge}
use Rattle.afl_lexer.specs.declared.reading.Reading.{Reading}
use Rattle.afl_lexer.specs.declared.reading.Reading.TheVariants.{Found, Wrong}
use Rattle.afl_lexer.specs.Quoted.{items}
use Rattle.afl_lexer.specs.Tokens.{is_white}

abbrev pub is_in_line : ℕ → Bool
is_in_line b = not (b == 10)

-- the bytes of a comment, or a byte of white space
abbrev pub blank_len : List ℕ → ℕ
blank_len [] = 0
blank_len (b ∷ []) = if is_white b then 1 else 0
blank_len (b ∷ c ∷ rest) = if b == 45 && c == 45 then 2 + prefix_len is_in_line rest else if is_white b then 1 else 0

-- the bytes of a gap; in a comment, up to where the gap that goes on behind it ends
abbrev mutual
  pub gap_len : List ℕ → ℕ
  gap_len [] = 0
  gap_len (b ∷ []) = if is_white b then 1 else 0
  gap_len (b ∷ c ∷ rest) = if b == 45 && c == 45 then 2 + line_len rest else if is_white b then 1 + gap_len (c ∷ rest) else 0

  pub line_len : List ℕ → ℕ
  line_len [] = 0
  line_len (b ∷ rest) = if b == 10 then 1 + gap_len rest else 1 + line_len rest

-- the reserved word that the bytes are
abbrev pub word_of : List ℕ → Option AWord
word_of bytes = if bytes_eq bytes (codes "and") then Some And else if bytes_eq bytes (codes "or") then Some Or
    else if bytes_eq bytes (codes "not") then Some Not else if bytes_eq bytes (codes "null") then Some Null
    else if bytes_eq bytes (codes "true") then Some True else if bytes_eq bytes (codes "false") then Some False
    else if bytes_eq bytes (codes "as") then Some As else if bytes_eq bytes (codes "create") then Some Create
    else if bytes_eq bytes (codes "array") then Some Array else None

abbrev pub word_kind : Option AWord → TokenKind
word_kind None = Name
word_kind (Some word) = Word word

unfoldable pub word_reading : List ℕ → Reading
word_reading bytes = let n = prefix_len is_word_byte bytes in
    if nat_lt 64 n then Wrong NameTooLong 0 else Found (word_kind (word_of (take n bytes))) n

unfoldable pub number_reading : List ℕ → Reading
number_reading bytes = let n = prefix_len is_digit bytes in let value = digits_value 10 (take n bytes) in
    if nat_lt value 9223372036854775808 then Found (Int (pos value)) n else Wrong LiteralTooLarge 0

-- the bytes behind `?`
unfoldable pub code_reading : List ℕ → Reading
code_reading bytes = let n = prefix_len is_digit bytes in let value = digits_value 10 (take n bytes) in
    if n == 0 then Wrong UnknownCharacter 0 else if nat_le value 127 then Found (Code value) (n + 1) else Wrong LiteralTooLarge 0

abbrev pub further : ℕ → Option ℕ → Option ℕ
further n o = option_map (λ k. n + k) o

-- the bytes of the item at the front
abbrev pub item_len : List ℕ → ℕ
item_len [] = 0
item_len (b ∷ []) = 1
item_len (b ∷ c ∷ rest) = if b == 92 then 2 else 1

-- the bytes before the quote that closes a text
abbrev pub quote_at : List ℕ → Option ℕ
quote_at [] = None
quote_at (b ∷ []) = if b == 39 then Some 0 else None
quote_at (b ∷ c ∷ rest) = if b == 39 then Some 0 else if b == 92 then further 2 (quote_at rest) else further 1 (quote_at (c ∷ rest))

-- a `\` before another byte than `'` and `\` stands at the front
abbrev pub begins_badly : List ℕ → Bool
begins_badly [] = false
begins_badly (b ∷ []) = false
begins_badly (b ∷ c ∷ rest) = b == 92 && not (c == 39 || c == 92)

-- the bytes before the first `\` before another byte than `'` and `\`
abbrev pub escape_at : List ℕ → Option ℕ
escape_at [] = None
escape_at (b ∷ []) = None
escape_at (b ∷ c ∷ rest) = if b == 92 then (if c == 39 || c == 92 then further 2 (escape_at rest) else Some 0) else further 1 (escape_at (c ∷ rest))

abbrev pub escape_reading : ℕ → Option ℕ → Reading
escape_reading n None = Found Text (n + 2)
escape_reading n (Some at) = Wrong BadEscape (at + 1)

-- the bytes between two quotes
unfoldable pub content_reading : List ℕ → Reading
content_reading bytes = if nat_lt 65535 (length (items bytes)) then Wrong TextTooLong 0 else escape_reading (length bytes) (escape_at bytes)

-- the bytes behind a quote
abbrev pub closed_reading : List ℕ → Option ℕ → Reading
closed_reading bytes None = Wrong OpenText 0
closed_reading bytes (Some n) = content_reading (take n bytes)

unfoldable pub text_reading : List ℕ → Reading
text_reading bytes = closed_reading bytes (quote_at bytes)

abbrev pub double_symbol : ℕ → ℕ → Option ASymbol
double_symbol b c = if b == 60 && c == 61 then Some AtMost else if b == 62 && c == 61 then Some AtLeast
    else if b == 60 && c == 62 then Some Differs else if b == 33 && c == 61 then Some NotEqual else None

abbrev pub single_symbol : ℕ → Option ASymbol
single_symbol b = if b == 40 then Some LeftParen else if b == 41 then Some RightParen
    else if b == 91 then Some LeftBracket else if b == 93 then Some RightBracket
    else if b == 60 then Some Less else if b == 62 then Some More else if b == 61 then Some Equal else if b == 44 then Some Comma
    else if b == 58 then Some Colon else if b == 42 then Some Star else if b == 43 then Some Plus else if b == 45 then Some Minus
    else if b == 47 then Some Slash else if b == 37 then Some Percent else if b == 64 then Some At else None

abbrev pub single_reading : Option ASymbol → Reading
single_reading None = Wrong UnknownCharacter 0
single_reading (Some symbol) = Found (Symbol symbol) 1

abbrev pub double_reading : ℕ → Option ASymbol → Reading
double_reading b None = single_reading (single_symbol b)
double_reading b (Some symbol) = Found (Symbol symbol) 2

unfoldable pub symbol_reading : List ℕ → Reading
symbol_reading [] = Wrong UnknownCharacter 0
symbol_reading (b ∷ []) = single_reading (single_symbol b)
symbol_reading (b ∷ c ∷ rest) = double_reading b (double_symbol b c)

-- the token at the front, or what is wrong with it
unfoldable pub reading_of : List ℕ → Reading
reading_of [] = Wrong UnknownCharacter 0
reading_of (b ∷ rest) = if is_first_byte b then word_reading (b ∷ rest) else if is_digit b then number_reading (b ∷ rest)
    else if b == 63 then code_reading rest else if b == 39 then text_reading rest else symbol_reading (b ∷ rest)
