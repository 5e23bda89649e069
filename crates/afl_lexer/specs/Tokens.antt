-- The tokens of a text, and where a text stops to have any.
use Rattle.std.specs.Prelude.{◌≡◌, ◌≢◌, ◌⊎◌, ℕ, pos, ◌+◌, ◌^◌, ◌<◌, ◌≤◌, Bool, false, not, ◌&&◌, ◌||◌, ◌==◌}
use Rattle.std.specs.Prelude.{IsTrue, ⊤, Some, List, [], ◌∷◌, ◌++◌, length, drop, slice_range, slice_get, codes}
use Rattle.std.specs.List.{list_all, concat}
use Rattle.std.specs.Str.Parse.{digits_value}
use Rattle.cell_values.specs.Naming.{is_digit, is_word_byte, begins_well, IsName}
use Rattle.afl_lexer.specs.declared.token.Token.{Token}
use Rattle.afl_lexer.specs.declared.token.TokenKind.{TokenKind}
use Rattle.afl_lexer.specs.declared.token.TokenKind.TheVariants.{Name, Int, Text, Code, Word, Symbol}
use Rattle.afl_lexer.specs.declared.token.Word.{Word as AWord}
use Rattle.afl_lexer.specs.declared.token.Word.TheVariants.{And, Or, Not, Null, True, False, As, Create, Array}
use Rattle.afl_lexer.specs.declared.token.Symbol.{Symbol as ASymbol}
use Rattle.afl_lexer.specs.declared.token.Symbol.TheVariants.{LeftParen, RightParen, LeftBracket, RightBracket, Less}
use Rattle.afl_lexer.specs.declared.token.Symbol.TheVariants.{More, AtMost, AtLeast, Equal, Differs, NotEqual}
use Rattle.afl_lexer.specs.declared.token.Symbol.TheVariants.{Comma, Colon, Star, Plus, Minus, Slash, Percent, At}
use Rattle.afl_lexer.specs.declared.token.LexKind.{LexKind}
use Rattle.afl_lexer.specs.declared.token.LexKind.TheVariants.{UnknownCharacter, OpenText, BadEscape, TextTooLong, NameTooLong, LiteralTooLarge}
use Rattle.afl_lexer.specs.Quoted.{items_of, is_known, IsText}
use Rattle.afl_lexer.specs.Lexemes.{bytes_of}

-- tab, line feed, carriage return and space
abbrev pub is_white : ℕ → Bool
is_white b = b == 9 || b == 10 || b == 13 || b == 32

-- a byte of white space, or a comment: `--` and then bytes other than a line feed
abbrev pub is_gap_piece : List ℕ → Bool
is_gap_piece [] = false
is_gap_piece (b ∷ []) = is_white b
is_gap_piece (b ∷ c ∷ rest) = b == 45 && c == 45 && list_all (λ x. not (x == 10)) rest

-- white space and comments
abbrev pub IsGap : List ℕ → Type 0
IsGap bytes = (pieces : List (List ℕ)) × IsTrue (list_all is_gap_piece pieces) × (bytes ≡ concat pieces)

-- a letter or `_`, then letters, digits and `_`
abbrev pub is_word : List ℕ → Bool
is_word bytes = begins_well bytes && list_all is_word_byte bytes

-- digits, at least one
abbrev pub is_number : List ℕ → Bool
is_number [] = false
is_number (b ∷ rest) = list_all is_digit (b ∷ rest)

-- `?` and digits
abbrev pub is_code : List ℕ → Bool
is_code [] = false
is_code (b ∷ rest) = b == 63 && is_number rest

abbrev pub word_bytes : AWord → List ℕ
word_bytes And = codes "and"
word_bytes Or = codes "or"
word_bytes Not = codes "not"
word_bytes Null = codes "null"
word_bytes True = codes "true"
word_bytes False = codes "false"
word_bytes As = codes "as"
word_bytes Create = codes "create"
word_bytes Array = codes "array"

abbrev pub symbol_bytes : ASymbol → List ℕ
symbol_bytes LeftParen = codes "("
symbol_bytes RightParen = codes ")"
symbol_bytes LeftBracket = codes "["
symbol_bytes RightBracket = codes "]"
symbol_bytes Less = codes "<"
symbol_bytes More = codes ">"
symbol_bytes AtMost = codes "<="
symbol_bytes AtLeast = codes ">="
symbol_bytes Equal = codes "="
symbol_bytes Differs = codes "<>"
symbol_bytes NotEqual = codes "!="
symbol_bytes Comma = codes ","
symbol_bytes Colon = codes ":"
symbol_bytes Star = codes "*"
symbol_bytes Plus = codes "+"
symbol_bytes Minus = codes "-"
symbol_bytes Slash = codes "/"
symbol_bytes Percent = codes "%"
symbol_bytes At = codes "@"

-- The bytes have the form of a token, whatever their number or value.
pub data IsForm (bytes : List ℕ) : Type 0 where
  word_form : IsTrue (is_word bytes) → IsForm bytes
  number_form : IsTrue (is_number bytes) → IsForm bytes
  code_form : IsTrue (is_code bytes) → IsForm bytes
  text_form : IsText bytes → IsForm bytes
  symbol_form : (symbol : ASymbol) → bytes ≡ symbol_bytes symbol → IsForm bytes

-- The bytes are a token of the kind, within the limits.
abbrev pub IsSpelled : TokenKind → List ℕ → Type 0
IsSpelled Name bytes = IsName bytes
IsSpelled (Int n) bytes = IsTrue (is_number bytes) × (n ≡ pos (digits_value 10 bytes)) × (digits_value 10 bytes < 2 ^ 63)
IsSpelled Text bytes = IsText bytes × IsTrue (list_all is_known (items_of bytes)) × (length (items_of bytes) ≤ 65535)
IsSpelled (Code n) bytes = IsTrue (is_code bytes) × (n ≡ digits_value 10 (drop 1 bytes)) × (n ≤ 127)
IsSpelled (Word word) bytes = bytes ≡ word_bytes word
IsSpelled (Symbol symbol) bytes = bytes ≡ symbol_bytes symbol

-- The token lies in the text, and its bytes there are of its kind.
pub record IsTokenOf (text : List ℕ) (token : Token) : Type 0 where
  pub rises : token.span.start < token.span.end
  pub within : token.span.end ≤ length text
  pub spelled : IsSpelled token.kind (bytes_of text token.span)

-- The bytes from one place to the other are so, and no more bytes from there are.
pub record IsLongest (P : List ℕ → Type 0) (text : List ℕ) (from to : ℕ) : Type 0 where
  pub rises : from ≤ to
  pub within : to ≤ length text
  pub fits : P (slice_range text from to)
  pub longest : (further : ℕ) → to < further → further ≤ length text → P (slice_range text from further) → ⊥

-- The token begins at the place, and is as long as it can be.
pub record BeginsAt (text : List ℕ) (at : ℕ) (token : Token) : Type 0 where
  pub start : token.span.start ≡ at
  pub form : IsLongest IsForm text token.span.start token.span.end
  pub is_token : IsTokenOf text token

-- From one place to the other the text has these tokens, each behind a gap. Gaps are as long as they can be, and so are tokens.
abbrev pub Reaches : List ℕ → ℕ → List Token → ℕ → Type 0
Reaches text from [] to = from ≡ to
Reaches text from (token ∷ tokens) to = IsLongest IsGap text from token.span.start
    × IsLongest IsForm text token.span.start token.span.end × IsTokenOf text token × Reaches text token.span.end tokens to

-- The text is gap, token, gap, .., token, gap, with these tokens.
pub record AreTokens (text : List ℕ) (tokens : List Token) : Type 0 where
  pub end : ℕ
  pub reached : Reaches text 0 tokens end
  pub last_gap : IsLongest IsGap text end (length text)

-- No token begins before the one before it has ended, and none before the place.
abbrev pub AreRising : ℕ → List Token → Type 0
AreRising from [] = ⊤
AreRising from (token ∷ tokens) = (from ≤ token.span.start) × AreRising token.span.end tokens

-- No bytes from the place on have a form, and there is a byte.
pub record HasNoForm (text : List ℕ) (start : ℕ) : Type 0 where
  pub within : start < length text
  pub none : (end : ℕ) → end ≤ length text → IsForm (slice_range text start end) → ⊥

-- at this place the bytes have their first `\` before another byte than `'` and `\`
pub record IsBadEscape (bytes : List ℕ) (at : ℕ) : Type 0 where
  pub before : List (List ℕ)
  pub item : List ℕ
  pub after : List (List ℕ)
  pub parts : items_of bytes ≡ before ++ item ∷ after
  pub known : IsTrue (list_all is_known before)
  pub bad : is_known item ≡ false
  pub place : at ≡ 1 + length (concat before)

-- The bytes have a form, and break a rule that it has besides, at a place among them.
abbrev pub IsWrong : LexKind → List ℕ → ℕ → Type 0
IsWrong NameTooLong bytes at = (at ≡ 0) × IsTrue (is_word bytes) × (64 < length bytes)
IsWrong LiteralTooLarge bytes at = (at ≡ 0)
    × ((IsTrue (is_number bytes) × (2 ^ 63 ≤ digits_value 10 bytes)) ⊎ (IsTrue (is_code bytes) × (127 < digits_value 10 (drop 1 bytes))))
IsWrong TextTooLong bytes at = (at ≡ 0) × IsText bytes × (65535 < length (items_of bytes))
IsWrong BadEscape bytes at = IsText bytes × (length (items_of bytes) ≤ 65535) × IsBadEscape bytes at
IsWrong OpenText bytes at = ⊥
IsWrong UnknownCharacter bytes at = ⊥

-- What stands from the first place on is no token, for this reason and at this place.
abbrev pub FailsAt : List ℕ → ℕ → ℕ → LexKind → Type 0
FailsAt text start at UnknownCharacter = (at ≡ start) × HasNoForm text start × (slice_get text start ≢ Some 39)
FailsAt text start at OpenText = (at ≡ start) × HasNoForm text start × (slice_get text start ≡ Some 39)
FailsAt text start at kind = (end : ℕ) × (further : ℕ) × (at ≡ start + further)
    × IsLongest IsForm text start end × IsWrong kind (slice_range text start end) further

-- The text begins with gaps and tokens, and what stands behind them is no token, for this reason and at this place.
pub record LexStops (text : List ℕ) (at : ℕ) (kind : LexKind) : Type 0 where
  pub tokens : List Token
  pub end : ℕ
  pub start : ℕ
  pub reached : Reaches text 0 tokens end
  pub last_gap : IsLongest IsGap text end start
  pub fault : FailsAt text start at kind
