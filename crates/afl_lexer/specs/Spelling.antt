-- How what a token says is spelled, and what may stand behind a token.
use Rattle.std.specs.Prelude.{◌≡◌, ℕ, pos, negsuc, ◌^◌, ◌<◌, ◌≤◌, Bool, false, ◌||◌, ◌==◌, if◌then◌else◌, ⊤, List, [], ◌∷◌, ◌++◌, length, map}
use Rattle.std.specs.Fmt.{decimal, signed_decimal}
use Rattle.std.specs.List.{flat_map}
use Rattle.cell_values.specs.Naming.{IsName, is_digit, is_word_byte}
use Rattle.afl_lexer.specs.declared.token.Token.{Token}
use Rattle.afl_lexer.specs.declared.token.TokenKind.{TokenKind}
use Rattle.afl_lexer.specs.declared.token.TokenKind.TheVariants.{Name, Int, Text, Code, Word, Symbol}
use Rattle.afl_lexer.specs.declared.token.Symbol.{Symbol as ASymbol}
use Rattle.afl_lexer.specs.declared.token.Symbol.TheVariants.{LeftParen, RightParen, LeftBracket, RightBracket, Less}
use Rattle.afl_lexer.specs.declared.token.Symbol.TheVariants.{More, AtMost, AtLeast, Equal, Differs, NotEqual}
use Rattle.afl_lexer.specs.declared.token.Symbol.TheVariants.{Comma, Colon, Star, Plus, Minus, Slash, Percent, At}
use Rattle.afl_lexer.specs.Lexemes.{Lexeme, a_name, a_number, a_text, a_code, a_word, a_symbol, lexeme_of}
use Rattle.afl_lexer.specs.Tokens.{word_bytes, symbol_bytes, AreTokens}

abbrev pub escaped : ℕ → List ℕ
escaped b = if b == 39 || b == 92 then 92 ∷ b ∷ [] else b ∷ []

-- a content in quotes, with a `\` before each `'` and each `\`
abbrev pub quoted_text : List ℕ → List ℕ
quoted_text content = 39 ∷ flat_map escaped content ++ 39 ∷ []

-- numbers without leading zeros
abbrev pub spelling_of : Lexeme → List ℕ
spelling_of (a_name bytes) = bytes
spelling_of (a_number n) = signed_decimal n
spelling_of (a_text content) = quoted_text content
spelling_of (a_code n) = 63 ∷ decimal n
spelling_of (a_word word) = word_bytes word
spelling_of (a_symbol symbol) = symbol_bytes symbol

abbrev pub kind_of : Lexeme → TokenKind
kind_of (a_name bytes) = Name
kind_of (a_number n) = Int n
kind_of (a_text content) = Text
kind_of (a_code n) = Code n
kind_of (a_word word) = Word word
kind_of (a_symbol symbol) = Symbol symbol

-- some token says it
abbrev pub IsLexeme : Lexeme → Type 0
IsLexeme (a_name bytes) = IsName bytes
IsLexeme (a_number (pos n)) = n < 2 ^ 63
IsLexeme (a_number (negsuc n)) = ⊥
IsLexeme (a_text content) = length content ≤ 65535
IsLexeme (a_code n) = n ≤ 127
IsLexeme (a_word word) = ⊤
IsLexeme (a_symbol symbol) = ⊤

-- `<` goes on to `<=` and `<>`, `>` to `>=`, and `-` to a comment
abbrev pub lengthens_symbol : ASymbol → ℕ → Bool
lengthens_symbol Less b = b == 61 || b == 62
lengthens_symbol More b = b == 61
lengthens_symbol Minus b = b == 45
lengthens_symbol LeftParen b = false
lengthens_symbol RightParen b = false
lengthens_symbol LeftBracket b = false
lengthens_symbol RightBracket b = false
lengthens_symbol AtMost b = false
lengthens_symbol AtLeast b = false
lengthens_symbol Equal b = false
lengthens_symbol Differs b = false
lengthens_symbol NotEqual b = false
lengthens_symbol Comma b = false
lengthens_symbol Colon b = false
lengthens_symbol Star b = false
lengthens_symbol Plus b = false
lengthens_symbol Slash b = false
lengthens_symbol Percent b = false
lengthens_symbol At b = false

-- whether the byte behind a token of the kind makes it longer, or a comment of it
abbrev pub lengthens : TokenKind → ℕ → Bool
lengthens Name b = is_word_byte b
lengthens (Word word) b = is_word_byte b
lengthens (Int n) b = is_digit b
lengthens (Code n) b = is_digit b
lengthens Text b = false
lengthens (Symbol symbol) b = lengthens_symbol symbol b

-- a token of the kind ends before these bytes
abbrev pub EndsBefore : TokenKind → List ℕ → Type 0
EndsBefore kind [] = ⊤
EndsBefore kind (b ∷ rest) = lengthens kind b ≡ false

-- what a printer writes one after the other
pub data Mark : Type 0 where
  a_space : Mark
  says : Lexeme → Mark

abbrev pub spelled : List Mark → List ℕ
spelled [] = []
spelled (a_space ∷ marks) = 32 ∷ spelled marks
spelled (says lexeme ∷ marks) = spelling_of lexeme ++ spelled marks

abbrev pub said : List Mark → List Lexeme
said [] = []
said (a_space ∷ marks) = said marks
said (says lexeme ∷ marks) = lexeme ∷ said marks

-- no lexeme is lengthened by what stands behind it
abbrev pub AreApart : List Mark → Type 0
AreApart [] = ⊤
AreApart (a_space ∷ marks) = AreApart marks
AreApart (says lexeme ∷ marks) = IsLexeme lexeme × EndsBefore (kind_of lexeme) (spelled marks) × AreApart marks

-- what the tokens of a text say
abbrev pub lexemes : List ℕ → List Token → List Lexeme
lexemes text tokens = map (λ (token : Token). (lexeme_of text token).what) tokens

-- marks that are apart are read as what they say
abbrev pub AreReadAgain : Type 0
AreReadAgain = (marks : List Mark) → AreApart marks → (tokens : List Token) × AreTokens (spelled marks) tokens × (lexemes (spelled marks) tokens ≡ said marks)
