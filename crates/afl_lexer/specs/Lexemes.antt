-- What a token says: its kind with its bytes or its number.
use Rattle.std.specs.Prelude.{ℕ, ℤ, List, slice_range}
use Rattle.cell_values.specs.declared.name.Span.{Span}
use Rattle.afl_lexer.specs.declared.token.Token.{Token}
use Rattle.afl_lexer.specs.declared.token.TokenKind.{TokenKind}
use Rattle.afl_lexer.specs.declared.token.TokenKind.TheVariants.{Name, Int, Text, Code, Word, Symbol}
use Rattle.afl_lexer.specs.declared.token.Word.{Word as AWord}
use Rattle.afl_lexer.specs.declared.token.Symbol.{Symbol as ASymbol}
use Rattle.afl_lexer.specs.Quoted.{content_of}

-- a name by its bytes, a number or a code by its value, a text by its content
pub data Lexeme : Type 0 where
  a_name : List ℕ → Lexeme
  a_number : ℤ → Lexeme
  a_text : List ℕ → Lexeme
  a_code : ℕ → Lexeme
  a_word : AWord → Lexeme
  a_symbol : ASymbol → Lexeme

-- a lexeme and its place
pub record Placed : Type 0 where
  pub what : Lexeme
  pub span : Span

-- the bytes of the text within a span
abbrev pub bytes_of : List ℕ → Span → List ℕ
bytes_of text span = slice_range text span.start span.end

-- what a token of this kind with these bytes says
abbrev pub what_of : TokenKind → List ℕ → Lexeme
what_of Name bytes = a_name bytes
what_of (Int n) bytes = a_number n
what_of Text bytes = a_text (content_of bytes)
what_of (Code n) bytes = a_code n
what_of (Word w) bytes = a_word w
what_of (Symbol s) bytes = a_symbol s

-- a token of the text, with what its bytes say
abbrev pub lexeme_of : List ℕ → Token → Placed
lexeme_of text token = record { what = what_of token.kind (bytes_of text token.span); span = token.span }
