-- Statements as texts: which tree a text derives, and where a text stops to be the front of a statement.
use Rattle.std.specs.Prelude.{◌≡◌, ◌⊎◌, ℕ, List, [], ◌∷◌, length, drop, map}
use Rattle.afl_lexer.specs.declared.token.Token.{Token}
use Rattle.afl_lexer.specs.declared.token.LexKind.{LexKind}
use Rattle.afl_lexer.specs.declared.token.LexKind.TheVariants as lex
use Rattle.afl_lexer.specs.Lexemes.{lexeme_of, Placed}
use Rattle.afl_lexer.specs.Tokens.{AreTokens, LexStops}
use Rattle.afl_trees.specs.Term.{Term}
use Rattle.afl_trees.specs.Grammar.{IsStatement, Stops}
use Rattle.afl_trees.specs.declared.kind.StopKind.{StopKind}
use Rattle.afl_trees.specs.declared.kind.StopKind.TheVariants as stop
use Rattle.afl_trees.specs.declared.kind.ParseKind.{ParseKind}
use Rattle.afl_trees.specs.declared.kind.ParseKind.TheVariants.{UnknownCharacter, OpenText, BadEscape, TextTooLong}
use Rattle.afl_trees.specs.declared.kind.ParseKind.TheVariants.{NameTooLong, LiteralTooLarge, Unexpected, TooDeep}

-- the tokens with what their bytes say
abbrev pub lexemes : List ℕ → List Token → List Placed
lexemes text tokens = map (lexeme_of text) tokens

-- the text's tokens are a statement of a depth of at most 128, and this is its tree
pub record DerivesText (text : List ℕ) (t : Term) : Type 0 where
  pub tokens : List Token
  pub cut : AreTokens text tokens
  pub statement : IsStatement 128 (lexemes text tokens) t

abbrev pub lexical : LexKind → ParseKind
lexical lex.UnknownCharacter = UnknownCharacter
lexical lex.OpenText = OpenText
lexical lex.BadEscape = BadEscape
lexical lex.TextTooLong = TextTooLong
lexical lex.NameTooLong = NameTooLong
lexical lex.LiteralTooLarge = LiteralTooLarge

abbrev pub syntactic : StopKind → ParseKind
syntactic stop.Unexpected = Unexpected
syntactic stop.TooDeep = TooDeep

-- where the first of these tokens starts, or the text's length where there is none
abbrev pub start_of : List ℕ → List Token → ℕ
start_of text [] = length text
start_of text (token ∷ tokens) = token.span.start

-- at the place the text stops to have tokens
pub record StopsInToken (text : List ℕ) (at : ℕ) (kind : ParseKind) : Type 0 where
  pub lex_kind : LexKind
  pub stop : LexStops text at lex_kind
  pub same_kind : kind ≡ lexical lex_kind

-- the text has tokens, and these stop to be the front of a statement of a depth of at most 128 at the token that starts at the place, or at the text's end
pub record StopsAtToken (text : List ℕ) (at : ℕ) (kind : ParseKind) : Type 0 where
  pub tokens : List Token
  pub cut : AreTokens text tokens
  pub index : ℕ
  pub stop_kind : StopKind
  pub stop : Stops 128 (lexemes text tokens) index stop_kind
  pub same_place : at ≡ start_of text (drop index tokens)
  pub same_kind : kind ≡ syntactic stop_kind

-- where the text stops to be the front of a statement, and why
abbrev pub StopsText : List ℕ → ℕ → ParseKind → Type 0
StopsText text at kind = StopsInToken text at kind ⊎ StopsAtToken text at kind
