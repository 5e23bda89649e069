-- Laws of literals.
use Rattle.std.specs.Prelude.{◌≡◌, ◌↔◌, ℕ, Bool, List, [], Some, None}
use Rattle.cell_values.specs.declared.datum.Datum.{Datum}
use Rattle.cell_values.specs.declared.schema.Attribute.{Attribute}
use Rattle.cell_values.specs.declared.schema.Dimension.{Dimension}
use Rattle.afl_lexer.specs.Tokens.{AreTokens, LexStops}
use Rattle.afl_lexer.specs.declared.token.LexKind.{LexKind}
use Rattle.afl_lexer.specs.declared.token.Token.{Token}
use Rattle.check_rules.specs.Inner.Lexed.{tokens_of}
use Rattle.check_rules.specs.Inner.Reader.{begun, read_marks, elements_of}
use Rattle.check_rules.specs.LiteralRows.{literal_rows, AreSpelled}
use Rattle.check_rules.specs.Literals.{SpellsLiteral, SpellsElementsOf}
use Rattle.check_rules.specs.declared.literals.literal.Mark.{Mark}
use Rattle.check_rules.specs.declared.literals.literal.Place.TheVariants.{Start}

-- what is read as a literal is what spells it
abbrev pub LiteralsAreRead : Type 0
LiteralsAreRead = (bare : Bool) (marks : List Mark) (elements : List (List Datum))
    → (read_marks bare marks (begun [] Start) ≡ Some elements) ↔ SpellsLiteral bare elements marks

-- the tokens of a text are those that the lexical grammar gives it, and none where the text stops to have any
abbrev pub LiteralTokens : Type 0
LiteralTokens = (text : List ℕ) → ((tokens : List Token) → AreTokens text tokens → tokens_of text ≡ Some tokens)
    × ((at : ℕ) (kind : LexKind) → LexStops text at kind → tokens_of text ≡ None)

-- the elements that are read of a text are those that it spells, and none are where it spells none
abbrev pub TextsAreRead : Type 0
TextsAreRead = (bare : Bool) (text : List ℕ) (elements : List (List Datum)) → (elements_of bare text ≡ Some elements) ↔ SpellsElementsOf bare text elements

-- so are the rows
abbrev pub RowsAreRead : Type 0
RowsAreRead = (attributes : List Attribute) (d : Dimension) (text : List ℕ) → AreSpelled attributes d text (literal_rows attributes d text)
