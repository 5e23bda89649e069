-- Literals: the elements of an array of one dimension, as a text spells them.
--     literal := [ ] | [ element { , element } ]
--     element := ( ) | ( value { , value } ) | value          the last one only with one attribute
--     value := [ - ] number | text | true | false | null | code
-- An element without a value leaves its place empty.
use Rattle.std.specs.Prelude.{◌≡◌, ◌≤◌, ◌⊎◌, ℕ, ℤ, Bool, true, false, IsTrue, List, [], ◌∷◌, length, map}
use Rattle.cell_values.specs.Table.{negation, null_of_code}
use Rattle.cell_values.specs.declared.datum.Datum.{Datum}
use Rattle.cell_values.specs.declared.datum.Datum.TheVariants.{Null, Int, Text, Truth}
use Rattle.afl_lexer.specs.Lexemes.{Lexeme, a_number, a_text, a_code, a_word, a_symbol, lexeme_of}
use Rattle.afl_lexer.specs.Tokens.{AreTokens}
use Rattle.afl_lexer.specs.declared.token.Token.{Token}
use Rattle.afl_lexer.specs.declared.token.Word.TheVariants.{Null as NullWord, True, False}
use Rattle.afl_lexer.specs.declared.token.Symbol.TheVariants.{LeftParen, RightParen, LeftBracket, RightBracket, Comma, Minus}
use Rattle.check_rules.specs.declared.literals.literal.Mark.{Mark}
use Rattle.check_rules.specs.declared.literals.literal.Mark.TheVariants.{Value, Symbol, Other}

-- Marks

-- what a token is in a literal: a value without its sign, a symbol, or nothing that stands there
abbrev pub mark_of : Lexeme → Mark
mark_of (a_number n) = Value (Int n)
mark_of (a_text s) = Value (Text s)
mark_of (a_code n) = Value (null_of_code n)
mark_of (a_word NullWord) = Value Null
mark_of (a_word True) = Value (Truth true)
mark_of (a_word False) = Value (Truth false)
mark_of (a_symbol s) = Symbol s
mark_of _ = Other

-- what tokens of a text say
abbrev pub whats : List ℕ → List Token → List Lexeme
whats text tokens = map (λ token. (lexeme_of text token).what) tokens

-- The grammar: the marks xs are those of the thing, and then zs.

abbrev pub SpellsValue : Datum → List Mark → List Mark → Type 0
SpellsValue v xs zs = (xs ≡ Value v ∷ zs) ⊎ ((n : ℤ) × (v ≡ negation (Int n)) × (xs ≡ Symbol Minus ∷ Value (Int n) ∷ zs))

-- a value and further ones, and the bracket behind them
abbrev pub SpellsValues : Datum → List Datum → List Mark → List Mark → Type 0
SpellsValues v [] xs zs = SpellsValue v xs (Symbol RightParen ∷ zs)
SpellsValues v (w ∷ ws) xs zs = (ys : List Mark) × SpellsValue v xs (Symbol Comma ∷ ys) × SpellsValues w ws ys zs

abbrev pub SpellsElement : Bool → List Datum → List Mark → List Mark → Type 0
SpellsElement bare [] xs zs = xs ≡ Symbol LeftParen ∷ Symbol RightParen ∷ zs
SpellsElement bare (v ∷ vs) xs zs =
    ((ys : List Mark) × (xs ≡ Symbol LeftParen ∷ ys) × SpellsValues v vs ys zs)
    ⊎ (IsTrue bare × (vs ≡ []) × SpellsValue v xs zs)

-- an element and further ones, and the bracket that ends the literal
abbrev pub SpellsElements : Bool → List Datum → List (List Datum) → List Mark → Type 0
SpellsElements bare e [] xs = SpellsElement bare e xs (Symbol RightBracket ∷ [])
SpellsElements bare e (f ∷ fs) xs = (ys : List Mark) × SpellsElement bare e xs (Symbol Comma ∷ ys) × SpellsElements bare f fs ys

abbrev pub SpellsLiteral : Bool → List (List Datum) → List Mark → Type 0
SpellsLiteral bare [] xs = xs ≡ Symbol LeftBracket ∷ Symbol RightBracket ∷ []
SpellsLiteral bare (e ∷ es) xs = (ys : List Mark) × (xs ≡ Symbol LeftBracket ∷ ys) × SpellsElements bare e es ys

-- A text spells elements where the marks of its tokens do. No text of a statement has more bytes.
pub record SpellsElementsOf (bare : Bool) (text : List ℕ) (elements : List (List Datum)) : Type 0 where
  pub few : length text ≤ 65535
  pub tokens : List Token
  pub are_tokens : AreTokens text tokens
  pub marks : SpellsLiteral bare elements (map mark_of (whats text tokens))
