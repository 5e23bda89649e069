-- Where tokens spell a schema, and where they stop to be the front of one.
use Rattle.std.specs.Prelude.{◌≡◌, ℕ, ◌+◌, ◌≤◌, ◌<◌, Result, Ok, Err, List, [], ◌++◌, map, length, drop, slice_range}
use Rattle.afl_lexer.specs.Span.{Span}
use Rattle.afl_lexer.specs.Lexemes.{Placed, lexeme_of}
use Rattle.afl_lexer.specs.declared.token.Token.{Token}
use Rattle.schema_grammar.specs.declared.shape_text.SchemaText.{SchemaText}
use Rattle.schema_grammar.specs.declared.shapes.ShapeFault.{ShapeFault}
use Rattle.schema_grammar.specs.declared.shapes.ShapeFault.TheVariants as fault
use Rattle.schema_grammar.specs.Spelling.{SpellsSchema}

-- what the tokens of a text say, and where
abbrev pub lexemes : List ℕ → List Token → List Placed
lexemes text tokens = map (lexeme_of text) tokens

-- The tokens from one place on spell the schema, and the one at the other place is the first behind it.
pub record IsSchemaAt (text : List ℕ) (tokens : List Token) (from : ℕ) (schema : SchemaText) (next : ℕ) : Type 0 where
  pub within : next ≤ length tokens
  pub span : Span
  pub spelled : SpellsSchema schema span (lexemes text (drop from tokens)) (lexemes text (drop next tokens))

-- The tokens can be continued to a schema. What they are continued by may be what no token says, as an empty name:
-- where one name can stand, so can each other.
abbrev pub IsFront : List Placed → Type 0
IsFront xs = (more : List Placed) × (schema : SchemaText) × (span : Span) × SpellsSchema schema span (xs ++ more) []

-- The tokens from one place up to the other, without it, can be continued to a schema and are no whole one,
-- and with the token at that place they can't.
pub record StopsAt (text : List ℕ) (tokens : List Token) (from at : ℕ) : Type 0 where
  pub behind : from ≤ at
  pub within : at ≤ length tokens
  pub front : IsFront (lexemes text (slice_range tokens from at))
  pub part : (schema : SchemaText) (span : Span) → SpellsSchema schema span (lexemes text (slice_range tokens from at)) [] → ⊥
  pub stop : at < length tokens → IsFront (lexemes text (slice_range tokens from (at + 1))) → ⊥

-- a fault says where the tokens stop
abbrev pub IsStop : List ℕ → List Token → ℕ → ShapeFault → Type 0
IsStop text tokens from (fault.Unexpected at) = StopsAt text tokens from at
IsStop text tokens from fault.Memory = Unit {0}

-- the answer is this schema and this place behind it, unless memory ran out
abbrev pub AnswersSchema : Result (SchemaText × ℕ) ShapeFault → SchemaText → ℕ → Type 0
AnswersSchema (Ok answer) schema next = (answer.0 ≡ schema) × (answer.1 ≡ next)
AnswersSchema (Err (fault.Unexpected at)) schema next = ⊥
AnswersSchema (Err fault.Memory) schema next = Unit {0}

-- the answer is this place, unless memory ran out
abbrev pub AnswersStop : Result (SchemaText × ℕ) ShapeFault → ℕ → Type 0
AnswersStop (Ok answer) at = ⊥
AnswersStop (Err (fault.Unexpected place)) at = place ≡ at
AnswersStop (Err fault.Memory) at = Unit {0}
