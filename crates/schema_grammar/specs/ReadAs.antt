-- What a text is read as.
use Rattle.std.specs.Prelude.{◌≡◌, ℕ, None, List, length}
use Rattle.afl_lexer.specs.Schema.{Schema}
use Rattle.afl_lexer.specs.Tokens.{AreTokens}
use Rattle.afl_lexer.specs.declared.token.Token.{Token}
use Rattle.schema_grammar.specs.declared.shape_text.SchemaText.{SchemaText}
use Rattle.schema_grammar.specs.Outcome.{IsSchemaAt}
use Rattle.schema_grammar.specs.Rules.{first_broken, rules, schema_of}

-- The text's tokens, from the first to the last, spell a syntax tree that keeps all rules and means the schema.
pub record IsReadAs (text : List ℕ) (schema : Schema) : Type 0 where
  pub tokens : List Token
  pub of_text : AreTokens text tokens
  pub shape : SchemaText
  pub spelled : IsSchemaAt text tokens 0 shape (length tokens)
  pub hold : first_broken (rules shape) ≡ None
  pub meant : schema_of shape ≡ schema
