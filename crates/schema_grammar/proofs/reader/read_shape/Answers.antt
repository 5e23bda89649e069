use Rattle.std.proofs.Common.{sym, ap, ◌∙◌}
use Rattle.afl_lexer.specs.Lexemes.{bytes_of, lexeme_of}
use Rattle.schema_grammar.specs.Inner.Reading.{shape_turn}
use Rattle.schema_grammar.proofs.reader.read_shape.Goals as goal

pub returns-in-Start : goal.returns-in-Start
returns-in-Start c =
    c.open_attributes.ensures (bytes_of c.args.text.now c.args.token.span) ∙ sym (ap (λ s. shape_turn s (lexeme_of c.args.text.now c.args.token)) c.in-Start.is)

pub returns-in-Between : goal.returns-in-Between
returns-in-Between c =
    c.open_dimensions.ensures (bytes_of c.args.text.now c.args.token.span) ∙ sym (ap (λ s. shape_turn s (lexeme_of c.args.text.now c.args.token)) c.in-Between.is)
