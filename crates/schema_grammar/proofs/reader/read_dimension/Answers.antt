use Rattle.std.proofs.Common.{sym, ap, ◌∙◌}
use Rattle.afl_lexer.specs.Lexemes.{bytes_of, lexeme_of}
use Rattle.schema_grammar.specs.Inner.Reading.{dim_step}
use Rattle.schema_grammar.proofs.reader.read_dimension.Goals as goal

pub returns-in-Bounds : goal.returns-in-Bounds
returns-in-Bounds c =
    c.read_bound.ensures (bytes_of c.args.text.now c.args.token.span) ∙ sym (ap (λ p. dim_step p c.args.token.span (lexeme_of c.args.text.now c.args.token).what) c.in-Bounds.is)

pub returns-in-Numbers : goal.returns-in-Numbers
returns-in-Numbers c =
    c.read_number.ensures (bytes_of c.args.text.now c.args.token.span) ∙ sym (ap (λ p. dim_step p c.args.token.span (lexeme_of c.args.text.now c.args.token).what) c.in-Numbers.is)
