use Rattle.std.proofs.Common.{sym, ap, ◌∙◌}
use Rattle.afl_lexer.specs.Lexemes.{bytes_of, what_of}
use Rattle.schema_grammar.specs.declared.state.ShapeState.TheVariants.{Start}
use Rattle.afl_parser.specs.Inner.Machine.{Go, title}
use Rattle.afl_parser.specs.declared.frame.Focus.TheVariants.{NewShape}
use Rattle.afl_parser.proofs.reader.title.Goals as goal

pub returns-in-Ok : goal.returns-in-Ok
returns-in-Ok c =
    ap (λ kind. title c.args.stack c.args.start (what_of kind (bytes_of c.args.text.now c.args.token.span))) c.in-Name.is
    ∙ ap (λ n. Go c.args.stack (NewShape c.args.start n Start)) (sym c.in-Ok.ensures)
