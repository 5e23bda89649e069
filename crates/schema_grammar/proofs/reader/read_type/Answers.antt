use Rattle.std.proofs.Common.{sym, ap, ◌∙◌}
use Rattle.afl_lexer.specs.Lexemes.{bytes_of, what_of}
use Rattle.schema_grammar.specs.declared.state.AttrPlace.TheVariants.{Typed, Worded}
use Rattle.schema_grammar.specs.declared.state.PartStep.TheVariants.{On}
use Rattle.schema_grammar.specs.Inner.Reading.{attribute, attr_step}
use Rattle.schema_grammar.proofs.reader.read_type.Goals as goal

pub returns-in-Ok : goal.returns-in-Ok
returns-in-Ok c =
    ap (λ a. On (Worded a)) (c.with_word-attribute.ensures ∙ ap (λ word. attribute c.args.label word c.args.token.span) c.in-Ok.ensures)
    ∙ sym (ap (λ kind. attr_step (Typed c.args.label) c.args.token.span (what_of kind (bytes_of c.args.text.now c.args.token.span))) c.in-Name.is)
