use Rattle.std.proofs.Common.{sym, ap, ◌∙◌}
use Rattle.afl_lexer.specs.Lexemes.{bytes_of, what_of}
use Rattle.schema_grammar.specs.declared.state.AttrPlace.TheVariants.{First, Named}
use Rattle.schema_grammar.specs.declared.state.PartStep.TheVariants.{On}
use Rattle.schema_grammar.specs.Inner.Reading.{attr_step}
use Rattle.schema_grammar.proofs.reader.read_attribute_name.Goals as goal

pub returns-in_ok-label-in-Name : goal.returns-in_ok-label-in-Name
returns-in_ok-label-in-Name c =
    ap (λ label. On (Named label)) c.in_ok-label-in-Name.ensures
    ∙ sym (ap (λ kind. attr_step First c.args.token.span (what_of kind (bytes_of c.args.text.now c.args.token.span))) c.in-Name.is)
