use Rattle.std.proofs.Common.{sym, ap}
use Rattle.afl_lexer.specs.Lexemes.{a_symbol}
use Rattle.schema_grammar.specs.Inner.Reading.{attr_end}
use Rattle.schema_grammar.proofs.reader.end_attribute.Goals as goal

pub returns-in-Comma : goal.returns-in-Comma
returns-in-Comma c = sym (ap (λ s. attr_end c.args.attribute (a_symbol s)) c.in-Comma.is)

pub returns-in-More : goal.returns-in-More
returns-in-More c = sym (ap (λ s. attr_end c.args.attribute (a_symbol s)) c.in-More.is)
