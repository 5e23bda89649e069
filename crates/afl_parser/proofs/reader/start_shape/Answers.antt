use Rattle.std.proofs.Common.{◌<◌, length, sym, ap, subst, ◌∙◌}
use Rattle.std.proofs.lemmas.Bool.{lt-ltb}
use Rattle.afl_lexer.specs.Lexemes.{lexeme_of}
use Rattle.schema_grammar.specs.Inner.Reading.{shape_turn}
use Rattle.schema_grammar.specs.declared.state.ShapeState.TheVariants.{Start}
use Rattle.afl_parser.specs.Inner.Machine.{shallow, shaped}
use Rattle.afl_parser.specs.Inner.Reply.{Gives}
use Rattle.afl_parser.proofs.reader.start_shape.Goals as goal

pub returns-in-Ok : goal.returns-in-Ok
returns-in-Ok c =
    let less = lt-ltb (length c.args.stack) 128 (subst (λ n. n < 128) c.len.ensures c.if-len-lt-DEPTH.true) in
    subst (Gives c.continue_shape.result)
    (ap (shaped c.args.stack) c.in-Ok.ensures
    ∙ sym (ap (λ b. shallow b (shaped c.args.stack (shape_turn Start (lexeme_of c.args.text.now c.args.token)))) less))
    c.continue_shape.ensures
