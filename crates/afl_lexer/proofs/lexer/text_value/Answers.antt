use Rattle.std.proofs.Common.{◌≡◌, ℕ, List, map, subst, sym}
use Rattle.std.specs.Prelude.{IfOk}
use Rattle.afl_lexer.specs.declared.token.TokenKind.{TokenKind}
use Rattle.afl_lexer.specs.Lexemes.{bytes_of}
use Rattle.afl_lexer.specs.Quoted.{items, byte_of}
use Rattle.afl_lexer.specs.Tokens.{IsSpelled}
use Rattle.afl_lexer.proofs.Texts.{inside_text}
use Rattle.afl_lexer.proofs.lexer.text_value.Goals as goal

pub returns : goal.returns
returns c =
    let text = c.args.text.now in
    let span = c.args.token.now.span in
    let piece = bytes_of text span in
    let spelled = subst (λ (kind : TokenKind). IsSpelled kind piece) c.requires.kind c.requires.of_text.spelled in
    subst (λ (inner : List ℕ). IfOk c.content.result (λ bytes. bytes ≡ map byte_of (items inner))) (sym (inside_text text span.start span.end c.requires.of_text.within spelled.0)) c.content.ensures
