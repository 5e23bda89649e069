use Rattle.std.proofs.Common.{◌<◌, length, sym, ap, subst, if◌then◌else◌}
use Rattle.std.proofs.lemmas.Bool.{lt-ltb}
use Rattle.afl_lexer.specs.Quoted.{items}
use Rattle.afl_lexer.specs.Scan.{content_reading, escape_at, escape_reading}
use Rattle.afl_lexer.specs.declared.reading.Reading.TheVariants.{Wrong}
use Rattle.afl_lexer.specs.declared.token.LexKind.TheVariants.{TextTooLong}
use Rattle.afl_lexer.proofs.quoted.read_content.Goals as goal

pub returns-then-content_len-gt65535 : goal.returns-then-content_len-gt65535
unfolding content_reading
returns-then-content_len-gt65535 c =
    let bytes = c.args.bytes.now in
    let long = lt-ltb 65535 (length (items bytes)) (subst (λ n. 65535 < n) c.content_len.ensures.len c.if-content_len-gt65535.true) in
    sym (ap (λ b. if b then Wrong TextTooLong 0 else escape_reading (length bytes) (escape_at bytes)) long)
