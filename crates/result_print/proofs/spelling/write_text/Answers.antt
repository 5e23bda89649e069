use Rattle.std.proofs.Common.{slice_index_or, refl}
use Rattle.afl_lexer.specs.Spelling.{escaped}
use Rattle.result_print.proofs.Joined.{flat_after}
use Rattle.result_print.proofs.spelling.write_text.Goals as goal

pub loop-byte-preserved : goal.loop-byte-preserved
loop-byte-preserved c =
    let content = c.args.content.now in
    flat_after escaped content c.loop-byte.byte-index (slice_index_or content c.loop-byte.byte-index 0) 0 c.push.new.self c.loop-byte.out
    c.write_escaped.new.out c.loop-byte-test.true refl c.loop-byte.invariant c.in_ok-write_escaped.ensures
