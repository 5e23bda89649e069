use Rattle.std.proofs.Common.{◌++◌, slice_index_or, ap, ◌∙◌}
use Rattle.afl_lexer.specs.Spelling.{escaped}
use Rattle.afl_trees.proofs.PrintedParts.{flat_more}
use Rattle.afl_trees.proofs.printer.write_text.Goals as goal

pub loop-byte-preserved : goal.loop-byte-preserved
loop-byte-preserved c =
    let content = c.args.content.now in
    let byte = escaped (slice_index_or content c.loop-byte.byte-index 0) in
    c.in_ok-write_escaped.ensures ∙ ap (λ l. l ++ byte) c.loop-byte.invariant ∙ flat_more escaped c.push.new.self content c.loop-byte.byte-index 0 c.loop-byte-test.true
