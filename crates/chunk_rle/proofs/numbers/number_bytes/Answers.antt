use Rattle.std.proofs.Common.{arith}
use Rattle.file_items.specs.Items.{spell_counted}
use Rattle.std.specs.Int.{w64}
use Rattle.chunk_rle.specs.Longest.{position_runs}
use Rattle.chunk_rle.specs.Spelling.{spell_position_run}
use Rattle.chunk_rle.proofs.NumberRuns.{all_put, column_put}
use Rattle.chunk_rle.proofs.numbers.number_bytes.Goals as goal

pub loop-k-preserved : goal.loop-k-preserved
loop-k-preserved c =
    column_put c.loop-k.k c.args.chunk.now.cells c.in-Some.numbers.now c.put_numbers.new.out c.loop-k.out (spell_counted w64 spell_position_run (position_runs c.args.chunk.now.positions)) c.in-Some.ensures c.in_ok-put_numbers-in-Some.ensures c.loop-k.invariant

pub returns : goal.returns
returns c = all_put c.args.attributes.now c.args.chunk.now c.loop-k.k c.loop-k.out (omega (arith, c.loop-k-test.false)) c.loop-k.invariant
