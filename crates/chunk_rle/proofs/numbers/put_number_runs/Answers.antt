use Rattle.std.proofs.Common.{length, slice_index_or, refl, pos}
use Rattle.std.specs.Int.{w64, to_le_bytes}
use Rattle.file_items.proofs.Puts.{put_more_or}
use Rattle.chunk_rle.specs.Inner.Valued.{as_run}
use Rattle.chunk_rle.specs.Spelling.{spell_run}
use Rattle.chunk_rle.specs.declared.runs.NumberRun.{NumberRun}
use Rattle.chunk_rle.proofs.NumberRuns.{numbers_put}
use Rattle.chunk_rle.proofs.numbers.put_number_runs.Goals as goal

pub loop-run-preserved : goal.loop-run-preserved
loop-run-preserved c =
    let none : NumberRun = record { length = 0; number = pos 0 } in
    put_more_or (λ run. spell_run (as_run run)) c.args.out.now (to_le_bytes w64 (length c.args.runs.now)) c.loop-run.out c.put_number_run.new.out c.args.runs.now c.loop-run.run-index
    (slice_index_or c.args.runs.now c.loop-run.run-index none) none c.loop-run-test.true refl c.loop-run.invariant c.in_ok-put_number_run.ensures

pub returns : goal.returns
returns c = numbers_put c.args.out.now c.loop-run.out c.args.runs.now c.loop-run.run-index c.loop-run-test.false c.loop-run.invariant
