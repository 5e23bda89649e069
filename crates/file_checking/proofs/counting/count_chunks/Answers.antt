use Rattle.file_checking.proofs.Counts.{chunks_more}
use Rattle.file_checking.proofs.counting.count_chunks.Goals as goal

pub loop-row-preserved : goal.loop-row-preserved
loop-row-preserved c =
    chunks_more c.args.rows.now c.loop-row.row-index c.row-item.result c.as_slice.result.now c.loop-row.count c.add_chunks-count.result c.loop-row-test.true c.row-item.is c.as_slice.ensures c.loop-row.invariant c.add_chunks-count.ensures
