use Rattle.chunk_cells.proofs.RestLaws.{one_longer}
use Rattle.chunk_cells.proofs.reading.whole.first_numbers.Goals as goal

pub loop-chunk-preserved : goal.loop-chunk-preserved
loop-chunk-preserved c = one_longer c.loop-chunk.first c.push.new.self c.first_number.result c.loop-chunk.chunk-index c.in_ok-push.ensures.ok c.loop-chunk.invariant
