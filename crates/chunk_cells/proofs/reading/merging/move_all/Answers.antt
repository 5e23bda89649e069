use Rattle.chunk_cells.proofs.RestLaws.{moved_more}
use Rattle.chunk_cells.proofs.reading.merging.move_all.Goals as goal

pub loop-row-preserved : goal.loop-row-preserved
loop-row-preserved c = moved_more c.loop-row.merged c.push.new.self c.in-Some.row c.loop-row.rows.items c.pop_front.new.self.items _ c.in_ok-push.ensures.ok c.in-Some.ensures.items c.loop-row.invariant
