use Rattle.chunk_cells.proofs.SortedLaws.{cores_in_order}
use Rattle.chunk_cells.proofs.assembly.numbers.cores_of.Goals as goal

pub returns : goal.returns
returns c = cores_in_order c.args.schema.now.dimensions c.args.rows.now c.in_ok-numbers_of.field-0 c.in_order.result c.in_ok-numbers_of.ensures c.in_order.ensures.in_order c.in_order.ensures.listed
