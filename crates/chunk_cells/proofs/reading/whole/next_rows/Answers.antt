use Rattle.std.specs.Vec.Iter.{into_iter_items}
use Rattle.chunk_cells.proofs.MergeLaws.{if_ok, one_part}
use Rattle.chunk_cells.proofs.reading.whole.next_rows.Goals as goal

pub returns-in-Some-clause-rows : goal.returns-in-Some-clause-rows
returns-in-Some-clause-rows c = λ rise.
    if_ok c.core_cells.result c.core_cells.ensures
    (λ rows own. one_part c.args.schema.now c.args.margins.now.items c.in-Some.chunk (into_iter_items c.args.chunks.now) (into_iter_items c.next.new.self) rows c.in-Some.ensures.items rise own)
