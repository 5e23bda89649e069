use Rattle.shape_exec.proofs.PullParts.{sorted_reached}
use Rattle.shape_exec.proofs.chunk_numbers.numbers_reached.Goals as goal

pub returns-clause-reached : goal.returns-clause-reached
returns-clause-reached g c =
    sorted_reached (g.M.CellMap.target c.args.map.now) (g.M.CellMap.back c.args.map.now) c.args.array.now.schema.dimensions c.args.array.now.margins.items c.args.array.now.chunks c.in_ok-found.found c.in_order.result c.in_ok-found.ensures c.in_order.ensures.listed
