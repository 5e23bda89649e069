use Rattle.array_parts.specs.Cores.{cores_of}
use Rattle.shape_exec.proofs.PullParts.{pulled_part}
use Rattle.shape_exec.proofs.mapped_arrays.mapped_chunk.Goals as goal

pub returns : goal.returns
returns g c =
    pulled_part c.args.schema.now (g.M.CellMap.target c.args.map.now) c.args.margins.now.items (g.M.CellMap.back c.args.map.now) (cores_of c.args.array.now) c.in_ok-rows.rows c.args.number.now c.frame-target.result c.in_ok-made.made
    c.requires.target c.requires.framed c.frame-target.ensures c.in_ok-rows.ensures.rows c.in_ok-made.ensures.number c.in_ok-made.ensures.placed c.in_ok-made.ensures.rows
