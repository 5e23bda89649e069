use Rattle.array_parts.proofs.HeldLemmas.{places_made}
use Rattle.exec_box.proofs.OperatorsMadeLaws.{made_and_held}
use Rattle.exec_box.proofs.operators.chunks.over_chunks.Goals as goal

pub with_cells-requires : goal.with_cells-requires
with_cells-requires g c = places_made (g.O.ChunkOperator.operator c.args.operator.now) c.args.schema.now c.args.margins.now.items c.args.chunks c.in_ok-made.made c.requires c.in_ok-made.ensures.each

pub returns : goal.returns
returns g c = made_and_held (g.O.ChunkOperator.operator c.args.operator.now) c.args.schema.now.dimensions c.args.margins.now.items c.args.chunks c.in_ok-made.made c.with_cells.result c.in_ok-made.ensures.each c.with_cells.ensures.exact
