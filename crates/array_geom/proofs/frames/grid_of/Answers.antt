use Rattle.array_geom.proofs.NearLemmas.{grid_made}
use Rattle.array_geom.proofs.frames.grid_of.Goals as goal

pub returns-clause-grid : goal.returns-clause-grid
returns-clause-grid c = grid_made c.args.schema.now c.args.margins.now.items c.args.chunk.now.items (record { low = c.low_corner-low.result; lengths = c.lengths_of-lengths.result }) c.requires c.low_corner-low.ensures c.lengths_of-lengths.ensures
