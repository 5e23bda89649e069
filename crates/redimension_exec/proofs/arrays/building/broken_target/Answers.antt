use Rattle.array_geom.proofs.MarginLaws.{overlap_each}
use Rattle.redimension_exec.proofs.arrays.building.broken_target.Goals as goal

pub broken_array-requires-clause-margins : goal.broken_array-requires-clause-margins
broken_array-requires-clause-margins c = overlap_each c.args.target.now c.margins_of.result.items c.margins_of.ensures
