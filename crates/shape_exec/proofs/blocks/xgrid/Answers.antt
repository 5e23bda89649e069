use Rattle.shape_exec.proofs.SpreadLaws.{enlarging}
use Rattle.shape_exec.proofs.blocks.xgrid.Goals as goal

pub of_whole-requires-clause-blocks : goal.of_whole-requires-clause-blocks
of_whole-requires-clause-blocks g c = λ κs lives. enlarging c.args.array.schema c.args.blocks.now (c.requires.cells c.requires.whole).placed.valid c.requires.blocks
