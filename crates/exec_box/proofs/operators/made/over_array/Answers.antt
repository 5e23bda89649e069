use Rattle.exec_box.proofs.OperatorsMadeLaws.{made_whole}
use Rattle.exec_box.proofs.operators.made.over_array.Goals as goal

pub returns : goal.returns
returns g c =
    made_whole (g.O.ChunkOperator.operator c.args.operator.now) c.args.schema c.args.array c.in_ok-chunks.chunks c.requires.cells c.requires.valid c.requires.dimensions c.requires.local c.requires.whole c.in_ok-chunks.ensures
