use Rattle.exec_cellwise.proofs.arrays.operators.ProjectChunkOperator.apply.Goals as goal

pub returns : goal.returns
returns c = c.project_chunk.ensures.made c.args._schema.now.dimensions c.args._margins.now.items c.requires.placed
