use Rattle.exec_cellwise.proofs.Picking.{made_of, part_of}
use Rattle.exec_cellwise.proofs.chunks.projecting.project_chunk.Goals as goal

pub returns-clause-made : goal.returns-clause-made
returns-clause-made c = λ dims margins placed. made_of c.args.kept.now dims margins c.args.chunk.now _ c.copy_numbers.ensures c.in_ok-copy.ensures c.in_ok-project_cells.ensures placed

pub returns-clause-part : goal.returns-clause-part
returns-clause-part c = λ dims margins rows part. part_of c.args.kept.now dims margins rows c.args.chunk.now _ c.copy_numbers.ensures c.in_ok-copy.ensures c.in_ok-project_cells.ensures part
