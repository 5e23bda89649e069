use Rattle.std.specs.declared.cmp.Ordering.TheVariants.{Less, Equal, Greater}
use Rattle.std.proofs.lemmas.Cmp.{ranked}
use Rattle.area_cells.proofs.FoundLaws.{found_at}
use Rattle.shape_exec.proofs.MergedCells.{put_left, put_neither, put_right}
use Rattle.shape_exec.proofs.found_chunks.put_next.Goals as goal

pub push_found-requires : goal.push_found-requires
push_found-requires c = found_at c.args.grid.now c.args.left.now c.args.at_left c.index-left-at_left.result c.requires.left c.requires.in_left c.index-left-at_left.is

pub push_found-requires-in-Greater : goal.push_found-requires-in-Greater
push_found-requires-in-Greater c = found_at c.args.grid.now c.args.right.now c.args.at_right c.index-right-at_right.result c.requires.right c.requires.in_right c.index-right-at_right.is

pub returns-in_ok-push_found-in-Less-clause-made : goal.returns-in_ok-push_found-in-Less-clause-made
returns-in_ok-push_found-in-Less-clause-made c =
    put_left c.args.grid.now c.args.left.now c.args.right.now c.args.chunk.now c.push_found.new.chunk c.args.at_left c.args.at_right c.index-left-at_left.result c.index-right-at_right.result c.requires.grid c.requires.left c.requires.right
    c.requires.in_left c.requires.in_right c.index-left-at_left.is c.index-right-at_right.is (ranked _ _ Less c.in-Less.ensures) c.in_ok-push_found-in-Less.ensures.filled

pub returns-in_ok-push_found-in-Greater-clause-made : goal.returns-in_ok-push_found-in-Greater-clause-made
returns-in_ok-push_found-in-Greater-clause-made c =
    put_right c.args.grid.now c.args.left.now c.args.right.now c.args.chunk.now c.push_found-in-Greater.new.chunk c.args.at_left c.args.at_right c.index-left-at_left.result c.index-right-at_right.result c.requires.grid c.requires.left c.requires.right
    c.requires.in_left c.requires.in_right c.index-left-at_left.is c.index-right-at_right.is (ranked _ _ Greater c.in-Greater.ensures) c.in_ok-push_found-in-Greater.ensures.filled

pub returns-in-Equal-clause-made : goal.returns-in-Equal-clause-made
returns-in-Equal-clause-made c =
    put_neither c.args.grid.now c.args.left.now c.args.right.now c.args.chunk.now c.args.chunk.now c.args.at_left c.args.at_right c.index-left-at_left.result c.index-right-at_right.result c.requires.grid c.requires.left c.requires.right
    c.requires.in_left c.requires.in_right c.index-left-at_left.is c.index-right-at_right.is (ranked _ _ Equal c.in-Equal.ensures)
