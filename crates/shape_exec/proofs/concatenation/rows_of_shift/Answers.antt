use Rattle.chunk_cells.proofs.MergeLaws.{if_ok}
use Rattle.shape_exec.specs.Inner.Added.{step_of}
use Rattle.shape_exec.proofs.ConcatParts.{follow_rows}
use Rattle.shape_exec.proofs.BuildLaws.{inside_taken}
use Rattle.shape_exec.proofs.concatenation.rows_of_shift.Goals as goal

pub map_rows-requires-clause-inside : goal.map_rows-requires-clause-inside
map_rows-requires-clause-inside c = inside_taken c.args.right.now c.args.by.now.right.now c.preimage-near.result c.in_ok-from.from c.requires.cells c.requires.right c.in_ok-from.ensures

pub returns : goal.returns
returns c =
    let by = c.args.by.now in
    if_ok c.keep_inside.result c.keep_inside.ensures
    (λ kept k. follow_rows (step_of by.left.now by.right.now) by.left.now by.right.now by.target.now c.requires.able c.args.right.now c.args.area.now c.preimage-near.result c.in_ok-from.from c.in_ok-moved.moved kept c.requires.cells c.requires.right c.preimage-near.ensures c.in_ok-from.ensures c.in_ok-moved.ensures k)
