use Rattle.std.proofs.Common.{drop, sym}
use Rattle.chunk_cells.proofs.RestLaws.{fewer_right}
use Rattle.chunk_cells.proofs.MergeLaws.{on_ok, head, left_moves, right_moves, right_goes}
use Rattle.chunk_cells.proofs.reading.merging.move_next.Goals as goal

pub returns-in-Less-clause-merged : goal.returns-in-Less-clause-merged
returns-in-Less-clause-merged c =
    let left = c.args.left.now.items in
    let right = c.args.right.now.items in
    on_ok c.move_first.result c.move_first.ensures.merged
    (λ m. left_moves c.args.merged.now c.move_first.new.merged left c.move_first.new.rows.items right c.index.result.now c.index-2.result.now (drop 1 left) (drop 1 right) (head left c.index.result.now c.requires.left c.index.ensures) (head right c.index-2.result.now c.requires.right c.index-2.ensures) (sym c.in-Less.ensures) m c.move_first.ensures.left)

pub returns-in-Greater-clause-merged : goal.returns-in-Greater-clause-merged
returns-in-Greater-clause-merged c =
    let left = c.args.left.now.items in
    let right = c.args.right.now.items in
    on_ok c.move_first-in-Greater.result c.move_first-in-Greater.ensures.merged
    (λ m. right_moves c.args.merged.now c.move_first-in-Greater.new.merged left right c.move_first-in-Greater.new.rows.items c.index.result.now c.index-2.result.now (drop 1 left) (drop 1 right) (head left c.index.result.now c.requires.left c.index.ensures) (head right c.index-2.result.now c.requires.right c.index-2.ensures) (sym c.in-Greater.ensures) m c.move_first-in-Greater.ensures.left)

pub returns-in-Equal-clause-merged : goal.returns-in-Equal-clause-merged
returns-in-Equal-clause-merged c =
    let left = c.args.left.now.items in
    let right = c.args.right.now.items in
    right_goes c.args.merged.now left right c.pop_front.new.self.items c.index.result.now c.index-2.result.now (drop 1 left) (drop 1 right) (head left c.index.result.now c.requires.left c.index.ensures) (head right c.index-2.result.now c.requires.right c.index-2.ensures) (sym c.in-Equal.ensures) c.pop_front.ensures.rest

pub returns-in-Equal-clause-fewer : goal.returns-in-Equal-clause-fewer
returns-in-Equal-clause-fewer c = fewer_right c.args.left.now.items c.args.right.now.items c.pop_front.new.self.items c.requires.right c.pop_front.ensures.rest
