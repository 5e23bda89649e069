use Rattle.std.proofs.Common.{drop, sym}
use Rattle.group_rows.proofs.MergeLaws.{on_ok, head, same_place, left_moves, right_moves, cells_left, cells_right, left_fewer, ok_now, right_fewer}
use Rattle.group_rows.proofs.rows.merging.move_next.Goals as goal

pub move_both-requires-clause-same : goal.move_both-requires-clause-same
move_both-requires-clause-same c =
    let left = c.args.left.now.items in
    let right = c.args.right.now.items in
    same_place left right (drop 1 left) (drop 1 right) c.index.result.now c.index-2.result.now (head left c.index.result.now c.requires.left c.index.ensures) (head right c.index-2.result.now c.requires.right c.index-2.ensures) (sym c.in-Equal.ensures)

pub returns-in-Less-clause-moved : goal.returns-in-Less-clause-moved
returns-in-Less-clause-moved c =
    let left = c.args.left.now.items in
    let right = c.args.right.now.items in
    on_ok c.move_first.result c.move_first.ensures.merged
    (λ m. left_moves c.args.merged.now c.move_first.new.merged left c.move_first.new.groups.items right c.index.result.now c.index-2.result.now (drop 1 left) (drop 1 right) (head left c.index.result.now c.requires.left c.index.ensures) (head right c.index-2.result.now c.requires.right c.index-2.ensures) (sym c.in-Less.ensures) m c.move_first.ensures.left)

pub returns-in-Less-clause-cells : goal.returns-in-Less-clause-cells
returns-in-Less-clause-cells c =
    on_ok c.move_first.result c.move_first.ensures.merged
    (λ m. cells_left c.args.merged.now c.move_first.new.merged c.args.left.now.items c.move_first.new.groups.items c.args.right.now.items m c.move_first.ensures.left)

pub returns-in-Greater-clause-moved : goal.returns-in-Greater-clause-moved
returns-in-Greater-clause-moved c =
    let left = c.args.left.now.items in
    let right = c.args.right.now.items in
    on_ok c.move_first-in-Greater.result c.move_first-in-Greater.ensures.merged
    (λ m. right_moves c.args.merged.now c.move_first-in-Greater.new.merged left right c.move_first-in-Greater.new.groups.items c.index.result.now c.index-2.result.now (drop 1 left) (drop 1 right) (head left c.index.result.now c.requires.left c.index.ensures) (head right c.index-2.result.now c.requires.right c.index-2.ensures) (sym c.in-Greater.ensures) m c.move_first-in-Greater.ensures.left)

pub returns-in-Greater-clause-cells : goal.returns-in-Greater-clause-cells
returns-in-Greater-clause-cells c =
    on_ok c.move_first-in-Greater.result c.move_first-in-Greater.ensures.merged
    (λ m. cells_right c.args.merged.now c.move_first-in-Greater.new.merged c.args.left.now.items c.args.right.now.items c.move_first-in-Greater.new.groups.items m c.move_first-in-Greater.ensures.left)

pub returns-in-Greater-clause-fewer : goal.returns-in-Greater-clause-fewer
returns-in-Greater-clause-fewer c = ok_now c.move_first-in-Greater.result (right_fewer c.args.left.now.items c.args.right.now.items _ c.requires.right c.move_first-in-Greater.ensures.left)

pub returns-in-Less-clause-fewer : goal.returns-in-Less-clause-fewer
returns-in-Less-clause-fewer c = ok_now c.move_first.result (left_fewer c.args.left.now.items c.args.right.now.items _ c.requires.left c.move_first.ensures.left)
