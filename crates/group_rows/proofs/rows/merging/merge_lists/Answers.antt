use Rattle.std.proofs.Common.{◌+◌, [], List, sym, ap, ◌∙◌, subst, arith}
use Rattle.group_rows.specs.declared.rows.groups.Group.{Group}
use Rattle.group_rows.specs.Counts.{cells_in}
use Rattle.group_rows.specs.Grouped.{AreInOrder}
use Rattle.group_rows.specs.Inner.Merged.{AreMerged}
use Rattle.group_rows.proofs.MergeLaws.{at_end, further_moved, not_moved, cells_at_end}
use Rattle.group_rows.proofs.rows.merging.merge_lists.Goals as goal

pub merging-init : goal.merging-init
merging-init c = record {
  moved = not_moved c.another-merged.result c.from_vec-left.result.items c.from_vec-right.result.items c.another-merged.ensures;
  cells = let e = ap cells_in c.another-merged.ensures in omega (arith, e);
}

pub merging-preserved : goal.merging-preserved
merging-preserved c = record {
  moved = further_moved [] c.merging.merged c.move_next.new.merged c.from_vec-left.result.items c.merging.left.items c.move_next.new.left.items c.from_vec-right.result.items c.merging.right.items c.move_next.new.right.items c.merging.invariant.moved c.in_ok-move_next.ensures.moved;
  cells = omega (arith, c.merging.invariant.cells, c.in_ok-move_next.ensures.cells);
}

pub returns-clause-merged : goal.returns-clause-merged
returns-clause-merged c = λ rl rr.
    let right = c.from_vec-right.result.items in
    let from_left = c.from_vec-left.ensures.items ∙ c.into_vec.ensures in
    let from_right = c.from_vec-right.ensures.items ∙ c.into_vec-2.ensures in
    let moved = c.merging.invariant.moved (subst AreInOrder (sym from_left) rl) (subst AreInOrder (sym from_right) rr) in
    subst (λ (zs : List Group). AreMerged zs c.args.right c.move_all-2.new.merged) from_left
    (subst (λ (zs : List Group). AreMerged c.from_vec-left.result.items zs c.move_all-2.new.merged) from_right
    (at_end c.both_have.result c.merging.merged c.merging.left.items c.merging.right.items c.from_vec-left.result.items right c.move_all.new.merged c.move_all-2.new.merged c.merging-test.false c.both_have.ensures moved c.in_ok-move_all.ensures c.in_ok-move_all-2.ensures))

pub returns-clause-cells : goal.returns-clause-cells
returns-clause-cells c =
    let from_left = ap cells_in (c.from_vec-left.ensures.items ∙ c.into_vec.ensures) in
    let from_right = ap cells_in (c.from_vec-right.ensures.items ∙ c.into_vec-2.ensures) in
    cells_at_end c.merging.merged c.merging.left.items c.merging.right.items c.move_all.new.merged c.move_all-2.new.merged (cells_in c.args.left + cells_in c.args.right) c.in_ok-move_all.ensures c.in_ok-move_all-2.ensures
    (omega (arith, from_left, from_right, c.merging.invariant.cells))

pub move_next-requires-clause-left : goal.move_next-requires-clause-left
move_next-requires-clause-left c = (c.both_have.ensures.0 c.merging-test.true).0

pub move_next-requires-clause-right : goal.move_next-requires-clause-right
move_next-requires-clause-right c = (c.both_have.ensures.0 c.merging-test.true).1

pub move_next-requires-clause-room : goal.move_next-requires-clause-room
move_next-requires-clause-room c =
    let from_left = ap cells_in (c.from_vec-left.ensures.items ∙ c.into_vec.ensures) in
    let from_right = ap cells_in (c.from_vec-right.ensures.items ∙ c.into_vec-2.ensures) in
    omega (arith, from_left, from_right, c.merging.invariant.cells, c.requires.room)
