use Rattle.std.proofs.Common.{[], List, sym, ap, ◌∙◌, subst}
use Rattle.cell_values.specs.declared.datum.Row.{Row}
use Rattle.array_rows.specs.Rows.{IsRising, put_all}
use Rattle.chunk_cells.proofs.MergeLaws.{at_end, begun, more_merged}
use Rattle.chunk_cells.proofs.reading.merging.interleave.Goals as goal

pub merging-init : goal.merging-init
merging-init c = begun c.in_ok-merged.merged c.from_vec-left.result.items c.from_vec-right.result.items c.in_ok-merged.ensures

pub merging-preserved : goal.merging-preserved
merging-preserved c = more_merged [] c.merging.merged c.move_next.new.merged c.from_vec-left.result.items c.merging.left.items c.move_next.new.left.items c.from_vec-right.result.items c.merging.right.items c.move_next.new.right.items c.merging.invariant c.in_ok-move_next.ensures.merged

pub returns : goal.returns
returns c = λ rl rr.
    let right = c.from_vec-right.result.items in
    let from_left = c.from_vec-left.ensures.items ∙ c.into_vec.ensures in
    let from_right = c.from_vec-right.ensures.items ∙ c.into_vec-2.ensures in
    let merged = c.merging.invariant (subst IsRising (sym from_left) rl) (subst IsRising (sym from_right) rr) in
    at_end c.both_have.result c.merging.merged c.merging.left.items c.merging.right.items (put_all c.args.left c.args.right) c.move_all.new.merged c.move_all-2.new.merged c.merging-test.false c.both_have.ensures merged.left_rises
    (merged.same ∙ ap (λ (zs : List Row). put_all zs right) from_left ∙ ap (put_all c.args.left) from_right)
    c.in_ok-move_all.ensures c.in_ok-move_all-2.ensures

pub move_next-requires-clause-left : goal.move_next-requires-clause-left
move_next-requires-clause-left c = (c.both_have.ensures.0 c.merging-test.true).0

pub move_next-requires-clause-right : goal.move_next-requires-clause-right
move_next-requires-clause-right c = (c.both_have.ensures.0 c.merging-test.true).1
