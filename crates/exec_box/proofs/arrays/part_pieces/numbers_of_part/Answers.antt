use Rattle.std.proofs.Common.{ap, ◌∙◌, subst}
use Rattle.cell_values.specs.declared.schema.Bounds.{Bounds}
use Rattle.array_rows.specs.Boxes.{bounds_of, is_inside, meet}
use Rattle.exec_box.specs.Inner.Reached.{AreReached, chunks_from}
use Rattle.exec_box.proofs.ReachLaws.{sorted_reached}
use Rattle.exec_box.proofs.arrays.part_pieces.numbers_of_part.Goals as goal

pub returns-clause-reached : goal.returns-clause-reached
returns-clause-reached c =
    let dims = c.args.array.now.schema.dimensions in
    let target = c.args.schema.now.dimensions in
    let whole = meet (bounds_of dims) c.args.area.now in
    let box = c.meet-area.ensures ∙ ap (λ (b : Bounds). meet b c.args.area.now) c.bounds.ensures in
    sorted_reached dims target (is_inside whole) (chunks_from dims whole.lo.items) c.args.array.now.chunks c.in_ok-found.found c.in_order.result
    (subst (λ (b : Bounds). AreReached dims target (is_inside b) (chunks_from dims b.lo.items) c.args.array.now.chunks c.in_ok-found.found) box c.in_ok-found.ensures)
    c.in_order.ensures.listed
