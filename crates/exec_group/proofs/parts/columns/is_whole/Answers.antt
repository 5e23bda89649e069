use Rattle.std.proofs.Common.{◌≡◌, ℤ, ◌-◌, ◌<◌, true, List, sym, ◌∙◌, subst, arith}
use Rattle.array_rows.specs.Boxes.{is_between, is_inside}
use Rattle.array_geom.specs.Geometry.{volume}
use Rattle.array_geom.proofs.PlaceLaws.{some}
use Rattle.array_geom.proofs.TestLaws.{and_parts}
use Rattle.exec_group.proofs.CornerLaws.{has_all}
use Rattle.exec_group.proofs.parts.columns.is_whole.Goals as goal

pub overflow_sub-count : goal.overflow_sub-count
overflow_sub-count c =
    let positive : 0 < volume c.args.grid.now.lengths.items = some c.args.grid.now.lengths.items c.requires.lengths in
    omega (arith, positive, c.volume-count.ensures)

pub place-last-requires-clause-inside : goal.place-last-requires-clause-inside
place-last-requires-clause-inside c =
    let positive : 0 < volume c.args.grid.now.lengths.items = some c.args.grid.now.lengths.items c.requires.lengths in
    omega (arith, positive, c.volume-count.ensures)

pub returns : goal.returns
returns c = λ h p k.
    let low = c.args.grid.now.low.items in
    let lengths = c.args.grid.now.lengths.items in
    let area = c.args.area.now in
    let positive : 0 < volume lengths = some lengths c.requires.lengths in
    let both = and_parts (is_inside area low) (is_inside area c.place-last.result.items) (sym c.holds_both.ensures ∙ h) in
    has_all low lengths area.lo.items area.hi.items (c.volume-count.result - 1) p c.requires.lengths c.requires.each (omega (arith, positive, c.volume-count.ensures)) both.0
    (subst (λ (at : List ℤ). is_between area.lo.items area.hi.items at ≡ true) c.place-last.ensures both.1) k
