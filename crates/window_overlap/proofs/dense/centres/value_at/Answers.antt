use Rattle.std.proofs.Common.{◌∷◌, [], ℤ, Bool, true, List, length, refl, sym, ap, ◌∙◌, subst}
use Rattle.array_rows.specs.Boxes.{within}
use Rattle.array_geom.proofs.TestLaws.{and_parts}
use Rattle.area_cells.specs.Found.{found_rows}
use Rattle.logical_plan.specs.Groups.{window}
use Rattle.logical_plan.specs.Typing.{is_aggregate_of}
use Rattle.window_overlap.specs.Inner.Dense.{AreNumbers, corner_of}
use Rattle.window_overlap.proofs.ChunksWindowLaws.{can_within}
use Rattle.window_overlap.proofs.SpotLaws.{as_wide, seen_window, set_placed}
use Rattle.window_overlap.proofs.dense.centres.value_at.Goals as goal

pub state_of-state-requires-clause-present : goal.state_of-state-requires-clause-present
state_of-state-requires-clause-present c = ap (λ xs. length xs) c.as_slice.ensures ∙ c.requires.numbers.present_long

pub state_of-state-requires-clause-numbers : goal.state_of-state-requires-clause-numbers
state_of-state-requires-clause-numbers c = ap (λ xs. length xs) c.as_slice-2.ensures ∙ c.requires.numbers.numbers_long

pub state_of-state-requires-clause-inside : goal.state_of-state-requires-clause-inside
state_of-state-requires-clause-inside c = λ k h.
    (set_placed c.args.reach.now c.args.grid.now c.args.shape.now c.args.origin.now c.args.offsets.now c.args.area.now c.args.at.now.items c.args.base k c.requires.set c.requires.inside c.requires.base h).inside

pub returns : goal.returns
returns c =
    let g = c.args.agg.now in
    let at = c.args.at.now.items in
    let reach = c.args.reach.now in
    let rows = found_rows c.args.grid.now c.args.found.now in
    let s = c.requires.set in
    let there = within (window reach at) rows in
    let can = can_within (window reach at) (g ∷ []) rows there refl c.requires.typed in
    let numbers = subst (λ (ps : List Bool). AreNumbers c.args.grid.now rows g.attribute ps c.as_slice-2.result.now) (sym c.as_slice.ensures) (subst (λ (ns : List ℤ). AreNumbers c.args.grid.now rows g.attribute c.args.column.now.present ns) (sym c.as_slice-2.ensures) c.requires.numbers) in
    c.finish.ensures g can.attributes there
    (seen_window g c.args.shape.now reach at rows _ c.state_of-state.result s.window_is s.low s.lengths (s.each at c.requires.inside) s.offsets_are.long c.requires.rising
    (c.state_of-state.ensures.seen g (corner_of reach at) rows refl numbers (as_wide reach c.args.shape.now at s.low (s.each at c.requires.inside))
    (λ k h. (set_placed reach c.args.grid.now c.args.shape.now c.args.origin.now c.args.offsets.now c.args.area.now at c.args.base k s c.requires.inside c.requires.base h).same)))
    (and_parts (is_aggregate_of can.attributes g) true can.typed).0 can.cells
