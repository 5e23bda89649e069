use Rattle.std.proofs.Common.{◌≡◌, ◌∷◌, [], rules, arith, ◌∙◌}
use Rattle.std.proofs.lemmas.Grind.{common_steps}
use Rattle.std.specs.Vec.Iter.{into_iter_items}
use Rattle.area_cells.proofs.FillLaws.{begun, one_more, next_inside, filled_chunk, filled_placed, all_filled}
use Rattle.area_cells.proofs.framing.chunk_of_rows.Goals as goal

pub loop-row-init : goal.loop-row-init
loop-row-init c =
    begun c.args.schema.now c.args.margins.now.items c.args.number.now c.grid_of-grid.result c.args.rows (into_iter_items c.into_iter-row-iterator.result) (record { at = c.copy_numbers.result; positions = c.another.result; cells = c.new.result })
    c.requires.framed c.grid_of-grid.ensures.low c.grid_of-grid.ensures.lengths c.requires.inside (c.into_iter-row-iterator.ensures.into_iter_gives.0 ∙ c.into_vec-row-items.ensures) c.copy_numbers.ensures c.another.ensures c.new.ensures

pub add_row-requires-clause-inside : goal.add_row-requires-clause-inside
add_row-requires-clause-inside c =
    let next : into_iter_items c.loop-row.row-iterator ≡ c.in-Some.row ∷ into_iter_items c.next.new.self = first_of (search rules, grind (arith, common_steps)) in
    next_inside c.grid_of-grid.result.low.items c.grid_of-grid.result.lengths.items c.args.number.now c.args.rows (into_iter_items c.loop-row.row-iterator) (into_iter_items c.next.new.self) c.in-Some.row c.loop-row.chunk next c.loop-row.invariant

pub loop-row-preserved : goal.loop-row-preserved
loop-row-preserved c =
    let next : into_iter_items c.loop-row.row-iterator ≡ c.in-Some.row ∷ into_iter_items c.next.new.self = first_of (search rules, grind (arith, common_steps)) in
    one_more c.grid_of-grid.result.low.items c.grid_of-grid.result.lengths.items c.args.number.now c.args.rows (into_iter_items c.loop-row.row-iterator) (into_iter_items c.next.new.self) c.in-Some.row c.loop-row.chunk c.add_row.new.chunk
    next c.in_ok-add_row.ensures.number c.in_ok-add_row.ensures.filled c.loop-row.invariant

pub returns-clause-placed : goal.returns-clause-placed
returns-clause-placed c =
    let none : into_iter_items c.loop-row.row-iterator ≡ [] = first_of (search rules, grind (arith, common_steps)) in
    filled_placed c.args.schema.now.dimensions c.args.margins.now.items c.grid_of-grid.result.low.items c.grid_of-grid.result.lengths.items c.loop-row.chunk c.args.rows c.grid_of-grid.ensures.lengths
    (all_filled c.grid_of-grid.result.low.items c.grid_of-grid.result.lengths.items c.args.number.now c.args.rows (into_iter_items c.loop-row.row-iterator) c.loop-row.chunk none c.loop-row.invariant)

pub returns-clause-rows : goal.returns-clause-rows
returns-clause-rows c =
    let none : into_iter_items c.loop-row.row-iterator ≡ [] = first_of (search rules, grind (arith, common_steps)) in
    filled_chunk c.args.schema.now.dimensions c.args.margins.now.items c.grid_of-grid.result.low.items c.grid_of-grid.result.lengths.items c.args.number.now c.loop-row.chunk c.args.rows c.grid_of-grid.ensures.low c.grid_of-grid.ensures.lengths c.loop-row.invariant.number_is
    (all_filled c.grid_of-grid.result.low.items c.grid_of-grid.result.lengths.items c.args.number.now c.args.rows (into_iter_items c.loop-row.row-iterator) c.loop-row.chunk none c.loop-row.invariant)
