use Rattle.std.proofs.Common.{◌≡◌, true, List, sym, subst}
use Rattle.std.specs.List.{AllByRecursion}
use Rattle.cell_values.specs.declared.datum.Row.{Row}
use Rattle.array_rows.specs.Boxes.{bounds_of, is_inside}
use Rattle.chunk_cells.proofs.MergeLaws.{on_ok}
use Rattle.logical_plan.specs.Shapes.{blocks_back}
use Rattle.shape_exec.specs.Inner.Spread.{AddsRows}
use Rattle.shape_exec.proofs.SpreadLaws.{place_added}
use Rattle.shape_exec.proofs.blocks.BlocksCellMap.push_numbers.Goals as goal

pub push_row_numbers-requires-clause-inside : goal.push_row_numbers-requires-clause-inside
push_row_numbers-requires-clause-inside c =
    subst (AllByRecursion (λ (row : Row). is_inside (bounds_of c.args.self.now.schema.now.dimensions) row.at.items ≡ true)) (sym c.as_slice.ensures) c.in_ok-rows.ensures.inside

pub returns : goal.returns
returns c =
    let map = c.args.self.now in
    let target = map.schema.now.dimensions in
    on_ok c.push_row_numbers.result c.push_row_numbers.ensures
    (λ adds. place_added target (blocks_back map.source.now.dimensions map.sizes.now) c.args.at.now.items c.in_ok-rows.rows c.args.found.now c.push_row_numbers.new.found c.in_ok-rows.ensures.reached
    (subst (λ (rows : List Row). AddsRows target rows c.args.found.now c.push_row_numbers.new.found) c.as_slice.ensures adds))
