use Rattle.std.proofs.Common.{◌≡◌, true, [], ◌∷◌, ◌++◌, sym, ◌∙◌, subst}
use Rattle.std.specs.List.{AllByRecursion}
use Rattle.cell_values.specs.declared.datum.Cell.TheVariants.{Full}
use Rattle.cell_values.specs.declared.datum.Row.{Row}
use Rattle.array_rows.specs.Boxes.{bounds_of, is_inside}
use Rattle.array_rows.specs.Rows.{placed}
use Rattle.chunk_cells.proofs.MergeLaws.{if_ok}
use Rattle.logical_plan.specs.Shapes.{blocks_back}
use Rattle.shape_exec.proofs.SpreadLaws.{one_place}
use Rattle.shape_exec.proofs.blocks.rows_of_place.Goals as goal

pub block_rows-requires-clause-inside : goal.block_rows-requires-clause-inside
block_rows-requires-clause-inside c =
    let e : c.push.new.self ≡ placed c.args.at.now.items (Full []) ∷ []
    = c.in_ok-push.ensures.ok ∙ (λ i. c.new-one.ensures i ++ record { at = c.copy_coord.ensures i; cell = Full (c.new.ensures i) } ∷ []) in
    subst (AllByRecursion (λ (row : Row). is_inside (bounds_of c.args.of.now.source.now.dimensions) row.at.items ≡ true)) (sym e) (c.requires.inside, tt)

pub returns-clause-inside : goal.returns-clause-inside
returns-clause-inside c = if_ok c.block_rows.result c.block_rows.ensures (λ rows is. is.in_bounds)

pub returns-clause-reached : goal.returns-clause-reached
returns-clause-reached c =
    let of = c.args.of.now in
    let e : c.push.new.self ≡ placed c.args.at.now.items (Full []) ∷ []
    = c.in_ok-push.ensures.ok ∙ (λ i. c.new-one.ensures i ++ record { at = c.copy_coord.ensures i; cell = Full (c.new.ensures i) } ∷ []) in
    if_ok c.block_rows.result c.block_rows.ensures (λ rows is. one_place of.schema.now.dimensions (blocks_back of.source.now.dimensions of.sizes.now) c.args.at.now.items c.push.new.self rows e is)
