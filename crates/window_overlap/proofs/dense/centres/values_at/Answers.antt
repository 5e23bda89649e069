use Rattle.std.proofs.Common.{◌∙◌, ap, arith}
use Rattle.array_rows.specs.Boxes.{within}
use Rattle.array_geom.specs.Geometry.{position_in}
use Rattle.array_geom.specs.Inner.Ranges.{is_in_grid}
use Rattle.cell_values.specs.declared.schema.Bounds.{Bounds}
use Rattle.area_cells.specs.Found.{found_rows}
use Rattle.logical_plan.specs.Groups.{aggregate_of, cells_of, window}
use Rattle.window_overlap.proofs.CentreLaws.{can_one, column_at, columns_long, next_value}
use Rattle.window_overlap.proofs.SpotLaws.{corner_inside}
use Rattle.window_overlap.proofs.dense.centres.values_at.Goals as goal

pub position-base-requires-clause-inside : goal.position-base-requires-clause-inside
position-base-requires-clause-inside c =
    let s = c.requires.set in
    let at = c.args.at.now.items in
    ap (λ (b : Bounds). is_in_grid c.args.grid.now.low.items c.args.grid.now.lengths.items b.lo.items) c.window_of-corner.ensures
    ∙ s.held at c.requires.inside _ (corner_inside c.args.reach.now at (s.each at c.requires.inside))

pub bounds-columns-k : goal.bounds-columns-k
bounds-columns-k c =
    let long = columns_long c.args.grid.now (found_rows c.args.grid.now c.args.found.now) c.args.aggs.now c.args.columns.now c.requires.columns in
    let less = c.loop-k-test.true in
    omega (arith, long, less)

pub value_at-requires-clause-base : goal.value_at-requires-clause-base
value_at-requires-clause-base c = c.position-base.ensures.value ∙ ap (λ (b : Bounds). position_in c.args.grid.now.low.items c.args.grid.now.lengths.items b.lo.items) c.window_of-corner.ensures

pub value_at-requires-clause-numbers : goal.value_at-requires-clause-numbers
value_at-requires-clause-numbers c =
    column_at c.args.grid.now (found_rows c.args.grid.now c.args.found.now) c.args.aggs.now c.args.columns.now c.loop-k.k c.index-aggs-k.result c.index-columns-k.result c.requires.columns c.loop-k-test.true c.index-aggs-k.is c.index-columns-k.is

pub value_at-requires-clause-typed : goal.value_at-requires-clause-typed
value_at-requires-clause-typed c =
    can_one c.args.aggs.now (found_rows c.args.grid.now c.args.found.now) c.loop-k.k c.index-aggs-k.result c.requires.typed c.loop-k-test.true c.index-aggs-k.is

pub loop-k-preserved : goal.loop-k-preserved
loop-k-preserved c =
    next_value (λ g. aggregate_of g (cells_of (within (window c.args.reach.now c.args.at.now.items) (found_rows c.args.grid.now c.args.found.now)))) c.args.aggs.now c.loop-k.k c.index-aggs-k.result c.loop-k.values c.push.new.self c.value_at.result
    c.loop-k-test.true c.index-aggs-k.is c.loop-k.invariant c.in_ok-push.ensures.ok c.value_at.ensures
