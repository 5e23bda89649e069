use Rattle.std.proofs.Common.{◌<◌, ◌^◌, List, length, sym, ap, subst, arith}
use Rattle.cell_values.specs.declared.datum.Row.{Row}
use Rattle.cell_values.specs.declared.schema.Schema.{Schema}
use Rattle.logical_plan.specs.Groups.{aggregate_rows}
use Rattle.logical_plan.specs.PlanSchema.{aggregate_schema}
use Rattle.group_rows.specs.Inner.Keys.{aggregate_sets}
use Rattle.exec_group.proofs.GroupLaws.{aggregate_told}
use Rattle.exec_group.proofs.PiecesPartLaws.{no_rows}
use Rattle.group_rows.proofs.InsideLaws.{aggregate_fits}
use Rattle.group_rows.proofs.WholeLaws.{of_cores, few_names, can_tell, told_whole, if_ok}
use Rattle.exec_group.proofs.pieces.aggregates.of_none.Goals as goal

pub aggregate_groups-requires-clause-few : goal.aggregate_groups-requires-clause-few
aggregate_groups-requires-clause-few c = subst (λ (rows : List Row). length rows < 2 ^ 63) (sym c.another-rows.ensures) (omega arith)

pub aggregate_groups-requires-clause-rising : goal.aggregate_groups-requires-clause-rising
aggregate_groups-requires-clause-rising c = (of_cores c.args.array c.another-rows.result (no_rows c.args.array c.another-rows.result c.requires.none c.another-rows.ensures) c.requires.cells).are_rows.rising

pub aggregate_groups-requires-clause-names : goal.aggregate_groups-requires-clause-names
aggregate_groups-requires-clause-names c = few_names c.args.aggs.now c.args.dims.now c.args.array.schema c.args.target.now c.requires.target c.requires.valid c.requires.names

pub told_array-requires-clause-room : goal.told_array-requires-clause-room
told_array-requires-clause-room c = omega (arith, c.in_ok-groups.ensures.cells, ap length c.another-rows.ensures)

pub told_array-requires-clause-sets : goal.told_array-requires-clause-sets
told_array-requires-clause-sets c =
    let rows_of = of_cores c.args.array c.another-rows.result (no_rows c.args.array c.another-rows.result c.requires.none c.another-rows.ensures) c.requires.cells in
    can_tell c.args.array.schema c.args.target.now c.args.aggs.now (aggregate_sets c.args.dims.now c.another-rows.result) c.in_ok-groups.groups.groups (ap (λ (s : Schema). s.attributes) c.requires.target) c.requires.typed
    (aggregate_fits c.args.array.schema c.args.target.now c.args.aggs.now c.args.dims.now c.another-rows.result rows_of c.requires.target c.requires.names) c.in_ok-groups.ensures.groups

pub returns-clause-array : goal.returns-clause-array
returns-clause-array c =
    let rows_of = of_cores c.args.array c.another-rows.result (no_rows c.args.array c.another-rows.result c.requires.none c.another-rows.ensures) c.requires.cells in
    let can = can_tell c.args.array.schema c.args.target.now c.args.aggs.now (aggregate_sets c.args.dims.now c.another-rows.result) c.in_ok-groups.groups.groups (ap (λ (s : Schema). s.attributes) c.requires.target) c.requires.typed
    (aggregate_fits c.args.array.schema c.args.target.now c.args.aggs.now c.args.dims.now c.another-rows.result rows_of c.requires.target c.requires.names) c.in_ok-groups.ensures.groups in
    if_ok c.told_array.result (c.told_array.ensures.array can)
    (λ made h. told_whole (aggregate_schema c.args.aggs.now c.args.dims.now) (λ s. aggregate_rows c.args.dims.now c.args.aggs.now) c.args.array c.args.aggs.now (aggregate_sets c.args.dims.now c.another-rows.result) c.args.target.now c.another-rows.result made
    (no_rows c.args.array c.another-rows.result c.requires.none c.another-rows.ensures) c.requires.whole c.requires.target (aggregate_told c.args.dims.now c.args.aggs.now c.another-rows.result) h)
