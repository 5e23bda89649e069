use Rattle.std.proofs.Common.{refl, ap}
use Rattle.cell_values.specs.declared.schema.Schema.{Schema}
use Rattle.array_parts.specs.Cores.{cores_of}
use Rattle.logical_plan.specs.Groups.{aggregate_rows}
use Rattle.logical_plan.specs.PlanSchema.{aggregate_schema}
use Rattle.group_rows.specs.Inner.Keys.{aggregate_sets}
use Rattle.exec_group.proofs.GroupLaws.{aggregate_told}
use Rattle.group_rows.proofs.InsideLaws.{aggregate_fits}
use Rattle.group_rows.proofs.WholeLaws.{of_cores, few_names, can_tell, told_whole, if_ok}
use Rattle.exec_group.proofs.pieces.aggregates.by_parts.Goals as goal

pub groups_by_parts-requires-clause-names : goal.groups_by_parts-requires-clause-names
groups_by_parts-requires-clause-names g c κs lives = few_names c.args.aggs.now c.args.dims.now c.args.array.schema c.args.target.now c.requires.target c.requires.valid c.requires.names

pub told_array-requires-clause-sets : goal.told_array-requires-clause-sets
told_array-requires-clause-sets g c =
    let rows = cores_of c.args.array in
    let rows_of = of_cores c.args.array rows refl c.requires.cells in
    can_tell c.args.array.schema c.args.target.now c.args.aggs.now (aggregate_sets c.args.dims.now rows) c.in_ok-groups.groups.groups (ap (λ (s : Schema). s.attributes) c.requires.target) c.requires.typed
    (aggregate_fits c.args.array.schema c.args.target.now c.args.aggs.now c.args.dims.now rows rows_of c.requires.target c.requires.names) (c.in_ok-groups.ensures.whole c.requires.some)

pub returns-clause-array : goal.returns-clause-array
returns-clause-array g c =
    let rows = cores_of c.args.array in
    let rows_of = of_cores c.args.array rows refl c.requires.cells in
    let can = can_tell c.args.array.schema c.args.target.now c.args.aggs.now (aggregate_sets c.args.dims.now rows) c.in_ok-groups.groups.groups (ap (λ (s : Schema). s.attributes) c.requires.target) c.requires.typed
    (aggregate_fits c.args.array.schema c.args.target.now c.args.aggs.now c.args.dims.now rows rows_of c.requires.target c.requires.names) (c.in_ok-groups.ensures.whole c.requires.some) in
    if_ok c.told_array.result (c.told_array.ensures.array can)
    (λ made h. told_whole (aggregate_schema c.args.aggs.now c.args.dims.now) (λ s. aggregate_rows c.args.dims.now c.args.aggs.now) c.args.array c.args.aggs.now (aggregate_sets c.args.dims.now rows) c.args.target.now rows made
    refl c.requires.whole c.requires.target (aggregate_told c.args.dims.now c.args.aggs.now rows) h)
