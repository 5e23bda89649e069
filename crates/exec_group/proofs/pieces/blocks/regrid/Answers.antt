use Rattle.std.proofs.Common.{refl, ap}
use Rattle.cell_values.specs.declared.schema.Schema.{Schema}
use Rattle.array_parts.specs.Cores.{cores_of}
use Rattle.array_rows.specs.Boxes.{bounds_of}
use Rattle.logical_plan.specs.Groups.{regrid_rows}
use Rattle.logical_plan.specs.PlanSchema.{regrid_schema}
use Rattle.group_rows.specs.Inner.Keys.{regrid_sets}
use Rattle.exec_group.proofs.BlockLaws.{regrid_fits}
use Rattle.exec_group.proofs.GroupLaws.{regrid_told}
use Rattle.group_rows.proofs.WholeLaws.{of_cores, can_tell, told_whole, if_ok}
use Rattle.exec_group.proofs.pieces.blocks.regrid.Goals as goal

pub told_array-requires-clause-sets : goal.told_array-requires-clause-sets
told_array-requires-clause-sets g c =
    let rows = cores_of c.args.array in
    let rows_of = of_cores c.args.array rows refl (c.requires.cells c.requires.whole) in
    can_tell c.args.array.schema c.args.target.now c.args.aggs.now (regrid_sets c.args.array.schema.dimensions c.args.blocks.now rows) c.in_ok-groups.groups.groups (ap (λ (s : Schema). s.attributes) c.requires.target) c.requires.typed
    (regrid_fits c.args.array.schema c.args.target.now c.args.aggs.now c.args.blocks.now rows rows_of c.requires.target) c.in_ok-groups.ensures.whole

pub returns-clause-array : goal.returns-clause-array
returns-clause-array g c =
    let rows = cores_of c.args.array in
    let rows_of = of_cores c.args.array rows refl (c.requires.cells c.requires.whole) in
    let can = can_tell c.args.array.schema c.args.target.now c.args.aggs.now (regrid_sets c.args.array.schema.dimensions c.args.blocks.now rows) c.in_ok-groups.groups.groups (ap (λ (s : Schema). s.attributes) c.requires.target) c.requires.typed
    (regrid_fits c.args.array.schema c.args.target.now c.args.aggs.now c.args.blocks.now rows rows_of c.requires.target) c.in_ok-groups.ensures.whole in
    if_ok c.told_array.result (c.told_array.ensures.array can)
    (λ made h. told_whole (regrid_schema c.args.blocks.now c.args.aggs.now) (λ s. regrid_rows (bounds_of s.dimensions).lo.items c.args.blocks.now c.args.aggs.now) c.args.array c.args.aggs.now
    (regrid_sets c.args.array.schema.dimensions c.args.blocks.now rows) c.args.target.now rows made
    refl c.requires.whole c.requires.target (regrid_told c.args.array.schema.dimensions c.args.blocks.now c.args.aggs.now rows) h)
