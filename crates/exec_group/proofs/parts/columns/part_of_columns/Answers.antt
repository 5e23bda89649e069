use Rattle.std.proofs.Common.{subst}
use Rattle.group_rows.specs.Grouped.{AreGroupsOf}
use Rattle.group_rows.specs.Inner.Keys.{core_of}
use Rattle.group_rows.specs.Sets.{Sets}
use Rattle.exec_group.proofs.CoreColumnLaws.{named_sets, one_in_core}
use Rattle.exec_group.proofs.parts.columns.part_of_columns.Goals as goal

pub returns-in-empty-clause-groups : goal.returns-in-empty-clause-groups
returns-in-empty-clause-groups c =
    one_in_core c.args.dims.now c.args.aggs.now (core_of c.args.schema.now.dimensions c.args.margins.now.items c.args.chunk.now) c.group_of_core.result c.in-empty.len_below c.group_of_core.ensures.groups

pub returns-in_ok-groups-in-len1-up-clause-groups : goal.returns-in_ok-groups-in-len1-up-clause-groups
returns-in_ok-groups-in-len1-up-clause-groups c =
    let rows = core_of c.args.schema.now.dimensions c.args.margins.now.items c.args.chunk.now in
    subst (λ (sets : Sets). AreGroupsOf c.args.aggs.now sets c.in_ok-groups-in-len1-up.groups.groups) (named_sets c.args.dims.now rows c.in-len1-up.len_at_least) c.in_ok-groups-in-len1-up.ensures.groups
