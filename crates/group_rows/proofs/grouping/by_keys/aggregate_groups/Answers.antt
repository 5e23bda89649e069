use Rattle.std.proofs.Common.{◌<◌, ◌^◌, List, subst, length, sym, ap, arith}
use Rattle.std.specs.Prelude.{IfOk}
use Rattle.cell_values.specs.declared.datum.Row.{Row}
use Rattle.array_rows.specs.Rows.{IsRising}
use Rattle.group_rows.specs.Grouped.{AreGroupsOf}
use Rattle.group_rows.specs.Sets.{Sets}
use Rattle.group_rows.proofs.KeyLaws.{named_sets, one_named}
use Rattle.group_rows.proofs.MergeLaws.{if_ok}
use Rattle.group_rows.proofs.grouping.by_keys.aggregate_groups.Goals as goal

pub returns-in-len1-up-clause-groups : goal.returns-in-len1-up-clause-groups
returns-in-len1-up-clause-groups c =
    subst (λ (sets : Sets). IfOk c.grouped.result (λ part. AreGroupsOf c.args.aggs.now sets part.groups)) (named_sets c.args.dims.now c.args.rows.now c.in-len1-up.len_at_least) c.grouped.ensures.groups

pub grouped-requires-clause-keyed : goal.grouped-requires-clause-keyed
grouped-requires-clause-keyed c = λ k row less. c.requires.names

pub returns-in-empty-clause-groups : goal.returns-in-empty-clause-groups
returns-in-empty-clause-groups c =
    one_named c.args.aggs.now c.args.dims.now c.zero.result c.as_slice.result.now c.args.rows.now c.one_group.result c.in-empty.len_below c.zero.ensures c.as_slice.ensures c.one_group.ensures.groups

pub returns-in-empty-clause-cells : goal.returns-in-empty-clause-cells
returns-in-empty-clause-cells c =
    let rows = ap length c.as_slice.ensures in
    if_ok c.one_group.result c.one_group.ensures.cells (λ part few. omega (arith, rows, few))

pub one_group-requires-clause-rising : goal.one_group-requires-clause-rising
one_group-requires-clause-rising c = subst IsRising (sym c.as_slice.ensures) c.requires.rising

pub one_group-requires-clause-few : goal.one_group-requires-clause-few
one_group-requires-clause-few c = subst (λ (rows : List Row). length rows < 2 ^ 63) (sym c.as_slice.ensures) c.requires.few
