use Rattle.std.proofs.Common.{◌∙◌, ap, length, sym, subst, arith}
use Rattle.array_rows.specs.Rows.{IsRising}
use Rattle.group_rows.specs.Inner.Places.{key_of}
use Rattle.group_rows.proofs.KeyLaws.{each_key, keyed}
use Rattle.group_rows.proofs.MergeLaws.{if_ok}
use Rattle.group_rows.proofs.grouping.by_keys.grouped.Goals as goal

pub returns-clause-groups : goal.returns-clause-groups
returns-clause-groups c =
    keyed c.args.aggs.now (key_of c.args.grouping.now) c.in_ok-keys.keys c.as_slice.result.now c.args.rows.now
    c.as_slice-2.result.now c.groups_of.result c.as_slice.ensures c.as_slice-2.ensures c.in_ok-keys.ensures c.groups_of.ensures.groups

pub groups_of-requires-clause-each : goal.groups_of-requires-clause-each
groups_of-requires-clause-each c =
    ap length c.as_slice.ensures
    ∙ each_key (key_of c.args.grouping.now) c.in_ok-keys.keys c.args.rows.now c.in_ok-keys.ensures
    ∙ sym (ap length c.as_slice-2.ensures)

pub returns-clause-cells : goal.returns-clause-cells
returns-clause-cells c =
    let rows = ap length c.as_slice-2.ensures in
    if_ok c.groups_of.result c.groups_of.ensures.cells (λ part few. omega (arith, rows, few))

pub groups_of-requires-clause-rising : goal.groups_of-requires-clause-rising
groups_of-requires-clause-rising c = subst IsRising (sym c.as_slice-2.ensures) c.requires.rising
