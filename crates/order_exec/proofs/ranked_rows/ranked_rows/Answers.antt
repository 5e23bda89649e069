use Rattle.std.proofs.Common.{◌<◌, ◌≤◌, List, length, rules, subst}
use Rattle.cell_values.specs.declared.datum.Row.{Row}
use Rattle.logical_plan.specs.Ordered.{rank_cell}
use Rattle.order_exec.specs.Inner.Ranked.{HoldsFaults, HoldsValues}
use Rattle.order_exec.proofs.RankedRowsLaws.{all_placed, knows, none_placed, one_placed, ordered}
use Rattle.order_exec.proofs.ranked_rows.ranked_rows.Goals as goal

pub ranked_cell-requires-clause-order : goal.ranked_cell-requires-clause-order
ranked_cell-requires-clause-order c =
    ordered c.args.attribute c.args.dims.now c.args.rows c.in_ok-groups.groups c.in_ok-values.values
    (subst (λ (rs : List Row). HoldsValues c.args.attribute c.args.dims.now rs c.in_ok-groups.groups) c.as_slice-2.ensures c.in_ok-groups.ensures) c.in_ok-values.ensures

pub loop-k-init : goal.loop-k-init
loop-k-init c = none_placed (rank_cell c.args.attribute c.args.dims.now c.args.rows) c.args.rows

pub loop-k-preserved : goal.loop-k-preserved
loop-k-preserved c =
    let x = c.args.attribute in
    let dims = c.args.dims.now in
    let rows = c.args.rows in
    let known =
    knows x dims rows c.in_ok-groups.groups c.in_ok-values.values (subst (λ (rs : List Row). HoldsValues x dims rs c.in_ok-groups.groups) c.as_slice-2.ensures c.in_ok-groups.ensures) c.in_ok-values.ensures c.in_ok-faults.faults
    (subst (λ (rs : List Row). HoldsFaults x dims rs c.in_ok-faults.faults) c.as_slice.ensures c.in_ok-faults.ensures) in
    let inside : c.loop-k.k < length rows = search rules in
    one_placed (rank_cell x dims rows) rows c.loop-k.made c.set.new.self c.loop-k.k c.index-row.result.now (record { at = c.copy_coord-at.result; cell = c.in_ok-cell.cell }) inside c.index-row.ensures c.copy_coord-at.ensures
    (c.in_ok-cell.ensures rows known) c.set.ensures c.loop-k.invariant

pub returns : goal.returns
returns c =
    let whole : length c.args.rows ≤ c.loop-k.k = search rules in
    all_placed (rank_cell c.args.attribute c.args.dims.now c.args.rows) c.args.rows c.loop-k.made c.loop-k.k whole c.loop-k.invariant
