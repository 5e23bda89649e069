use Rattle.std.proofs.Common.{◌∙◌, ap, arith, List}
use Rattle.std.proofs.lemmas.List.{take_all}
use Rattle.std.specs.BTreeMap.{is_at}
use Rattle.std.specs.Map.{lookup}
use Rattle.group_rows.specs.declared.rows.groups.Group.{Group}
use Rattle.group_rows.specs.Counts.{cells_in}
use Rattle.group_rows.specs.Grouped.{states_at}
use Rattle.group_rows.specs.Taken.{by_coordinate, cells_kept}
use Rattle.order_exec.proofs.TreeLaws.{keeps_found, one_found}
use Rattle.order_exec.proofs.line_parts.tree_of.Goals as goal

pub loop-line-init : goal.loop-line-init
loop-line-init c = (
  λ key. ap (lookup (is_at (by_coordinate key))) c.new-tree.ensures.empty,
  (let none = ap cells_kept c.new-tree.ensures.empty in omega (arith, none)),
)

pub loop-line-preserved : goal.loop-line-preserved
loop-line-preserved c =
    one_found c.args.lines.now c.requires c.loop-line.line-index c.line-item.result c.copy_coord.result c.in_ok-copy.field-0 c.loop-line.tree c.insert.new.self c.loop-line-test.true c.line-item.is c.copy_coord.ensures c.in_ok-copy.ensures
    c.in_ok-insert.ensures.updates c.in_ok-insert.ensures.entries c.loop-line.invariant

pub returns-clause-states : goal.returns-clause-states
returns-clause-states c = λ gs sets are.
    keeps_found gs sets c.args.lines.now c.loop-line.tree
    (λ key. c.loop-line.invariant.0 key ∙ ap (λ (some : List Group). states_at some key.items) (take_all c.loop-line.line-index c.args.lines.now c.loop-line-test.false)) are

pub returns-clause-cells : goal.returns-clause-cells
returns-clause-cells c =
    let all = ap cells_in (take_all c.loop-line.line-index c.args.lines.now c.loop-line-test.false) in
    let few = c.loop-line.invariant.1 in
    omega (arith, all, few)
