use Rattle.std.proofs.Common.{ap, true, false, get_or, []}
use Rattle.logical_plan.specs.CellOps.{kept}
use Rattle.exec_cellwise.proofs.SmallLaws.{truth_told}
use Rattle.exec_cellwise.proofs.chunks.filtering.FilterCellChange.quick.Goals as goal

pub returns-in-Truth-true : goal.returns-in-Truth-true
returns-in-Truth-true c = λ at. ap (λ v. kept v (get_or c.args.rows.now c.args.k [])) (truth_told c.args.self.now.test.now at (get_or c.args.rows.now c.args.k []) c.walk.result c.in-Truth-true.field-0 true c.walk.ensures c.in-Truth-true.is c.in-Truth-true.field-0-test)

pub returns-in-Truth-false : goal.returns-in-Truth-false
returns-in-Truth-false c = λ at. ap (λ v. kept v (get_or c.args.rows.now c.args.k [])) (truth_told c.args.self.now.test.now at (get_or c.args.rows.now c.args.k []) c.walk.result c.in-Truth-false.field-0 false c.walk.ensures c.in-Truth-false.is c.in-Truth-false.field-0-test)
