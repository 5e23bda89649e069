use Rattle.std.proofs.Common.{List, ◌++◌, ap, sym, ◌∙◌, subst}
use Rattle.std.specs.List.{AllByRecursion}
use Rattle.logical_plan.specs.CellOps.{fit_rows}
use Rattle.cell_values.specs.declared.datum.Row.{Row}
use Rattle.chunk_cells.specs.Fitted.{HasValues}
use Rattle.chunk_cells.proofs.FitLaws.{fitted_more}
use Rattle.chunk_cells.proofs.fitting.values.fit_rows.Goals as goal

pub loop-row-preserved : goal.loop-row-preserved
loop-row-preserved c = record {
  same = fitted_more c.args.attributes.now c.loop-row.fitted c.push.new.self c.in-Some.row c.fit_cell.result c.pop_front.new.self.items c.loop-row.rows.items _
      c.in_ok-push.ensures.ok c.in-Some.ensures.items c.fit_cell.ensures c.loop-row.invariant.same;
  left = (subst (AllByRecursion (λ row. HasValues c.args.attributes.now row.cell)) c.in-Some.ensures.items c.loop-row.invariant.left).1;
}

pub loop-row-init : goal.loop-row-init
loop-row-init c = record {
  same = ap (λ (rs : List Row). rs ++ fit_rows c.args.attributes.now c.from_vec-rows.result.items) c.another-fitted.ensures;
  left = subst (AllByRecursion (λ row. HasValues c.args.attributes.now row.cell)) (sym (c.from_vec-rows.ensures.items ∙ c.into_vec.ensures)) c.requires;
}
