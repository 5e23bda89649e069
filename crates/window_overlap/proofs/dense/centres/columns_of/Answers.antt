use Rattle.std.proofs.Common.{sym, subst, Option, slice_index_or}
use Rattle.std.specs.Prelude.{IfSome}
use Rattle.area_cells.specs.Found.{found_rows}
use Rattle.logical_plan.specs.declared.parts.Aggregate.{Aggregate}
use Rattle.window_overlap.specs.Inner.Dense.{AreNumbers}
use Rattle.window_overlap.specs.declared.dense.columns.Dense.{Dense}
use Rattle.window_overlap.proofs.CentreLaws.{next_column}
use Rattle.window_overlap.proofs.dense.centres.columns_of.Goals as goal

pub loop-k-preserved : goal.loop-k-preserved
loop-k-preserved c =
    let rows = found_rows c.args.grid.now c.args.found.now in
    let g = c.index-aggs-k.result in
    next_column c.args.grid.now rows c.args.aggs.now c.loop-k.columns c.push.new.self c.loop-k.k g c.in-Some.dense c.loop-k-test.true c.index-aggs-k.is c.in_ok-push-in-Some.ensures.ok
    (subst (λ (z : Aggregate). AreNumbers c.args.grid.now rows z.attribute c.in-Some.dense.present c.in-Some.dense.numbers) (sym c.index-aggs-k.is)
    (subst (λ (o : Option Dense). IfSome o (λ d. AreNumbers c.args.grid.now rows (slice_index_or c.args.aggs.now c.loop-k.k g).attribute d.present d.numbers)) c.in-Some.is c.in_ok-dense.ensures)) c.loop-k.invariant
