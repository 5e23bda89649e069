use Rattle.std.proofs.Common.{List, sym, ◌∙◌, subst}
use Rattle.cell_values.specs.declared.datum.Row.{Row}
use Rattle.area_cells.specs.Found.{found_rows}
use Rattle.area_cells.specs.Inner.Filled.{IsFilled}
use Rattle.window_overlap.specs.Cores.{window_within}
use Rattle.window_overlap.proofs.CentreLaws.{next_centre}
use Rattle.window_overlap.proofs.dense.centres.chunk_of_windows.Goals as goal

pub loop-k-preserved : goal.loop-k-preserved
loop-k-preserved c =
    let all = c.as_slice-all.result.now in
    let grid = c.args.grid.now in
    let change = window_within c.args.area.now c.args.reach.now c.args.aggs.now (found_rows grid all) in
    record {
      number = c.in_ok-push_centre.ensures.number ∙ c.loop-k.invariant.number;
      filled = subst (λ (rs : List Row). IsFilled c.args.target.now.low.items c.args.target.now.lengths.items rs c.push_centre.new.made) (sym (next_centre change grid all c.loop-k.k c.index-all-k.result c.loop-k-test.true c.index-all-k.is))
          (c.in_ok-push_centre.ensures.filled _ c.loop-k.invariant.filled);
    }
