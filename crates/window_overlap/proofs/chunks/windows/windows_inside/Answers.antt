use Rattle.window_overlap.specs.Cores.{window_within}
use Rattle.window_overlap.proofs.PieceLaws.{next_pushed, all_pushed}
use Rattle.window_overlap.proofs.chunks.windows.windows_inside.Goals as goal

pub loop-row-preserved : goal.loop-row-preserved
loop-row-preserved c =
    next_pushed (window_within c.args.area.now c.args.reach.now c.args.aggs.now c.args.rows.now) c.as_slice-row-items.result.now c.loop-row.row-index c.row-item.result c.loop-row.made c.push_window.new.made c.loop-row-test.true c.row-item.is c.loop-row.invariant c.in_ok-push_window.ensures

pub returns : goal.returns
returns c =
    all_pushed c.args.area.now c.args.reach.now c.args.aggs.now c.args.rows.now c.as_slice-row-items.result.now c.loop-row.row-index c.loop-row.made c.as_slice-row-items.ensures c.loop-row-test.false c.loop-row.invariant
