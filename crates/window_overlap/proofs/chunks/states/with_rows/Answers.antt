use Rattle.std.proofs.Common.{arith}
use Rattle.window_overlap.proofs.StateLaws.{next_taken}
use Rattle.window_overlap.proofs.chunks.states.with_rows.Goals as goal

pub loop-row-preserved : goal.loop-row-preserved
loop-row-preserved c = record {
  stands = λ g before s a r.
      next_taken g c.args.attribute before c.args.rows.now c.loop-row.row-index c.row-item.result c.loop-row.state c.take.new.self r c.loop-row-test.true c.row-item.is a (c.loop-row.invariant.stands g before s a r) c.in_ok-take.ensures.stands;
  cells = omega (arith, c.in_ok-take.ensures.cells, c.loop-row.invariant.cells);
}
