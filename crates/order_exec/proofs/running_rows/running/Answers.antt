use Rattle.std.proofs.Common.{arith}
use Rattle.order_exec.specs.Lines.{line_start}
use Rattle.order_exec.proofs.RunLaws.{next_place, next_run}
use Rattle.order_exec.proofs.running_rows.running.Goals as goal

pub loop-k-preserved : goal.loop-k-preserved
loop-k-preserved c =
    let more = c.in_ok-next_row.ensures.cells in
    let before = c.loop-k.invariant.cells in
    record {
      so_far = next_run (line_start c.args.along.now.place c.args.along.now.low) c.args.along.now.aggs.now c.args.rows.now c.args.lines.now c.loop-k.k c.in_ok-next_row.field-0 c.loop-k.made c.push.new.self
          c.loop-k.lines c.next_row.new.lines c.loop-k-test.true c.loop-k.invariant.so_far c.in_ok-next_row.ensures.next c.in_ok-push.ensures.ok;
      places = next_place c.args.rows.now c.loop-k.k c.in_ok-next_row.field-0 c.loop-k.made c.push.new.self c.loop-k-test.true c.loop-k.invariant.places c.in_ok-next_row.ensures.at c.in_ok-push.ensures.ok;
      cells = omega (arith, more, before);
    }
