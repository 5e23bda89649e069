use Rattle.std.proofs.Common.{length}
use Rattle.window_overlap.proofs.RunLaws.{next_run, outside_behind}
use Rattle.window_overlap.proofs.chunks.runs.runs_within.Goals as goal

pub next_start-start-requires-clause-outside : goal.next_start-start-requires-clause-outside
next_start-start-requires-clause-outside c = outside_behind c.args.area.now c.as_slice-rows.result.now c.loop-start.start c.end_of_run-end.result c.end_of_run-end.ensures.inside

pub loop-start-preserved : goal.loop-start-preserved
loop-start-preserved c = record {
  upto = c.next_start-start.ensures.upto;
  runs = c.in_ok-push_run.ensures.runs (length c.as_slice-rows.result.now) c.end_of_run-end.ensures.upto c.loop-start.invariant.runs;
  rows = next_run c.args.area.now c.as_slice-rows.result.now c.loop-start.runs c.push_run.new.runs c.loop-start.start c.end_of_run-end.result c.next_start-start.result c.end_of_run-end.ensures.from c.next_start-start.ensures.from c.end_of_run-end.ensures.inside
      (c.in_ok-push_run.ensures.rows c.as_slice-rows.result.now) c.next_start-start.ensures.outside c.loop-start.invariant.rows;
}
