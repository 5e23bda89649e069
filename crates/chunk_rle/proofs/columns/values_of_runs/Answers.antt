use Rattle.std.proofs.Common.{arith}
use Rattle.std.proofs.lemmas.List.{nil_from_length}
use Rattle.std.specs.Vec.Iter.{into_iter_items}
use Rattle.chunk_rle.specs.Longest.{values_of}
use Rattle.chunk_rle.proofs.ValuedLaws.{values_step, values_end}
use Rattle.chunk_rle.proofs.columns.values_of_runs.Goals as goal

pub loop-run-preserved : goal.loop-run-preserved
loop-run-preserved c = values_step c.push_value_run.new.values c.loop-run.values (values_of c.args.runs) (into_iter_items c.loop-run.run-iterator) (into_iter_items c.next.new.self) c.in-Some.run' c.in-Some.ensures.steps.0 c.in_ok-push_value_run.ensures c.loop-run.invariant

pub returns : goal.returns
returns c =
    let left = c.loop-run.run-iterator in
    values_end c.loop-run.values (values_of c.args.runs) (into_iter_items left) (nil_from_length (into_iter_items left) (omega (arith, left.rest.ok.0, c.in-None.ensures.steps.0))) c.loop-run.invariant
