use Rattle.std.proofs.Common.{refl}
use Rattle.redimension_exec.proofs.ColumnLaws.{next_empty, one_longer}
use Rattle.redimension_exec.proofs.dense.columns.empty_states.Goals as goal

pub loop-preserved : goal.loop-preserved
loop-preserved c = record {
  empty = next_empty c.args.aggregate.now c.loop.states c.push.new.self c.empty.result c.loop.invariant.empty (c.empty.ensures.stands c.args.aggregate.now refl) c.empty.ensures.cells c.in_ok-push.ensures.ok;
  long = one_longer c.loop.states c.push.new.self c.empty.result c.loop.counter c.loop.invariant.long c.in_ok-push.ensures.ok;
}
