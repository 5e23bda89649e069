use Rattle.std.proofs.Common.{arith, ap, length, length-drop}
use Rattle.afl_outside.proofs.Streams.{Takes-piece}
use Rattle.backup_writing.proofs.Outs.{faults_rose, writes_front}
use Rattle.backup_writing.proofs.digest_sink.write_whole.Goals as goal

pub pieces-preserved : goal.pieces-preserved
pieces-preserved g c = record {
  within = omega (arith, c.in-Ok.ensures.within, ap length c.split_at.ensures.back, length-drop c.pieces.done c.args.text.now);
  so_far = Takes-piece _ _ _ c.args.text.now c.pieces.done c.in-Ok.count c.pieces.invariant.so_far (rw c.split_at.ensures.back at c.in-Ok.ensures.bytes);
}

pub returns-in-Err-clause-err : goal.returns-in-Err-clause-err
returns-in-Err-clause-err g c = (c.pieces.done, writes_front _ _ _ c.args.text.now c.pieces.done c.pieces.invariant.so_far c.in-Err.ensures.bytes)

pub returns-then-has_risen-clause-err : goal.returns-then-has_risen-clause-err
returns-then-has_risen-clause-err g c = (c.pieces.done, writes_front _ _ _ c.args.text.now c.pieces.done c.pieces.invariant.so_far c.in-Err.ensures.bytes)

pub returns-then-has_risen-clause-fault : goal.returns-then-has_risen-clause-fault
returns-then-has_risen-clause-fault g c =
    faults_rose _ (g.K.Sink.state c.pieces.sink) (g.K.Sink.state c.write.new.self) _ c.pieces.invariant.so_far c.faults-before.result c.faults.result
    c.faults-before.ensures c.faults.ensures (c.has_risen.ensures.0 c.if-has_risen.true)
