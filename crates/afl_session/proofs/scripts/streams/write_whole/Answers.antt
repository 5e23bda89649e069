use Rattle.std.proofs.Common.{◌∙◌, arith, sym, ap, length, length-drop}
use Rattle.afl_outside.proofs.Streams.{Takes-piece}
use Rattle.afl_session.proofs.ServingLemmas.{faults_rose, no_fault, no_want, still_there, true_false, wants_rose, writes_front}
use Rattle.afl_session.proofs.scripts.streams.write_whole.Goals as goal

pub pieces-preserved : goal.pieces-preserved
pieces-preserved g c = record {
  within = omega (arith, c.in-Ok.ensures.within, ap length c.split_at.ensures.back, length-drop c.pieces.done c.args.text.now);
  so_far = Takes-piece _ _ _ c.args.text.now c.pieces.done c.in-Ok.count c.pieces.invariant.so_far (rw c.split_at.ensures.back at c.in-Ok.ensures.bytes);
}

pub returns-in-Err-clause-err : goal.returns-in-Err-clause-err
returns-in-Err-clause-err g c = (c.pieces.done, writes_front _ _ _ c.args.text.now c.pieces.done c.pieces.invariant.so_far c.in-Err.ensures.bytes)

pub returns-in-Err-clause-fault : goal.returns-in-Err-clause-fault
returns-in-Err-clause-fault g c is = absurd (no_fault is)

pub returns-in-Err-clause-memory : goal.returns-in-Err-clause-memory
returns-in-Err-clause-memory g c is =
    let old = g.K.Sink.state c.pieces.sink in
    let new = g.K.Sink.state c.write.new.self in
    wants_rose _ old new _ c.pieces.invariant.so_far
    (still_there old.faults new.faults c.faults-before.result c.faults.result c.faults-before.ensures c.faults.ensures
    (λ rose. true_false (sym (c.has_risen.ensures.1 rose) ∙ c.if-has_risen.false))) c.in-Err.ensures.cause

pub returns-then-has_risen-clause-err : goal.returns-then-has_risen-clause-err
returns-then-has_risen-clause-err g c = (c.pieces.done, writes_front _ _ _ c.args.text.now c.pieces.done c.pieces.invariant.so_far c.in-Err.ensures.bytes)

pub returns-then-has_risen-clause-fault : goal.returns-then-has_risen-clause-fault
returns-then-has_risen-clause-fault g c is =
    faults_rose _ (g.K.Sink.state c.pieces.sink) (g.K.Sink.state c.write.new.self) _ c.pieces.invariant.so_far c.faults-before.result c.faults.result
    c.faults-before.ensures c.faults.ensures (c.has_risen.ensures.0 c.if-has_risen.true)

pub returns-then-has_risen-clause-memory : goal.returns-then-has_risen-clause-memory
returns-then-has_risen-clause-memory g c is = absurd (no_want is)
