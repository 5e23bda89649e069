use Rattle.std.proofs.Common.{◌∙◌, sym, arith}
use Rattle.afl_outside.proofs.ImageLemmas.{pending_more, synced_more}
use Rattle.afl_outside.proofs.in_memory.images.count_synced.Goals as goal
use Rattle.afl_outside.proofs.in_memory.images.count_synced.Goals.{then-not-is_pending, else-not-is_pending}

pub loop-i-preserved : goal.loop-i-preserved
loop-i-preserved c =
    let l = c.loop-i in
    let calls = c.args.calls.now in
    let call = c.index-calls-i.result in
    let low = c.loop-i-test.true in
    let is = c.index-calls-i.is in
    elim c.if-not-is_pending.branch [
      | then-not-is_pending w ↦
          (w.count-is ∙ synced_more calls l.i call low is (sym c.is_pending.ensures ∙ w.if-not-is_pending.true), omega (arith, w.count-is))
      | else-not-is_pending w ↦
          (w.count-is ∙ pending_more calls l.i l.count call low is (sym c.is_pending.ensures ∙ w.if-not-is_pending.false) l.invariant.0, omega (arith, w.count-is, l.invariant.1))
    ]
