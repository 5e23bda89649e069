use Rattle.afl_outside.specs.Images.{content_after}
use Rattle.afl_outside.proofs.ImageLemmas.{replay_end, replay_step}
use Rattle.afl_outside.proofs.in_memory.images.replay.Goals as goal

pub loop-call-preserved : goal.loop-call-preserved
loop-call-preserved c =
    let l = c.loop-call in
    replay_step (content_after c.args.content.now.items c.args.calls.now) l.content.items c.replay_call.new.content.items c.args.calls.now l.call-index
    c.call-item.result c.loop-call-test.true c.call-item.is c.in_ok-replay_call.ensures l.invariant

pub returns : goal.returns
returns c =
    let l = c.loop-call in
    replay_end (content_after c.args.content.now.items c.args.calls.now) l.content.items c.args.calls.now l.call-index c.loop-call-test.false l.invariant
