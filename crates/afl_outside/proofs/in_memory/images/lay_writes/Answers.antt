use Rattle.afl_outside.specs.Images.{with_writes}
use Rattle.afl_outside.proofs.ImageLemmas.{lay_end, lay_step}
use Rattle.afl_outside.proofs.in_memory.images.lay_writes.Goals as goal

pub loop-call-preserved : goal.loop-call-preserved
loop-call-preserved c =
    let l = c.loop-call in
    let fill = c.args.fill in
    lay_step (with_writes c.args.kept.now fill c.args.image.now.items c.args.calls.now) fill l.places.now c.in_ok-places.places.now l.image.items
    c.lay_call.new.image.items c.args.calls.now l.call-index c.call-item.result c.loop-call-test.true c.call-item.is c.in_ok-places.ensures l.invariant

pub returns : goal.returns
returns c =
    let l = c.loop-call in
    let fill = c.args.fill in
    lay_end (with_writes c.args.kept.now fill c.args.image.now.items c.args.calls.now) fill l.places.now l.image.items c.args.calls.now l.call-index
    c.loop-call-test.false l.invariant
