use Rattle.std.proofs.Common.{map}
use Rattle.redimension_exec.specs.Inner.Places.{origin}
use Rattle.redimension_exec.proofs.TargetLaws.{all_targets, next_target}
use Rattle.redimension_exec.proofs.dense.targets.targets_of.Goals as goal

pub loop-k-preserved : goal.loop-k-preserved
loop-k-preserved c =
    next_target c.args.area.now (map origin c.args.to.now.places.now) c.args.to.now.bounds.now c.args.to.now.grid.now c.args.grid.now c.args.positions.now c.args.rows.now c.loop-k.k c.requires.each
    c.place-at.result.items c.loop-k.targets c.push.new.self c.in-Some.target c.loop-k-test.true c.place-at.ensures c.loop-k.invariant c.in-Some.ensures c.in_ok-push-in-Some.ensures.ok

pub returns : goal.returns
returns c =
    all_targets c.args.area.now (map origin c.args.to.now.places.now) c.args.to.now.bounds.now c.args.to.now.grid.now c.args.grid.now c.args.positions.now c.args.rows.now c.loop-k.k c.requires.each c.loop-k.targets c.loop-k-test.false c.loop-k.invariant
