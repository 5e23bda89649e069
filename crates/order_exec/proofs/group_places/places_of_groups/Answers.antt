use Rattle.order_exec.proofs.GroupPlaceLaws.{all_groups, next_group}
use Rattle.order_exec.proofs.group_places.places_of_groups.Goals as goal

pub loop-k-preserved : goal.loop-k-preserved
loop-k-preserved c =
    next_group c.args.to.now.dims.now c.args.to.now.grid.now c.args.grid.now c.args.positions.now c.loop-k.k c.place-at.result.items c.in-Some.place c.loop-k.places c.push.new.self
    c.loop-k-test.true c.place-at.ensures c.loop-k.invariant c.in-Some.ensures c.in_ok-push-in-Some.ensures.ok

pub returns : goal.returns
returns c = all_groups c.args.to.now.dims.now c.args.to.now.grid.now c.args.grid.now c.args.positions.now c.loop-k.places c.loop-k.k c.loop-k-test.false c.loop-k.invariant
