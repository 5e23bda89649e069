use Rattle.std.proofs.Common.{◌≡◌, length, arith}
use Rattle.std.specs.Vec.Iter.{into_iter_items}
use Rattle.chunk_workers.proofs.PieceLaws.{all_were_joined, none_joined, nothing_left, one_joined}
use Rattle.chunk_workers.proofs.workers.all_joined.Goals as goal

pub loop-part-init : goal.loop-part-init
loop-part-init g c = none_joined c.args.parts.items _ _ c.into_iter-part-iterator.ensures.into_iter_gives.0 c.new.ensures

pub loop-part-preserved : goal.loop-part-preserved
loop-part-preserved g c =
    one_joined c.args.parts.items _ (into_iter_items c.next.new.self) c.loop-part.all c.in-Some.part c.joined-all.result c.in-Some.ensures.steps.0 c.joined-all.ensures
    c.loop-part.invariant

pub returns : goal.returns
returns g c =
    let left = c.loop-part.part-iterator in
    let empty : length (into_iter_items left) ≡ 0 = omega (arith, left.rest.ok.0, c.in-None.ensures.steps.0) in
    all_were_joined c.args.parts.items (into_iter_items left) c.loop-part.all (nothing_left _ empty) c.loop-part.invariant
