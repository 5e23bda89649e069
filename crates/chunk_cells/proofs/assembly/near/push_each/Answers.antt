use Rattle.std.proofs.Common.{arith}
use Rattle.chunk_cells.proofs.NearFronts.{room_for_one, pushed_more}
use Rattle.chunk_cells.proofs.assembly.near.push_each.Goals as goal

pub push-requires : goal.push-requires
push-requires c = (omega arith, room_for_one c.args.out.now.items c.args.numbers.now c.loop-number.out.items c.loop-number.number-index c.loop-number.invariant c.loop-number-test.true c.requires)

pub loop-number-preserved : goal.loop-number-preserved
loop-number-preserved c = pushed_more c.args.out.now.items c.args.numbers.now c.loop-number.out.items c.push.new.self.items c.loop-number.number-index c.loop-number.invariant c.loop-number-test.true c.push.ensures.items
