use Rattle.std.proofs.Common.{◌+◌, ◌-◌, ◌/◌, add-one, sym, ◌∙◌, arith}
use Rattle.window_overlap.proofs.FollowLaws.{before_upto, is_less}
use Rattle.window_overlap.proofs.chunks.skips.count_before.Goals as goal

pub loop-start-preserved-then-comes_before : goal.loop-start-preserved-then-comes_before
loop-start-preserved-then-comes_before c =
    let middle = c.loop-start.start + (c.loop-start.end - c.loop-start.start) / 2 in
    record {
      order = omega arith;
      within = c.loop-start.invariant.within;
      before = rw add-one (before_upto c.args.rows.now middle c.index-rows-middle.result c.args.at.now.items c.requires (omega arith) c.index-rows-middle.is (is_less _ (sym c.comes_before.ensures ∙ c.if-comes_before.true)));
    }
