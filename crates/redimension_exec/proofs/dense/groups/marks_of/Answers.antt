use Rattle.std.proofs.Common.{get_or, refl, ◌∙◌}
use Rattle.redimension_exec.proofs.GridGroups.{all_marks, next_marks, no_marks}
use Rattle.redimension_exec.proofs.dense.groups.marks_of.Goals as goal

pub loop-k-init : goal.loop-k-init
loop-k-init c = no_marks c.args.to.now c.args.targets.now c.from_vec-marks.result c.volume-count.result (c.from_vec-marks.ensures ∙ c.in_ok-from_elem.ensures.items_if_clones_equal (λ y h. h)) c.volume-count.ensures

pub loop-k-preserved : goal.loop-k-preserved
loop-k-preserved c =
    next_marks c.args.to.now c.args.targets.now c.loop-k.k (get_or c.args.targets.now c.loop-k.k 0) c.loop-k.marks c.set.new.self c.requires.grid c.requires.below c.loop-k-test.true refl c.set.ensures c.loop-k.invariant

pub returns : goal.returns
returns c = all_marks c.args.to.now c.args.targets.now c.loop-k.k c.loop-k.marks c.loop-k-test.false c.loop-k.invariant
