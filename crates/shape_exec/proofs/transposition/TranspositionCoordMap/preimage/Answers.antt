use Rattle.std.proofs.Common.{◌∙◌}
use Rattle.array_rows.specs.Boxes.{is_between}
use Rattle.logical_plan.specs.Shapes.{backwards}
use Rattle.shape_rows.proofs.PullLaws.{between_reverse}
use Rattle.shape_exec.proofs.transposition.TranspositionCoordMap.preimage.Goals as goal

pub returns : goal.returns
returns c = λ y t a s. (λ i. is_between (c.backwards.ensures i) (c.backwards-2.ensures i) (backwards y)) ∙ between_reverse c.args.area.now.lo.items c.args.area.now.hi.items y a
