use Rattle.std.proofs.Common.{map}
use Rattle.array_rows.specs.Boxes.{moved}
use Rattle.array_parts.specs.Cores.{cores_of}
use Rattle.logical_plan.specs.Shapes.{along}
use Rattle.shape_exec.specs.Inner.Added.{step_of}
use Rattle.shape_exec.proofs.ConcatParts.{both_within}
use Rattle.shape_exec.proofs.concatenation.rows_of_both.Goals as goal

pub returns : goal.returns
returns c =
    both_within c.args.area.now (cores_of c.args.left.now) (map (moved (along (step_of c.args.left.now.schema c.args.right.now.schema))) (cores_of c.args.right.now)) c.in_ok-rows.rows c.in_ok-rows_of_shift.field-0 c.in_ok-rows.ensures c.in_ok-rows_of_shift.ensures c.append.new.self c.in_ok-append.ensures.ok
