use Rattle.shape_exec.specs.Inner.Added.{step_of}
use Rattle.shape_exec.proofs.ConcatParts.{follow_back}
use Rattle.shape_exec.proofs.concatenation.ShiftCoordMap.preimage.Goals as goal

pub returns : goal.returns
returns c = follow_back (step_of c.args.self.now.left.now c.args.self.now.right.now) c.args.self.now.left.now c.args.self.now.right.now c.args.self.now.target.now c.requires c.args.area.now c.back.result.items c.back-2.result.items c.back.ensures c.back-2.ensures
