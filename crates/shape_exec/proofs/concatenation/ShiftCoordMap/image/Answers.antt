use Rattle.std.proofs.Common.{◌∙◌}
use Rattle.shape_exec.specs.Inner.Added.{step_of}
use Rattle.shape_exec.proofs.ConcatParts.{follow_exact}
use Rattle.shape_exec.proofs.concatenation.ShiftCoordMap.image.Goals as goal

pub returns : goal.returns
returns c = c.forth.ensures ∙ follow_exact (step_of c.args.self.now.left.now c.args.self.now.right.now) c.args.self.now.left.now c.args.self.now.right.now c.args.self.now.target.now c.requires.able c.args.at.now.items c.requires.inside
