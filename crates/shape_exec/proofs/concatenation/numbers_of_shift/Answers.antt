use Rattle.std.proofs.Common.{refl}
use Rattle.logical_plan.specs.Shapes.{along}
use Rattle.shape_exec.specs.Inner.Added.{step_of, turned_back}
use Rattle.shape_exec.proofs.ConcatParts.{follow_move}
use Rattle.shape_exec.proofs.PairParts.{reached_moved}
use Rattle.shape_exec.proofs.concatenation.numbers_of_shift.Goals as goal

pub numbers_reached-requires-clause-sound : goal.numbers_reached-requires-clause-sound
numbers_reached-requires-clause-sound c =
    (c.requires.able, c.requires.able.valid, refl, follow_move (step_of c.args.left.now c.args.right.now.schema) c.args.left.now c.args.right.now.schema c.args.schema.now c.requires.able)

pub returns-clause-listed : goal.returns-clause-listed
returns-clause-listed c =
    reached_moved c.args.schema.now.dimensions (along (step_of c.args.left.now c.args.right.now.schema)) (turned_back (step_of c.args.left.now c.args.right.now.schema)) c.args.right.now c.numbers_reached.result c.requires.cells
    (follow_move (step_of c.args.left.now c.args.right.now.schema) c.args.left.now c.args.right.now.schema c.args.schema.now c.requires.able) c.numbers_reached.ensures.reached
