use Rattle.std.proofs.Common.{◌≡◌, [], length}
use Rattle.check_rules.specs.InTurn.{pairs_in_turn}
use Rattle.check_cellwise.specs.Slice.{fixed_one}
use Rattle.check_cellwise.proofs.boxes.slice.fixed_all.Given as goal

abbrev pub invariant-loop-left : goal.invariant-loop-left
invariant-loop-left l = pairs_in_turn (fixed_one l.dimensions) l.done l.left ≡ pairs_in_turn (fixed_one l.dimensions) [] l.arguments

abbrev pub decreases-loop-left : goal.decreases-loop-left
decreases-loop-left l = length l.left
