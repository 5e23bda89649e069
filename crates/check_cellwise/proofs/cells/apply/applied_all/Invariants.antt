use Rattle.std.proofs.Common.{◌≡◌, [], length}
use Rattle.check_rules.specs.InTurn.{pairs_in_turn}
use Rattle.check_cellwise.specs.Apply.{applied_one}
use Rattle.check_cellwise.proofs.cells.apply.applied_all.Given as goal

abbrev pub invariant-loop-left : goal.invariant-loop-left
invariant-loop-left l = pairs_in_turn (applied_one l.source) l.done l.left ≡ pairs_in_turn (applied_one l.source) [] l.arguments

abbrev pub decreases-loop-left : goal.decreases-loop-left
decreases-loop-left l = length l.left
