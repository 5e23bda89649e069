use Rattle.std.proofs.Common.{◌≡◌, [], length}
use Rattle.check_rules.specs.InTurn.{pairs_in_turn}
use Rattle.check_groups.specs.Windows.{reach_one}
use Rattle.check_groups.proofs.groups.window.reach_of.Given as goal

abbrev pub invariant-loop-left : goal.invariant-loop-left
invariant-loop-left l = pairs_in_turn reach_one l.done l.left ≡ pairs_in_turn reach_one [] l.numbers

abbrev pub decreases-loop-left : goal.decreases-loop-left
decreases-loop-left l = length l.left
