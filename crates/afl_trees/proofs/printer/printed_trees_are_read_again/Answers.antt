use Rattle.afl_trees.proofs.PrintedAgain.{are_read_again}
use Rattle.afl_trees.proofs.printer.printed_trees_are_read_again.Goals as goal

pub returns : goal.returns
returns c = are_read_again
