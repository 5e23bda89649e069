use Rattle.std.proofs.Common.{◌≡◌, length}
use Rattle.afl_parser.specs.Inner.Machine.{settle, FitsBelow}
use Rattle.afl_parser.proofs.reader.settle.Given as goal

abbrev pub invariant-loop-frame : goal.invariant-loop-frame
invariant-loop-frame l = (settle l.line l.stack l.tree ≡ settle l.line l.fn.stack l.fn.tree) × FitsBelow 128 (l.stack, l.tree)

abbrev pub decreases-loop-frame : goal.decreases-loop-frame
decreases-loop-frame l = length l.stack
