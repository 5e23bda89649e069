use Rattle.std.proofs.Common.{take}
use Rattle.redimension_exec.specs.Inner.Dense.{AreMarks}
use Rattle.redimension_exec.proofs.dense.groups.marks_of.Given as goal

abbrev pub invariant-loop-k : goal.invariant-loop-k
invariant-loop-k l = AreMarks l.to (take l.k l.targets) l.marks
