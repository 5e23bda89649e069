use Rattle.std.proofs.Common.{take}
use Rattle.group_rows.specs.Inner.Places.{key_of}
use Rattle.group_rows.specs.Sets.{AreKeys}
use Rattle.group_rows.proofs.grouping.keys.keys_of.Given as goal

abbrev pub invariant-loop-row : goal.invariant-loop-row
invariant-loop-row l = AreKeys (key_of l.grouping) l.keys (take l.row-index l.row-items)
