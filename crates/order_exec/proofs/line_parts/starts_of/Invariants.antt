use Rattle.std.proofs.Common.{take}
use Rattle.group_rows.specs.Sets.{AreKeys}
use Rattle.order_exec.specs.Lines.{line_start}
use Rattle.order_exec.proofs.line_parts.starts_of.Given as goal

abbrev pub invariant-loop-row : goal.invariant-loop-row
invariant-loop-row l = AreKeys (line_start l.along.place l.along.low) l.keys (take l.row-index l.row-items)
