use Rattle.std.proofs.Common.{◌≡◌, ◌++◌, map, length}
use Rattle.group_rows.specs.Taken.{group_of}
use Rattle.group_rows.proofs.rows.tree.groups_in.Given as goal

abbrev pub invariant-moving : goal.invariant-moving
invariant-moving l = l.made ++ map group_of l.groups.entries ≡ map group_of l.fn.groups.entries

abbrev pub decreases-moving : goal.decreases-moving
decreases-moving l = length l.groups.entries
