use Rattle.std.proofs.Common.{◌-◌, ◌≤◌, length}
use Rattle.afl_host.proofs.host_disk.fill.Given as goal

abbrev pub invariant-pieces : goal.invariant-pieces
invariant-pieces l = l.count ≤ length l.into

abbrev pub decreases-pieces : goal.decreases-pieces
decreases-pieces l = length l.initial.into - l.count
