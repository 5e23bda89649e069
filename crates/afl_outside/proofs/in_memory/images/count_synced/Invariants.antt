use Rattle.std.proofs.Common.{◌≡◌, ◌≤◌, take}
use Rattle.afl_outside.specs.Images.{synced_count}
use Rattle.afl_outside.proofs.in_memory.images.count_synced.Given as goal

abbrev pub invariant-loop-i : goal.invariant-loop-i
invariant-loop-i l = (l.count ≡ synced_count (take l.i l.calls)) × (l.count ≤ l.i)
