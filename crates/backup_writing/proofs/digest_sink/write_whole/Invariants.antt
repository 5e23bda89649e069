use Rattle.std.proofs.Common.{◌≤◌, ◌-◌, length, take}
use Rattle.afl_outside.specs.Sink.{Takes}
use Rattle.backup_writing.proofs.digest_sink.write_whole.Given as goal

-- what was written so far
abbrev pub invariant-pieces : goal.invariant-pieces
invariant-pieces g l = record { within : l.done ≤ length l.text; so_far : Takes (g.K.Sink.state l.fn.sink) (g.K.Sink.state l.sink) (take l.done l.text) }

abbrev pub decreases-pieces : goal.decreases-pieces
decreases-pieces g l = length l.text - l.done
