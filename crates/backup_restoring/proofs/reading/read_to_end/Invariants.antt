use Rattle.std.proofs.Common.{◌-◌, ◌^◌}
use Rattle.afl_outside.specs.Source.{Gives}
use Rattle.backup_restoring.proofs.reading.read_to_end.Given as goal

-- what was given so far is kept
abbrev pub invariant-pieces : goal.invariant-pieces
invariant-pieces g l = Gives (g.S.Source.state l.fn.source) (g.S.Source.state l.source) l.bytes

-- a source gives fewer than 2 ^ 63 bytes
abbrev pub decreases-pieces : goal.decreases-pieces
decreases-pieces g l = 2 ^ 63 - (g.S.Source.state l.source).given
