use Rattle.afl_outside.proofs.Streams.{Gives-more}
use Rattle.backup_restoring.proofs.reading.read_to_end.Goals as goal

pub returns-in-Err-extend : goal.returns-in-Err-extend
returns-in-Err-extend g c = record { bytes = _; gives = Gives-more _ _ _ _ _ c.pieces.invariant c.in-Ok.ensures.bytes }
