use Rattle.std.proofs.Common.{length}
use Rattle.afl_outside.specs.Lemmas.TornLaws.{Torn-same}
use Rattle.test_quiet.proofs.Untold.{untold_time}
use Rattle.test_quiet.proofs.silent_disk.SilentDiskDisk.write_at.Goals as goal

pub returns-in-Ok-clause-crash : goal.returns-in-Ok-clause-crash
returns-in-Ok-clause-crash c = λ left any. (left, tt, Torn-same c.args.at (length c.args.bytes.now) left)

pub returns-in-Err-clause-crash : goal.returns-in-Err-clause-crash
returns-in-Err-clause-crash c = λ left any. (left, tt, Torn-same c.args.at (length c.args.bytes.now) left)

pub returns-in-Ok-clause-time : goal.returns-in-Ok-clause-time
returns-in-Ok-clause-time c = untold_time

pub returns-in-Err-clause-time : goal.returns-in-Err-clause-time
returns-in-Err-clause-time c = untold_time
